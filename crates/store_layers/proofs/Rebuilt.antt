-- What a call of the layers builds.
use Rattle.std.proofs.Common.{◌≡◌, ℕ, suc, ◌+◌, ◌-◌, Bool, true, false, ◌||◌, List, [], ◌∷◌, ◌++◌, take, drop, length, length-drop, append-nil, append_assoc, String, Global, refl, sym, ap, ◌∙◌, subst, arith}
use Rattle.std.proofs.lemmas.List.{take_all, take-map, drop-map}
use Rattle.std.specs.declared.rc.Rc.{Rc}
use Rattle.store_update.specs.gql_plain.Order.{has_text}
use Rattle.store_update.specs.store_record.Keys.{Text}
use Rattle.store_update.specs.store_model.Entries.{all_named, apply, fold_entries, ids_named, weight}
use Rattle.store_sweeps.proofs.Written.{has_append}
use Rattle.store_update.specs.store_model.Records.{Records}
use Rattle.store_update.specs.store_model.declared.entry.Entry.{Entry}
use Rattle.store_update.specs.Touched.{AreTouched, is_changed}
use Rattle.store_update.specs.declared.entry.Changed.{Changed}
use Rattle.store_layers.proofs.Changes.{touched_is, noted_is, changed_are}
use Rattle.store_layers.proofs.Steps.{layers_length}
use Rattle.store_layers.proofs.VersionSteps.{versions-drop, versions-length, weights-append}
use Rattle.store_layers.specs.Changed.{AreChanged, is_changed_by}
use Rattle.store_layers.specs.Layered.{entries_of}
use Rattle.store_layers.specs.Versions.{Version, AreVersions, is_noted, shown, layers_of, entries_within, all_but}
use Rattle.store_layers.specs.Work.{weights}

abbrev Named : Type 0
Named = List (String Global × Rc Entry Global)

abbrev entries : Named → List Entry
entries named = entries_of (layers_of named)

-- ---- parts of the layers

pub within_first : (named : Named) (at : ℕ) → entries_within 0 at named ≡ take at (entries named)
within_first named at = let e : at - 0 ≡ at = omega arith in ap (λ n. take n (entries named)) e

pub within_rest : (named : Named) (from n : ℕ) → n ≡ length named → entries_within from n named ≡ drop from (entries named)
within_rest named from n is =
    take_all (n - from) (drop from (entries named)) (omega (arith, length-drop from (entries named), layers_length named, is))

pub within_all : (named : Named) (n : ℕ) → n ≡ length named → entries_within 0 n named ≡ entries named
within_all named n is = within_rest named 0 n is

-- ---- the ids that entries name

named_append : (es fs : List Entry) → all_named (es ++ fs) ≡ all_named es ++ all_named fs
named_append [] fs = refl
named_append (e ∷ es) fs = ap (λ ids. ids_named e ++ ids) (named_append es fs) ∙ sym (append_assoc (ids_named e) (all_named es) (all_named fs))

pub named_more : (es : List Entry) (e : Entry) (j : Text) → has_text (all_named (es ++ e ∷ [])) j ≡ (has_text (all_named es) j || has_text (ids_named e) j)
named_more es e j =
    ap (λ ids. has_text ids j) (named_append es (e ∷ []))
    ∙ has_append (all_named es) (ids_named e ++ []) j
    ∙ ap (λ ids. has_text (all_named es) j || has_text ids j) (append-nil (ids_named e))

-- ---- versions

-- versions that were put after those of some entries are those of these and more
abbrev pub Puts : Records → List Version → List Entry → List Version → Type 0
Puts m old more new = (before : List Entry) → AreVersions m before old → AreVersions m (before ++ more) new

pub all_put : (m : Records) (named : Named) (n : ℕ) (news : List Version) → n ≡ length named → Puts m [] (entries_within 0 n named) news → AreVersions m (entries named) news
all_put m named n news is put = subst (λ es. AreVersions m es news) (within_all named n is) (put [] tt)

pub others_put : (m : Records) (named : Named) (at n : ℕ) (mids news : List Version) → n ≡ length named
    → Puts m [] (entries_within 0 at named) mids → Puts m mids (entries_within (at + 1) n named) news → AreVersions m (all_but at (entries_of (layers_of named))) news
others_put m named at n mids news is first then =
    subst (λ es. AreVersions m es news) (λ i. within_first named at i ++ within_rest named (at + 1) n is i) (then (entries_within 0 at named) (first [] tt))

-- ---- ids

turn : (a b c : Bool) → (a || b || c) ≡ (b || (a || c))
turn true true c = refl
turn true false c = refl
turn false true c = refl
turn false false c = refl

pub confirmed_ids : (m : Records) (e : Entry) (es fs : List Entry) (olds news : List Version) (touched ids : List Text)
    → AreVersions m es olds → AreTouched m (apply e m) touched → AreVersions (apply e m) fs news
    → ((id : Text) → has_text ids id ≡ (has_text touched id || is_noted olds id || is_noted news id)) → AreChanged m es (e ∷ fs) ids
confirmed_ids m e es fs olds news touched ids old now new has = changed_are m es (e ∷ fs) ids (λ id.
    has id
    ∙ (λ i. touched_is m (apply e m) touched id now i || noted_is m es olds id old i || noted_is (apply e m) fs news id new i)
    ∙ turn (is_changed m (apply e m) id) (is_changed_by es m id) (is_changed_by fs (apply e m) id))

pub reverted_ids : (m : Records) (named : Named) (at : ℕ) (olds news : List Version) (ids : List Text)
    → AreVersions m (entries named) olds → AreVersions (fold_entries (take at (entries named)) m) (drop (at + 1) (entries named)) news
    → ((id : Text) → has_text ids id ≡ (is_noted (drop at olds) id || is_noted news id))
    → AreChanged (fold_entries (take at (entries named)) m) (drop at (entries named)) (drop (at + 1) (entries named)) ids
reverted_ids m named at olds news ids old new has =
    let es = entries named in
    changed_are (fold_entries (take at es) m) (drop at es) (drop (at + 1) es) ids (λ id.
    has id
    ∙ (λ i. noted_is (fold_entries (take at es) m) (drop at es) (drop at olds) id (versions-drop at m es olds old) i || noted_is (fold_entries (take at es) m) (drop (at + 1) es) news id new i))

-- ---- lengths

module _ {S C : Type 0} (records : S → Records) where
  pub shown-take : (at : ℕ) (vs : List (Changed S C)) → shown records (take at vs) ≡ take at (shown records vs)
  shown-take at vs = sym (take-map (λ (v : Changed S C). record { records = records v.source; touched = v.touched }) at vs)

  pub shown-drop : (at : ℕ) (vs : List (Changed S C)) → shown records (drop at vs) ≡ drop at (shown records vs)
  shown-drop at vs = sym (drop-map (λ (v : Changed S C). record { records = records v.source; touched = v.touched }) at vs)

  pub shown-length : (vs : List (Changed S C)) → length (shown records vs) ≡ length vs
  shown-length [] = refl
  shown-length (v ∷ vs) = ap (λ n. suc n) (shown-length vs)

  pub kept_length : (m : Records) (named : Named) (vs : List (Changed S C)) → AreVersions m (entries named) (shown records vs) → length vs ≡ length named
  kept_length m named vs h = sym (shown-length vs) ∙ versions-length m (entries named) (shown records vs) h ∙ layers_length named

-- ---- work

pub confirm_weighs : (m m1 : Records) (e : Entry) (named : Named) (n : ℕ) → m1 ≡ apply e m → n ≡ length named
    → weights (e ∷ entries named) m ≡ weight e m + weights (entries_within 0 n named) m1
confirm_weighs m m1 e named n is len = ap (λ w. weight e m + w) (λ i. weights (sym (within_all named n len) i) (sym is i))

pub finish_weighs : (m m1 : Records) (e : Entry) (named : Named) (at n : ℕ) → m1 ≡ apply e m → n ≡ length named
    → weights (e ∷ all_but at (entries_of (layers_of named))) m
    ≡ weight e m + (weights (entries_within 0 at named) m1 + weights (entries_within (at + 1) n named) (fold_entries (entries_within 0 at named) m1))
finish_weighs m m1 e named at n is len = ap (λ w. weight e m + w)
    ((λ i. weights (sym (within_first named at) i ++ sym (within_rest named (at + 1) n len) i) (sym is i))
    ∙ weights-append (entries_within 0 at named) (entries_within (at + 1) n named) m1)

pub revert_weighs : (m : Records) (named : Named) (at n : ℕ) → n ≡ length named
    → weights (entries_within (at + 1) n named) (fold_entries (take at (entries named)) m) ≡ weights (drop (at + 1) (entries named)) (fold_entries (take at (entries named)) m)
revert_weighs m named at n len = ap (λ es. weights es (fold_entries (take at (entries named)) m)) (within_rest named (at + 1) n len)
