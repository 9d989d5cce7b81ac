-- One step of going over the layers.
use Rattle.std.proofs.Common.{◌≡◌, ℕ, zero, suc, ◌+◌, ◌-◌, ◌≤◌, ◌<◌, List, [], ◌∷◌, ◌++◌, take, drop, get_or, length, Option, Some, is_some, true≢false, String, Global, refl, sym, ap, ◌∙◌, subst, arith, unwrap_or}
use Rattle.std.proofs.lemmas.List.Edits.{between_more}
use Rattle.std.specs.List.{slice_get}
use Rattle.std.specs.Map.{values_of}
use Rattle.std.specs.declared.rc.Rc.{Rc}
use Rattle.store_update.specs.gql_plain.Counted.{next_count}
use Rattle.store_update.specs.store_model.Entries.{apply, fold_entries, weight}
use Rattle.store_update.specs.store_model.Records.{Records}
use Rattle.store_update.specs.store_model.declared.entry.Entry.{Entry}
use Rattle.store_layers.proofs.VersionSteps.{fold-append, weights-append}
use Rattle.store_layers.specs.Layered.{entries_of}
use Rattle.store_layers.specs.Versions.{layers_of, entries_within}
use Rattle.store_layers.specs.Work.{weights}

abbrev Named : Type 0
Named = List (String Global × Rc Entry Global)

-- ---- the entry at a place

pub layers_length : (named : Named) → length (entries_of (layers_of named)) ≡ length named
layers_length [] = refl
layers_length (n ∷ named) = ap (λ k. suc k) (layers_length named)

pub entry_at : (named : Named) (i : ℕ) (v : Rc Entry Global) → slice_get (values_of named) i ≡ Some v → get_or (entries_of (layers_of named)) i v.value ≡ v.value
entry_at [] i v e = absurd (true≢false (sym (ap is_some e)))
entry_at (n ∷ named) zero v e = ap (λ (o : Option (Rc Entry Global)). (unwrap_or o v).value) e
entry_at (n ∷ named) (suc i) v e = entry_at named i v e

pub within_more : (named : Named) (from i : ℕ) (v : Rc Entry Global) → from ≤ i → i < length named → slice_get (values_of named) i ≡ Some v
    → entries_within from (i + 1) named ≡ entries_within from i named ++ v.value ∷ []
within_more named from i v le lt is =
    between_more (entries_of (layers_of named)) from i v.value le (subst (λ n. i < n) (sym (layers_length named)) lt)
    ∙ ap (λ e. entries_within from i named ++ e ∷ []) (entry_at named i v is)

-- ---- work

pub weights-push : (es : List Entry) (e : Entry) (m : Records) → weights (es ++ e ∷ []) m ≡ weights es m + weight e (fold_entries es m)
weights-push es e m = let whole = weights-append es (e ∷ []) m in omega (arith, whole)

pub weights-take : (i j : ℕ) (es : List Entry) (m : Records) → i ≤ j → weights (take i es) m ≤ weights (take j es) m
weights-take zero j es m le = omega arith
weights-take (suc i) j [] m le = omega arith
weights-take (suc i) zero (e ∷ es) m le = absurd (omega (arith, le))
weights-take (suc i) (suc j) (e ∷ es) m le = omega (arith, weights-take i j es (apply e m) (omega (arith, le)))

-- one layer more
pub step_weighs : (before : List Entry) (named : Named) (from at : ℕ) (v : Rc Entry Global) (e : Entry) (m : Records) → from ≤ at → at < length named → slice_get (values_of named) at ≡ Some v → e ≡ v.value
    → weights (entries_within from (at + 1) named) (fold_entries before m) ≡ weights (entries_within from at named) (fold_entries before m) + weight e (fold_entries (before ++ entries_within from at named) m)
step_weighs before named from at v e m le lt is same =
    ap (λ es. weights es (fold_entries before m)) (within_more named from at v le lt is)
    ∙ weights-push (entries_within from at named) v.value (fold_entries before m)
    ∙ ap (λ w. weights (entries_within from at named) (fold_entries before m) + w) (λ i. weight (sym same i) (sym (fold-append before (entries_within from at named) m) i))

pub within_weighs : (named : Named) (from at end : ℕ) (m : Records) → at < end → weights (entries_within from (at + 1) named) m ≤ weights (entries_within from end named) m
within_weighs named from at end m lt = weights-take (at + 1 - from) (end - from) (drop from (entries_of (layers_of named))) m (omega (arith, lt))

pub next_le : (n : ℕ) → next_count n ≤ n + 1
next_le n = omega arith
