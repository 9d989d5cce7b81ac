-- What fragments need: how it is put together, and what follows where nothing of it is wrong.
use Rattle.std.proofs.Common.{◌≡◌, ℕ, zero, suc, ◌+◌, ◌<◌, ◌≤◌, min, Bool, true, false, true≢false, not, cond, ◌||◌, List, [], ◌∷◌, ◌++◌, map, drop, set, length, get_or, add-one, Option, Some, None, is_some, unwrap_or, bytes_eq, refl, ap, sym, subst, ◌∙◌, arith}
use Rattle.std.proofs.Math.Seq.{drop-cons}
use Rattle.std.proofs.lemmas.List.{append-nil, drop_all}
use Rattle.std.specs.List.{list_any}
use Rattle.doc_sites.specs.gql_ast.Ty.{Ty}
use Rattle.doc_sites.specs.gql_ast.Ty as ty
use Rattle.doc_sites.specs.gql_plain.Order.{has_text}
use Rattle.doc_sites.specs.schema_types.ArgumentRules.{Use, Place, is_allowed, use_wrong, variable_named}
use Rattle.doc_sites.specs.gql_graph.Leasts.{least_from}
use Rattle.doc_sites.specs.schema_types.NameRules.{spread_by, spreads_in, names_of_all}
use Rattle.doc_sites.specs.gql_graph.Reached.{leads, any_leads}
use Rattle.doc_sites.specs.schema_rules.Rules.{each, same_type, wrong}
use Rattle.doc_sites.specs.schema_types.Sites.{FragmentAt, OperationAt, VariableAt}
use Rattle.doc_sites.specs.gql_graph.Texts.{Text}
use Rattle.doc_sites.proofs.gql_graph_laws.LeastSteps.{each-append}
use Rattle.doc_sites.proofs.gql_graph_laws.TextSteps.{same_text, either_of, some_of}
use Rattle.doc_uses.specs.Needs.{AreHarmless, Covers, CoversKnown, HasNeed, IsKnownHarmless, IsSameNeed, Sums, SumsUp, uses_needed}
use Rattle.doc_uses.specs.Parts.{part_for, uses_wrong_in}
use Rattle.doc_uses.specs.UsesByName.{uses_among}
use Rattle.doc_uses.specs.UseView.{use_of}
use Rattle.doc_uses.specs.declared.needs.Needs.{Needs}
use Rattle.doc_uses.specs.declared.uses.Use as code
use Rattle.doc_uses.proofs.Absorbing.{absorbs_first, absorbs_second, absorbs_both, parts_absorbed}
use Rattle.doc_sites.proofs.ListSteps.{each-map}
use Rattle.doc_uses.proofs.UseSteps.{parts_wrong}
use denote.Ref.{Bor}

-- ---- one use

-- a later place changes nothing, where an earlier one does not
later : (o : Option ℕ) (b : Bool) (i j : ℕ) → i ≤ j → least_from o (wrong b i) ≡ o → least_from o (wrong b j) ≡ o
later o false i j h e = refl
later None true i j h e = absurd (true≢false (ap is_some e))
later (Some m) true i j h e =
    let least : min m i ≡ m = ap (λ (x : Option ℕ). unwrap_or x 0) e in
    ap Some (omega (arith, least))

is_bad : List VariableAt → Text → Option Place → Bool
is_bad vs n p = not (is_allowed (variable_named vs n) p)

-- of two uses that are the same but for their places the later one is harmless where the first is
pub same_harmless : (vs : List VariableAt) (o : Option ℕ) (u w : Use) → IsSameNeed u w → u.name.at ≤ w.name.at → least_from o (use_wrong vs [] u) ≡ o → least_from o (use_wrong vs [] w) ≡ o
unfolding is_bad
same_harmless vs o u w s h e =
    later o (is_bad vs w.name.name w.place) u.name.at w.name.at h (sym (ap (λ (b : Bool). least_from o (wrong b u.name.at)) (λ k. is_bad vs (s.names k) (s.places k))) ∙ e)

other_way : (u w : Use) → IsSameNeed u w → IsSameNeed w u
other_way u w s = record { names = sym s.names; places = sym s.places }

-- a use that is allowed
pub allowed_harmless : (o : Option ℕ) (b : Bool) (at : ℕ) → b ≡ true → least_from o (wrong (not b) at) ≡ o
allowed_harmless o true at e = refl
allowed_harmless o false at e = absurd (true≢false (sym e))

-- types that are the same
pub same_types : (a b : Ty) → same_type a b ≡ true → a ≡ b
same_types (ty.named m) (ty.named n) e = ap (λ (t : Text). ty.named t) (same_text m n e)
same_types (ty.named m) (ty.list b) e = absurd (true≢false (sym e))
same_types (ty.named m) (ty.non_null b) e = absurd (true≢false (sym e))
same_types (ty.list a) (ty.named n) e = absurd (true≢false (sym e))
same_types (ty.list a) (ty.list b) e = ap (λ (t : Ty). ty.list t) (same_types a b e)
same_types (ty.list a) (ty.non_null b) e = absurd (true≢false (sym e))
same_types (ty.non_null a) (ty.named n) e = absurd (true≢false (sym e))
same_types (ty.non_null a) (ty.list b) e = absurd (true≢false (sym e))
same_types (ty.non_null a) (ty.non_null b) e = ap (λ (t : Ty). ty.non_null t) (same_types a b e)

-- ---- lists of uses

pub split : (f : Use → List ℕ) (o : Option ℕ) (us ws : List Use) → least_from o (each f (us ++ ws)) ≡ o → (least_from o (each f us) ≡ o) × (least_from o (each f ws) ≡ o)
split f o us ws e =
    let both : least_from o (each f us ++ each f ws) ≡ o = sym (ap (least_from o) (each-append f us ws)) ∙ e in
    (absorbs_first o (each f us) (each f ws) both, absorbs_second o (each f us) (each f ws) both)

join : (f : Use → List ℕ) (o : Option ℕ) (us ws : List Use) → least_from o (each f us) ≡ o → least_from o (each f ws) ≡ o → least_from o (each f (us ++ ws)) ≡ o
join f o us ws e g = ap (least_from o) (each-append f us ws) ∙ absorbs_both o (each f us) (each f ws) e g

alone : (f : Use → List ℕ) (o : Option ℕ) (u : Use) → least_from o (f u) ≡ o → least_from o (each f (u ∷ [])) ≡ o
alone f o u e = ap (least_from o) (append-nil (f u)) ∙ e

one_of : {X : Type 0} (f : X → List ℕ) (o : Option ℕ) (xs : List X) (i : ℕ) (d : X) → i < length xs → least_from o (each f xs) ≡ o → least_from o (f (get_or xs i d)) ≡ o
one_of f o [] i d h e = absurd (omega arith)
one_of f o (x ∷ xs) zero d h e = absorbs_first o (f x) (each f xs) e
one_of f o (x ∷ xs) (suc i) d h e =
    let below : i < length xs = omega arith in
    one_of f o xs i d below (absorbs_second o (f x) (each f xs) e)

-- one is put in the place of another
replaces : {X : Type 0} (f : X → List ℕ) (o : Option ℕ) (xs : List X) (i : ℕ) (y d : X) → i < length xs → (least_from o (f y) ≡ o → least_from o (f (get_or xs i d)) ≡ o)
    → least_from o (each f (set xs i y)) ≡ o → (least_from o (each f xs) ≡ o) × (least_from o (f y) ≡ o)
replaces f o [] i y d h g e = absurd (omega arith)
replaces f o (x ∷ xs) zero y d h g e =
    let new : least_from o (f y) ≡ o = absorbs_first o (f y) (each f xs) e in
    (absorbs_both o (f x) (each f xs) (g new) (absorbs_second o (f y) (each f xs) e), new)
replaces f o (x ∷ xs) (suc i) y d h g e =
    let below : i < length xs = omega arith in
    let rest : (least_from o (each f xs) ≡ o) × (least_from o (f y) ≡ o) = replaces f o xs i y d below g (absorbs_second o (f x) (each f (set xs i y)) e) in
    (absorbs_both o (f x) (each f xs) (absorbs_first o (f x) (each f (set xs i y)) e) rest.0, rest.1)

-- ---- a use is put

-- a use that is there stands before it
pub put_later : (all : List code.Use) (one : code.Use) (at : ℕ) → HasNeed all one at → (get_or all at one).name.at ≤ one.name.at → Covers (map use_of all) (map use_of all ++ use_of one ∷ [])
put_later all one at s h = λ vs o e.
    join (use_wrong vs []) o (map use_of all) (use_of one ∷ []) e (alone (use_wrong vs []) o (use_of one) (same_harmless vs o (use_of (get_or all at one)) (use_of one) s.same h
    (one_of (λ u. use_wrong vs [] (use_of u)) o all at one s.within (ap (least_from o) (each-map use_of (use_wrong vs []) all) ∙ e))))

-- it is put in the place of a later one
pub put_before : (all : List code.Use) (one : code.Use) (at : ℕ) → HasNeed all one at → one.name.at < (get_or all at one).name.at
    → Covers (map use_of (set all at one)) (map use_of all ++ use_of one ∷ [])
put_before all one at s h = λ vs o e.
    let earlier : one.name.at ≤ (get_or all at one).name.at = omega (arith, h) in
    let both = replaces (λ u. use_wrong vs [] (use_of u)) o all at one one s.within
    (λ g. same_harmless vs o (use_of one) (use_of (get_or all at one)) (other_way (use_of (get_or all at one)) (use_of one) s.same) earlier g)
    (ap (least_from o) (each-map use_of (use_wrong vs []) (set all at one)) ∙ e) in
    join (use_wrong vs []) o (map use_of all) (use_of one ∷ []) (sym (ap (least_from o) (each-map use_of (use_wrong vs []) all)) ∙ both.0) (alone (use_wrong vs []) o (use_of one) both.1)

-- what stands in a list, whatever is said of the places behind it
pub same_at : {X : Type 0} (xs : List X) (i : ℕ) (d e : X) → i < length xs → get_or xs i d ≡ get_or xs i e
same_at [] i d e h = absurd (omega arith)
same_at (x ∷ xs) zero d e h = refl
same_at (x ∷ xs) (suc i) d e h =
    let below : i < length xs = omega arith in
    same_at xs i d e below

-- ---- uses are put in turn

one_more : {X A : Type 0} (view : X → A) (xs : List X) (i : ℕ) (x : X) → i < length xs → x ≡ get_or xs i x → map view (drop i xs) ≡ view x ∷ map view (drop (i + 1) xs)
one_more {X = X} view xs i x h is =
    let same : drop i xs ≡ get_or xs i x ∷ drop (i + 1) xs = rw add-one (drop-cons xs i x h) in
    ap (map view) same ∙ ap (λ (y : X). view y ∷ map view (drop (i + 1) xs)) (sym is)

pub put_next : (xs : List code.Use) (i : ℕ) (x : code.Use) (old new whole : List Use) → i < length xs → x ≡ get_or xs i x → Covers new (old ++ use_of x ∷ [])
    → Covers (old ++ map use_of (drop i xs)) whole → Covers (new ++ map use_of (drop (i + 1) xs)) whole
put_next xs i x old new whole h is k w = λ vs o e.
    let f : Use → List ℕ = use_wrong vs [] in
    let rest : List Use = map use_of (drop (i + 1) xs) in
    let now = split f o new rest e in
    let before = split f o old (use_of x ∷ []) (k vs o now.0) in
    let more : least_from o (each f (use_of x ∷ rest)) ≡ o = join f o (use_of x ∷ []) rest before.1 now.1 in
    w vs o (ap (λ (us : List Use). least_from o (each f (old ++ us))) (one_more use_of xs i x h is) ∙ join f o old (use_of x ∷ rest) before.0 more)

pub put_end : (xs : List code.Use) (i : ℕ) (all whole : List Use) → length xs ≤ i → Covers (all ++ map use_of (drop i xs)) whole → Covers all whole
put_end xs i all whole h w = λ vs o e.
    w vs o (ap (λ (us : List Use). least_from o (each (use_wrong vs []) us)) (ap (λ (ys : List code.Use). all ++ map use_of ys) (drop_all i xs h) ∙ append-nil all) ∙ e)

pub covers_both : (all old us : List Use) → Covers all (old ++ us) → Covers all old × Covers all us
covers_both all old us k = (λ vs o e. (split (use_wrong vs []) o old us (k vs o e)).0, λ vs o e. (split (use_wrong vs []) o old us (k vs o e)).1)

pub covers_known : (all us : List Use) (known : Option (List Use)) → Covers all us → CoversKnown us known → CoversKnown all known
covers_known all us None c k = k
covers_known all us (Some ws) c k = λ vs o e. k vs o (c vs o e)

-- ---- names in turn

has_next : (xs : List (Bor Text)) (i : ℕ) (d : Bor Text) (m : Text) → i < length xs
    → has_text (map (λ (n : Bor Text). n.now) (drop i xs)) m ≡ (bytes_eq (get_or xs i d).now m || has_text (map (λ (n : Bor Text). n.now) (drop (i + 1) xs)) m)
has_next xs i d m h =
    let same : drop i xs ≡ get_or xs i d ∷ drop (i + 1) xs = rw add-one (drop-cons xs i d h) in
    ap (λ (ys : List (Bor Text)). has_text (map (λ (n : Bor Text). n.now) ys) m) same

-- what holds of the names so far and of the next one
pub name_next : (P : Text → Type 0) (xs : List (Bor Text)) (i : ℕ) (d : Bor Text) (m : Text) → i < length xs → P (get_or xs i d).now
    → (has_text (map (λ (n : Bor Text). n.now) (drop i xs)) m ≡ false → P m) → has_text (map (λ (n : Bor Text). n.now) (drop (i + 1) xs)) m ≡ false → P m
name_next P xs i d m h p old e = on (bytes_eq (get_or xs i d).now m) refl
  where
    on : (b : Bool) → bytes_eq (get_or xs i d).now m ≡ b → P m
    on true g = subst P (same_text (get_or xs i d).now m g) p
    on false g = old (has_next xs i d m h ∙ ap (λ (b : Bool). b || has_text (map (λ (n : Bor Text). n.now) (drop (i + 1) xs)) m) g ∙ e)

pub none_left : (xs : List (Bor Text)) (i : ℕ) (m : Text) → length xs ≤ i → has_text (map (λ (n : Bor Text). n.now) (drop i xs)) m ≡ false
none_left xs i m h = ap (λ (ys : List (Bor Text)). has_text (map (λ (n : Bor Text). n.now) ys) m) (drop_all i xs h)

-- ---- what is needed of a name is put

is_known : (all : List Use) (o : Option (List Use)) → CoversKnown all o → is_some o ≡ true
is_known all None k = absurd k
is_known all (Some us) k = refl

-- a name is put of which nothing was known
pub sums : (old new : Needs) (name : Text) (all : List Use) (next : Text → List Text) (uses : Text → List Use) → SumsUp old next uses → is_some (uses_needed old name) ≡ false
    → ((n : Text) → uses_needed new n ≡ cond (bytes_eq name n) (Some all) (uses_needed old n)) → Covers all (uses name) → ((m : Text) → has_text (next name) m ≡ true → CoversKnown all (uses_needed old m)) → SumsUp new next uses
sums old new name all next uses s absent put own below n = subst (λ (o : Option (List Use)). Sums new (uses n) (next n) o) (sym (put n)) (on (bytes_eq name n) refl)
  where
    still : (us : List Use) (m : Text) → CoversKnown us (uses_needed old m) → CoversKnown us (uses_needed new m)
    still us m k = subst (λ (o : Option (List Use)). CoversKnown us o) (sym (put m)) (case (bytes_eq name m) refl)
      where
        case : (b : Bool) → bytes_eq name m ≡ b → CoversKnown us (cond b (Some all) (uses_needed old m))
        case true e = absurd (true≢false (sym (is_known us (uses_needed old m) k) ∙ sym (ap (λ (t : Text). is_some (uses_needed old t)) (same_text name m e)) ∙ absent))
        case false e = k

    older : (o : Option (List Use)) → Sums old (uses n) (next n) o → Sums new (uses n) (next n) o
    older None x = tt
    older (Some us) x = (x.0, λ m h. still us m (x.1 m h))

    on : (b : Bool) → bytes_eq name n ≡ b → Sums new (uses n) (next n) (cond b (Some all) (uses_needed old n))
    on true e = (
      subst (λ (t : Text). Covers all (uses t)) (same_text name n e) own,
      λ m h. still all m (below m (ap (λ (t : Text). has_text (next t) m) (same_text name n e) ∙ h)),
    )
    on false e = older (uses_needed old n) (s n)

-- ---- what an operation reaches

-- what is harmless is harmless in all that is reached from there
module _ (needs : Needs) (next : Text → List Text) (uses : Text → List Use) (vs : List VariableAt) (o : Option ℕ) (s : SumsUp needs next uses) where
  passes : (all : List Use) (known : Option (List Use)) → CoversKnown all known → AreHarmless vs o all → IsKnownHarmless vs o known
  passes all None k h = k
  passes all (Some us) k h = k vs o h

  one_step : (n m : Text) → IsKnownHarmless vs o (uses_needed needs n) → has_text (next n) m ≡ true → IsKnownHarmless vs o (uses_needed needs m)
  one_step n m h e = on (uses_needed needs n) (s n) h
    where
      on : (known : Option (List Use)) → Sums needs (uses n) (next n) known → IsKnownHarmless vs o known → IsKnownHarmless vs o (uses_needed needs m)
      on None x k = absurd k
      on (Some all) x k = passes all (uses_needed needs m) (x.1 m e) k

  steps : (k : ℕ) (n m : Text) → IsKnownHarmless vs o (uses_needed needs n) → leads next k n m ≡ true → IsKnownHarmless vs o (uses_needed needs m)
  steps zero n m h e = subst (λ (t : Text). IsKnownHarmless vs o (uses_needed needs t)) (same_text n m e) h
  steps (suc k) n m h e = either_of (bytes_eq n m) (list_any (λ x. leads next k x m) (next n)) e
      (λ g. subst (λ (t : Text). IsKnownHarmless vs o (uses_needed needs t)) (same_text n m g) h)
      (λ g. some_of (λ x. leads next k x m) (next n) g (λ x i j. steps k x m (one_step n x h i) j))

  own : (n : Text) → IsKnownHarmless vs o (uses_needed needs n) → AreHarmless vs o (uses n)
  own n h = on (uses_needed needs n) (s n) h
    where
      on : (known : Option (List Use)) → Sums needs (uses n) (next n) known → IsKnownHarmless vs o known → AreHarmless vs o (uses n)
      on None x k = absurd k
      on (Some all) x k = x.0 vs o k

  reached_harmless : (k : ℕ) (starts : List Text) → ((m : Text) → has_text starts m ≡ true → IsKnownHarmless vs o (uses_needed needs m)) → (n : Text) → any_leads next k starts n ≡ true → AreHarmless vs o (uses n)
  reached_harmless k starts h n e = some_of (λ x. leads next k x n) starts e (λ x i j. own n (steps k x n (h x i) j))

-- where what the fragments need that an operation spreads is harmless, nothing is wrong in those that it reaches
pub nothing_wrong : (used : FragmentAt → List Use) (fs : List FragmentAt) (o : OperationAt) (needs : Needs) (before : Option ℕ) → SumsUp needs (spread_by fs) (uses_among used fs)
    → ((m : Text) → has_text (names_of_all (spreads_in o.sites)) m ≡ true → IsKnownHarmless o.variables before (uses_needed needs m)) → least_from before (each (uses_wrong_in used fs o) fs) ≡ before
nothing_wrong used fs o needs before s h =
    let is_one : Text → Bool = λ n. any_leads (spread_by fs) (length fs) (names_of_all (spreads_in o.sites)) n in
    sym (ap (least_from before) (parts_wrong used fs o is_one (λ to. refl) fs))
    ∙ parts_absorbed (use_wrong o.variables []) before is_one (map (part_for used) fs)
    (λ n e. reached_harmless needs (spread_by fs) (uses_among used fs) o.variables before s (length fs) (names_of_all (spreads_in o.sites)) h n e)

-- uses that are looked at in turn
pub harmless_next : (vs : List VariableAt) (o : Option ℕ) (xs : List code.Use) (i : ℕ) (x : code.Use) → i < length xs → x ≡ get_or xs i x → least_from o (use_wrong vs [] (use_of x)) ≡ o
    → AreHarmless vs o (map use_of (drop (i + 1) xs)) → AreHarmless vs o (map use_of (drop i xs))
harmless_next vs o xs i x h is e rest =
    ap (λ (us : List Use). least_from o (each (use_wrong vs []) us)) (one_more use_of xs i x h is) ∙ absorbs_both o (use_wrong vs [] (use_of x)) (each (use_wrong vs []) (map use_of (drop (i + 1) xs))) e rest

pub harmless_end : (vs : List VariableAt) (o : Option ℕ) (xs : List code.Use) (i : ℕ) → length xs ≤ i → AreHarmless vs o (map use_of (drop i xs))
harmless_end vs o xs i h = ap (λ (ys : List code.Use). least_from o (each (use_wrong vs []) (map use_of ys))) (drop_all i xs h)
