-- Names with values, sorted by name and then told by the texts of their values.
use Rattle.std.proofs.Common.{◌≡◌, ℕ, zero, suc, ◌≤◌, ◌<◌, List, [], ◌∷◌, ◌++◌, length, map, max, get_or, Ordering, Less, Equal, Greater, nat_cmp, refl, sym, ap, ◌∙◌, arith}
use Rattle.std.proofs.lemmas.List.{length-map}
use Rattle.std.specs.Cmp.Lexicographic.{slice_cmp}
use Rattle.std.specs.Ordering.{match_ordering}
use Rattle.plan_ir.specs.gql_ast.Value.{Val, members_depth, members_of, val_depth}
use Rattle.plan_ir.specs.gql_ast.ValueView.{value_of}
use Rattle.plan_ir.specs.OperationText.{arguments_text, by_name, enclose, enclose_some, member_texts, pairs_text, value_text, with_member}
use Rattle.plan_ir.specs.Substitution.{Arguments}
use Rattle.plan_text.specs.Pairs.{named_texts, pair_of, pair_text}
use Rattle.plan_text.specs.declared.order.Pair.{Pair}
use Rattle.plan_ir.specs.schema_tables.Types.{Text}

-- ---- what stands beside the names does not matter

module _ {X Y : Type 0} (f : X → Y) where
  abbrev on_value : Text × X → Text × Y
  on_value m = (m.0, f m.1)

  with_member-map : (m : Text × X) (ms : List (Text × X)) → with_member (on_value m) (map on_value ms) ≡ map on_value (with_member m ms)
  with_member-map m [] = refl
  with_member-map m (p ∷ ps) = on (with_member-map m ps) (slice_cmp nat_cmp m.0 p.0)
    where
      on : with_member (on_value m) (map on_value ps) ≡ map on_value (with_member m ps) → (o : Ordering)
          → match_ordering o (on_value m ∷ on_value p ∷ map on_value ps) (on_value m ∷ on_value p ∷ map on_value ps) (on_value p ∷ with_member (on_value m) (map on_value ps))
          ≡ map on_value (match_ordering o (m ∷ p ∷ ps) (m ∷ p ∷ ps) (p ∷ with_member m ps))
      on rest Less = refl
      on rest Equal = refl
      on rest Greater = ap (λ zs. on_value p ∷ zs) rest

  pub by_name-map : (ms : List (Text × X)) → by_name (map on_value ms) ≡ map on_value (by_name ms)
  by_name-map [] = refl
  by_name-map (m ∷ ms) = ap (with_member (on_value m)) (by_name-map ms) ∙ with_member-map m (by_name ms)

-- ---- a sorted list is no deeper

deeper_with : (m : Text × Val) (ms : Arguments) → members_depth (members_of (with_member m ms)) ≤ max (val_depth m.1) (members_depth (members_of ms))
deeper_with m [] = omega arith
deeper_with m (p ∷ ps) = on (deeper_with m ps) (slice_cmp nat_cmp m.0 p.0)
  where
    on : members_depth (members_of (with_member m ps)) ≤ max (val_depth m.1) (members_depth (members_of ps)) → (o : Ordering)
        → members_depth (members_of (match_ordering o (m ∷ p ∷ ps) (m ∷ p ∷ ps) (p ∷ with_member m ps)))
        ≤ max (val_depth m.1) (max (val_depth p.1) (members_depth (members_of ps)))
    on rest Less = omega arith
    on rest Equal = omega arith
    on rest Greater = omega (arith, rest)

pub by_name-depth : (ms : Arguments) → members_depth (members_of (by_name ms)) ≤ members_depth (members_of ms)
by_name-depth [] = omega arith
by_name-depth (m ∷ ms) = omega (arith, deeper_with m (by_name ms), by_name-depth ms)

pub less_deep : {P : Type 0} (value : P → Val) (h : P → Text × Val) (same : (p : P) → (h p).1 ≡ value p) (ps : List P) (i : ℕ) (d : P) → i < length ps
    → val_depth (value (get_or ps i d)) ≤ members_depth (members_of (map h ps))
less_deep value h same [] i d lt = omega arith
less_deep value h same (p ∷ ps) zero d lt = let e : val_depth (h p).1 ≡ val_depth (value p) = ap val_depth (same p) in omega (arith, e)
less_deep value h same (p ∷ ps) (suc i) d lt = let e = less_deep value h same ps i d (omega arith) in omega (arith, e)

-- ---- a list with elements is told between its brackets

pub length-with_member : {X : Type 0} (m : Text × X) (ms : List (Text × X)) → length (with_member m ms) ≡ suc (length ms)
length-with_member m [] = refl
length-with_member m (p ∷ ps) = on (length-with_member m ps) (slice_cmp nat_cmp m.0 p.0)
  where
    on : length (with_member m ps) ≡ suc (length ps) → (o : Ordering)
        → length (match_ordering o (m ∷ p ∷ ps) (m ∷ p ∷ ps) (p ∷ with_member m ps)) ≡ suc (suc (length ps))
    on rest Less = refl
    on rest Equal = refl
    on rest Greater = ap suc rest

enclosed_long : (o c e : ℕ) (ts : List Text) (n : ℕ) → length ts ≡ suc n → enclose_some o c e ts ≡ enclose o c e ts
enclosed_long o c e [] n long = absurd (omega (arith, long))
enclosed_long o c e (t ∷ ts) n long = refl

-- arguments are told between brackets where there is one
pub arguments_told : (xs : Arguments) → (xs ≡ [] → ⊥) → arguments_text xs ≡ enclose 40 44 41 (pairs_text (named_texts xs))
arguments_told [] some = absurd (some refl)
arguments_told (x ∷ xs) some =
    let texts : List (Text × Text) = named_texts xs in
    let long : length (pairs_text (named_texts (x ∷ xs))) ≡ suc (length (by_name texts)) =
    length-map (with_member (x.0, value_text x.1) (by_name texts)) (λ m. m.0 ++ 58 ∷ m.1) ∙ length-with_member (x.0, value_text x.1) (by_name texts) in
    enclosed_long 40 44 41 (pairs_text (named_texts (x ∷ xs))) (length (by_name texts)) long

pub member_texts-members_of : (xs : Arguments) → member_texts (members_of xs) ≡ named_texts xs
member_texts-members_of [] = refl
member_texts-members_of (x ∷ xs) = ap (λ ts. (x.0, value_text x.1) ∷ ts) (member_texts-members_of xs)

-- ---- pairs that stand in order

pair_texts-pairs : (ps : List Pair) → map pair_text ps ≡ map (λ m. m.0 ++ 58 ∷ m.1) (named_texts (map pair_of ps))
pair_texts-pairs [] = refl
pair_texts-pairs (p ∷ ps) = ap (λ ts. pair_text p ∷ ts) (pair_texts-pairs ps)

pub pairs_told : (xs : Arguments) (ps : List Pair) → map pair_of ps ≡ by_name xs → map pair_text ps ≡ pairs_text (named_texts xs)
pairs_told xs ps e =
    pair_texts-pairs ps
    ∙ ap (λ ms. map (λ m. m.0 ++ 58 ∷ m.1) (named_texts ms)) e
    ∙ ap (λ (ms : List (Text × Text)). map (λ m. m.0 ++ 58 ∷ m.1) ms) (sym (by_name-map value_text xs))

-- a pair's value is less deep than the object
pair_falls : (xs : Arguments) (ps : List Pair) (i : ℕ) (d : Pair) → map pair_of ps ≡ by_name xs → i < length ps
    → val_depth (value_of (get_or ps i d).value.now) ≤ members_depth (members_of xs)
pair_falls xs ps i d e lt =
    let there : val_depth (value_of (get_or ps i d).value.now) ≤ members_depth (members_of (map pair_of ps)) =
    less_deep (λ (p : Pair). value_of p.value.now) pair_of (λ p. refl) ps i d lt in
    let same : members_depth (members_of (map pair_of ps)) ≡ members_depth (members_of (by_name xs)) = ap (λ ms. members_depth (members_of ms)) e in
    omega (arith, there, same, by_name-depth xs)

-- the same of a pair that a loop has come to
pub pair_below : (ps : List Pair) (xs : Arguments) (i : ℕ) (x : Pair) → i < length ps → x ≡ get_or ps i x → map pair_of ps ≡ by_name xs
    → val_depth (value_of x.value.now) ≤ members_depth (members_of xs)
pair_below ps xs i x lt is e =
    let held : val_depth (value_of (get_or ps i x).value.now) ≤ members_depth (members_of xs) = pair_falls xs ps i x e lt in
    omega (arith, held, ap (λ (y : Pair). val_depth (value_of y.value.now)) is)
