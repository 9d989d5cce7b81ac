-- Values of lists and of objects.
use Rattle.std.proofs.Common.{◌≡◌, ℕ, zero, suc, ◌≤◌, length, drop, arith, ◌&&◌, true, List, [], ◌∷◌, refl, sym, ap, subst}
use Rattle.std.specs.Map as pairs
use Rattle.store_record.specs.gql_plain.Order.{AreInOrder}
use Rattle.store_record.specs.gql_plain.Shown.{shown_members}
use Rattle.store_record.specs.gql_plain.declared.plain.Plain.{Plain}
use Rattle.store_record.specs.gql_plain.Tree.{Tree, Trees, no_trees, tree, Members, no_members, member, members_of}
use Rattle.store_record.specs.Keys.{Text, trees_are_in_64_bits, members_are_in_64_bits}
use Rattle.image_marks.specs.Flat.{keys_of, AreOrdered, HasOrdered}
use Rattle.image_marks.specs.Values.{IsValue}

abbrev pub AreValues : Trees → Type 0
AreValues ts = AreOrdered ts × (trees_are_in_64_bits ts ≡ true)

abbrev pub HaveValues : Members → Type 0
HaveValues ms = HasOrdered ms × (members_are_in_64_bits ms ≡ true)

pub AreValues-cons : (t : Tree) (ts : Trees) → IsValue t → AreValues ts → AreValues (tree t ts)
AreValues-cons t ts h hs = ((h.0, hs.0), λ i. h.1 i && hs.1 i)

pub HaveValues-cons : (k : Text) (t : Tree) (ms : Members) → IsValue t → HaveValues ms → HaveValues (member k t ms)
HaveValues-cons k t ms h hs = ((h.0, hs.0), λ i. h.1 i && hs.1 i)

pub none_are : AreValues no_trees
none_are = (tt, refl)

pub none_have : HaveValues no_members
none_have = (tt, refl)

-- ---- the keys of what code holds

keys_of_shown : (es : List (Text × Plain)) → keys_of (members_of (shown_members es)) ≡ pairs.keys_of es
keys_of_shown [] = refl
keys_of_shown (e ∷ es) = ap (λ ks. e.0 ∷ ks) (keys_of_shown es)

pub ordered_keys : (es : List (Text × Plain)) (ms : List (Text × Tree)) → shown_members es ≡ ms → AreInOrder (pairs.keys_of es) → AreInOrder (keys_of (members_of ms))
ordered_keys es ms same order = subst (λ ns. AreInOrder (keys_of (members_of ns))) same (subst AreInOrder (sym (keys_of_shown es)) order)

past_end : {X : Type 0} (i : ℕ) (es : List X) → length es ≤ i → drop i es ≡ []
past_end zero [] h = refl
past_end (suc i) [] h = refl
past_end zero (e ∷ es) h = absurd (omega arith)
past_end (suc i) (e ∷ es) h = past_end i es (omega arith)

-- where none is left, all are values
pub all_made : (i : ℕ) (es : List (Text × Plain)) (ms : List (Text × Tree)) → length es ≤ i → shown_members es ≡ ms
    → (HaveValues (members_of (shown_members (drop i es))) → HaveValues (members_of (shown_members es))) → HaveValues (members_of ms)
all_made i es ms end same made =
    subst (λ ns. HaveValues (members_of ns)) same (made (subst (λ xs. HaveValues (members_of (shown_members xs))) (sym (past_end i es end)) none_have))
