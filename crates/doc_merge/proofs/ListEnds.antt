-- Comparing two lists place by place: where they differ in length, and where both are at their end.
use Rattle.std.proofs.Common.{◌≡◌, ◌≢◌, ℕ, Bool, true, false, ◌&&◌, List, [], ◌∷◌, map, length, bytes_eq, refl, arith}
use Rattle.plan_ir.specs.gql_ast.Value.{Val, vals_of, members_of}
use Rattle.plan_ir.specs.gql_ast.ValueView.{value_of, argument_of}
use Rattle.plan_ir.specs.gql_ast.declared.value.Argument.{Argument}
use Rattle.plan_ir.specs.gql_ast.declared.value.ValueTree.{ValueTree}
use Rattle.doc_merge.specs.Signatures.{same_members, same_value, same_values}

abbrev pub same_lists : List ValueTree → List ValueTree → Bool
same_lists xs ys = same_values (vals_of (map value_of xs)) (vals_of (map value_of ys))

abbrev pub same_pairs : List Argument → List Argument → Bool
same_pairs xs ys = same_members (members_of (map argument_of xs)) (members_of (map argument_of ys))

and_false : (a b : Bool) → b ≡ false → (a && b) ≡ false
and_false true b h = h
and_false false b h = refl

pub lists_lengths : (xs ys : List ValueTree) → length xs ≢ length ys → same_lists xs ys ≡ false
lists_lengths [] [] other = absurd (other refl)
lists_lengths [] (y ∷ ys) other = refl
lists_lengths (x ∷ xs) [] other = refl
lists_lengths (x ∷ xs) (y ∷ ys) other = and_false (same_value (value_of x) (value_of y)) _ (lists_lengths xs ys (λ e. other (omega arith)))

pub pairs_lengths : (xs ys : List Argument) → length xs ≢ length ys → same_pairs xs ys ≡ false
pairs_lengths [] [] other = absurd (other refl)
pairs_lengths [] (y ∷ ys) other = refl
pairs_lengths (x ∷ xs) [] other = refl
pairs_lengths (x ∷ xs) (y ∷ ys) other =
    and_false (bytes_eq x.name y.name) _ (and_false (same_value (value_of x.value) (value_of y.value)) _ (pairs_lengths xs ys (λ e. other (omega arith))))

pub lists_end : (xs ys : List ValueTree) → length xs ≡ 0 → length ys ≡ 0 → true ≡ same_lists xs ys
lists_end [] [] e f = refl
lists_end [] (y ∷ ys) e f = absurd (omega arith)
lists_end (x ∷ xs) ys e f = absurd (omega arith)

pub pairs_end : (xs ys : List Argument) → length xs ≡ 0 → length ys ≡ 0 → true ≡ same_pairs xs ys
pairs_end [] [] e f = refl
pairs_end [] (y ∷ ys) e f = absurd (omega arith)
pairs_end (x ∷ xs) ys e f = absurd (omega arith)

-- ---- members that are the same have the same pairs

pub members_of-inj : (xs ys : List (List ℕ × Val)) → members_of xs ≡ members_of ys → xs ≡ ys
members_of-inj [] [] p = refl
members_of-inj [] (y ∷ ys) p = cc
members_of-inj (x ∷ xs) [] p = cc
members_of-inj (x ∷ xs) (y ∷ ys) p =
    let key : x.0 ≡ y.0 = cc in
    let here : x.1 ≡ y.1 = cc in
    let rest : members_of xs ≡ members_of ys = cc in
    λ i. (key i, here i) ∷ members_of-inj xs ys rest i
