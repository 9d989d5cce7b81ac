-- Steps of the walk that numbers the nodes of a schema.
use Rattle.std.proofs.Common.{◌≡◌, ℕ, zero, suc, ◌+◌, ◌-◌, ◌<◌, ◌≤◌, List, [], ◌∷◌, map, length, get_or, ap, arith}
use Rattle.schema_tables.specs.gql_ast.Ty.{Ty}
use Rattle.schema_tables.specs.gql_ast.Ty as ty
use Rattle.schema_tables.specs.gql_ast.TypeView.{ty_of}
use Rattle.schema_tables.specs.gql_ast.Value.{Val, vals_of, members_of, val_depth, vals_depth, members_depth}
use Rattle.schema_tables.specs.gql_ast.ValueView.{value_of, argument_of}
use Rattle.schema_tables.specs.gql_ast.declared.type_tree.TypeTree.{TypeTree}
use Rattle.schema_tables.specs.gql_ast.declared.value.Argument.{Argument}
use Rattle.schema_tables.specs.gql_ast.declared.value.ValueTree.{ValueTree}
use Rattle.schema_trees.specs.Located.{type_at, type_nodes}
use Rattle.schema_trees.specs.Located as spec

-- the place of a type's name is the last of the type
pub type_end : (from : ℕ) (t : Ty) → suc (type_at from t).at ≡ from + type_nodes t
type_end from (ty.named n) = omega arith
type_end from (ty.list t) = let h : suc (type_at from t).at ≡ from + type_nodes t = type_end from t in omega arith
type_end from (ty.non_null t) = let h : suc (type_at from t).at ≡ from + type_nodes t = type_end from t in omega arith

same_place : (t : Ty) (m n : ℕ) → m ≡ n → (let a : spec.TypeAt = record { of = t; at = m } in a) ≡ record { of = t; at = n }
same_place t m n e = ap (λ (x : ℕ). let a : spec.TypeAt = record { of = t; at = x } in a) e

pub type_place : (from : ℕ) (t : TypeTree) (next : ℕ) → next ≡ from + type_nodes (ty_of t) → (let a : spec.TypeAt = record { of = ty_of t; at = next - 1 } in a) ≡ type_at from (ty_of t)
type_place from t next e = let h : next - 1 ≡ (type_at from (ty_of t)).at = omega (arith, type_end from (ty_of t)) in same_place (ty_of t) _ _ h

-- what stands in a list is at most as deep as the list
pub value_depth : (vs : List ValueTree) (i : ℕ) (d : ValueTree) → i < length vs → val_depth (value_of (get_or vs i d)) ≤ vals_depth (vals_of (map value_of vs))
value_depth [] i d h = omega arith
value_depth (v ∷ vs) zero d h = omega arith
value_depth (v ∷ vs) (suc i) d h = let below : i < length vs = omega arith in omega (arith, value_depth vs i d below)

pub member_depth : (xs : List Argument) (i : ℕ) (d : Argument) → i < length xs → val_depth (value_of (get_or xs i d).value) ≤ members_depth (members_of (map argument_of xs))
member_depth [] i d h = omega arith
member_depth (x ∷ xs) zero d h = omega arith
member_depth (x ∷ xs) (suc i) d h = let below : i < length xs = omega arith in omega (arith, member_depth xs i d below)

pub value_below : (vs : List ValueTree) (whole : List Val) (i : ℕ) (x : ValueTree) → i < length vs → x ≡ get_or vs i x → map value_of vs ≡ whole → val_depth (value_of x) ≤ vals_depth (vals_of whole)
value_below vs whole i x h is e =
    let held : val_depth (value_of (get_or vs i x)) ≤ vals_depth (vals_of (map value_of vs)) = value_depth vs i x h in
    omega (arith, held, ap (λ (y : ValueTree). val_depth (value_of y)) is, ap (λ (ws : List Val). vals_depth (vals_of ws)) e)

pub member_below : (xs : List Argument) (whole : List (List ℕ × Val)) (i : ℕ) (x : Argument) → i < length xs → x ≡ get_or xs i x → map argument_of xs ≡ whole → val_depth (value_of x.value) ≤ members_depth (members_of whole)
member_below xs whole i x h is e =
    let held : val_depth (value_of (get_or xs i x).value) ≤ members_depth (members_of (map argument_of xs)) = member_depth xs i x h in
    omega (arith, held, ap (λ (y : Argument). val_depth (value_of y.value)) is, ap (λ (ws : List (List ℕ × Val)). members_depth (members_of ws)) e)
