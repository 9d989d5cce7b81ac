-- Lists and objects with their local variables replaced, item by item.
use Rattle.std.proofs.Common.{◌≡◌, List, [], ◌∷◌, map, Option, Some, None, refl, ap}
use Rattle.plan_ir.specs.gql_ast.Value.{Val, val, member, members_of, vals_of}
use Rattle.plan_ir.specs.relay_marks.Connections.{value_of_name}
use Rattle.plan_ir.specs.Substitution.{Arguments, Scope, substitute, substitute_in, substitute_items, substitute_members, value_of_local, value_or}
use Rattle.plan_ir.specs.schema_tables.Types.{Text}
use Rattle.plan_expand.specs.ScopeView.{gift_or}

pub substitute_items-vals_of : (scope : Scope) (vs : List Val) → substitute_items scope (vals_of vs) ≡ vals_of (map (substitute scope) vs)
substitute_items-vals_of scope [] = refl
substitute_items-vals_of scope (v ∷ vs) = ap (val (substitute scope v)) (substitute_items-vals_of scope vs)

pub substitute_members-members_of : (scope : Scope) (xs : Arguments) → substitute_members scope (members_of xs) ≡ members_of (substitute_in scope xs)
substitute_members-members_of scope [] = refl
substitute_members-members_of scope (x ∷ xs) = ap (member x.0 (substitute scope x.1)) (substitute_members-members_of scope xs)

pub ruleset levels = (substitute_items-vals_of, substitute_members-members_of)

-- what stands in the place of a local variable
pub gift_is : (xs : Arguments) (n : Text) (d : Option (Option Val)) (v : Option Val) → v ≡ value_of_name xs n → gift_or v n d ≡ value_of_local xs n d
gift_is xs n None v e = refl
gift_is xs n (Some d) v e = ap (λ (o : Option Val). value_or o d) e
