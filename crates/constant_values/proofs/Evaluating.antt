-- What lists and objects are, item by item.
use Rattle.std.proofs.Common.{◌≡◌, ℕ, List, [], ◌∷◌, map, refl, ap}
use Rattle.schema_types.specs.gql_ast.Value.{Val, vals_of, members_of}
use Rattle.schema_types.specs.gql_plain.Tree.{tree, trees_of}
use Rattle.schema_types.specs.Environments.{Values, evaluation, items_evaluated, pairs_evaluated, with_new_pair}
use Rattle.constant_values.specs.Listed.{last_of_each}

pub items_evaluated-vals_of : (env : Values) (vs : List Val) → items_evaluated env (vals_of vs) ≡ trees_of (map (evaluation env) vs)
items_evaluated-vals_of env [] = refl
items_evaluated-vals_of env (v ∷ vs) = ap (tree (evaluation env v)) (items_evaluated-vals_of env vs)

pub pairs_evaluated-members_of : (env : Values) (ms : List (List ℕ × Val)) → pairs_evaluated env (members_of ms) ≡ last_of_each (map (λ m. (m.0, evaluation env m.1)) ms)
pairs_evaluated-members_of env [] = refl
pairs_evaluated-members_of env (m ∷ ms) = ap (with_new_pair m.0 (evaluation env m.1)) (pairs_evaluated-members_of env ms)

pub ruleset levels = (items_evaluated-vals_of, pairs_evaluated-members_of)
