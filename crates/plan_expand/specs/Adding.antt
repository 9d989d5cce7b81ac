-- The types that have an id among those that a type may be, as the code keeps them.
use Rattle.std.specs.BTreeMap.{get_by}
use Rattle.std.specs.Cmp.Lexicographic.{slice_cmp}
use Rattle.std.specs.Ordering.{nat_cmp}
use Rattle.std.specs.Prelude.{◌≡◌, List, [], ◌∷◌, Option, Some, option_map}
use Rattle.std.specs.List.{filter}
use Rattle.plan_ir.specs.gql_ast.declared.place.FilePlace.{FilePlace}
use Rattle.plan_ir.specs.Additions.{id_field}
use Rattle.plan_ir.specs.Nodes.{Nodes, end, inline}
use Rattle.plan_ir.specs.schema_tables.Types.{Text, Defs, has_id, possible}
use Rattle.plan_expand.specs.declared.additions.Adding.{Adding}

-- those of the types that a type may be that have an id
abbrev pub identified_types : Defs → Text → List Text
identified_types defs of = filter (has_id defs) (possible defs of)

abbrev pub find_identified : Adding → Text → Option (List Text)
find_identified adding n = option_map (λ ids. ids.items) (get_by (λ k. slice_cmp nat_cmp n k.now) adding.by_type)

-- what is kept is right
abbrev pub IsRight : Adding → Type 0
IsRight adding = (n : Text) (ids : List Text) → find_identified adding n ≡ Some ids → ids ≡ identified_types adding.schema.now n

-- `...on P{id}` for each of these types
abbrev pub ids_of_each : FilePlace → List Text → Nodes
ids_of_each p [] = end
ids_of_each p (t ∷ ts) = inline (Some t) [] (id_field p) p (ids_of_each p ts)
