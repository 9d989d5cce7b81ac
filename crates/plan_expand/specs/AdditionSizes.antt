-- How large added nodes are.
use Rattle.std.specs.Prelude.{ℕ, zero, suc, ◌+◌, Bool, not, ◌&&◌, cond, length, codes}
use Rattle.plan_ir.specs.gql_ast.Sels as sels
use Rattle.plan_ir.specs.gql_ast.Sels.{Sels}
use Rattle.plan_ir.specs.Additions.{has_bare, is_abstract, type_on}
use Rattle.plan_ir.specs.schema_tables.Types.{Text, Defs, base_of, has_id}
use Rattle.plan_ir.specs.schema_types.Sites.{is_set}
use Rattle.plan_expand.specs.Adding.{identified_types}
use Rattle.plan_expand.specs.Sizes.{beside, nothing, within}
use Rattle.plan_expand.specs.declared.size.Size.{Size}

-- a field that has no set
abbrev pub field_size : Size
field_size = record { count = 1; depth = 1 }

-- `...on P{id}` for so many types
abbrev pub ids_size : ℕ → Size
ids_size zero = nothing
ids_size (suc n) = record { count = suc n + suc n; depth = 2 }

abbrev pub id_size : Defs → (of : Text) → Sels → Size
id_size defs t s =
    cond (has_id defs t) (cond (has_bare (codes "id") s) nothing field_size)
    (cond (is_abstract defs t) (ids_size (length (identified_types defs t))) nothing)

abbrev pub typename_size : Defs → (of : Text) → Sels → Size
typename_size defs t s = cond (is_abstract defs t && not (has_bare (codes "__typename") s)) field_size nothing

abbrev pub record_size : Defs → (of : Text) → Sels → Size
record_size defs t s = beside (id_size defs t s) (typename_size defs t s)

-- where there is no node, that of `__typename`
abbrev pub size_or_typename : (count : ℕ) → Size → Size
size_or_typename zero a = field_size
size_or_typename (suc n) a = a

abbrev pub node_size : Defs → (edge : Text) → Size
node_size defs edge =
    let inside = record_size defs (base_of (type_on defs edge (codes "node"))) sels.end in
    within (size_or_typename inside.count inside)

abbrev pub edges_size : Defs → (connection : Text) → Size
edges_size defs t =
    let edge = base_of (type_on defs t (codes "edges")) in
    within (beside field_size (beside (node_size defs edge) (record_size defs edge sels.end)))

abbrev pub page_info_size : Defs → (connection : Text) → Size
page_info_size defs t = within (beside (record { count = 4; depth = 1 }) (record_size defs (base_of (type_on defs t (codes "pageInfo"))) sels.end))

abbrev pub connection_size : Defs → (of : Text) → Size
connection_size defs t = beside (edges_size defs t) (page_info_size defs t)

abbrev pub additions_size : Defs → (is_connection : Bool) → (of : Text) → Sels → Size
additions_size defs c t s = cond (is_set s) (beside (cond c (connection_size defs t) nothing) (record_size defs t s)) nothing
