-- What is added at the end of the selection set of a field (this project's own): the fields of a connection, `id`, and
-- `__typename`.
use Rattle.std.specs.Prelude.{Bool, false, not, ◌&&◌, ◌||◌, cond, List, [], ◌∷◌, codes, Option, Some, None, bytes_eq}
use Rattle.relay_marks.specs.gql_ast.Sels as sels
use Rattle.relay_marks.specs.gql_ast.Sels.{Sels}
use Rattle.relay_marks.specs.gql_ast.Ty as ty
use Rattle.relay_marks.specs.gql_ast.Ty.{Ty}
use Rattle.relay_marks.specs.gql_ast.declared.place.FilePlace.{FilePlace}
use Rattle.plan_ir.specs.Nodes.{Nodes, end, field, inline, nodes_append}
use Rattle.relay_marks.specs.schema_rules.Rules.{is_object}
use Rattle.relay_marks.specs.schema_types.Sites.{field_type}
use Rattle.relay_marks.specs.schema_tables.Types.{Text, Defs, base_of, has_id, is_composite, possible}

-- an interface or a union
abbrev pub is_abstract : Defs → Text → Bool
is_abstract defs t = is_composite defs t && not (is_object defs t)

-- whether the set has that field directly, without alias, arguments and directives
abbrev pub has_bare : Text → Sels → Bool
has_bare n sels.end = false
has_bare n (sels.field None m [] [] s rest) = bytes_eq m n || has_bare n rest
has_bare n (sels.field a m xs ds s rest) = has_bare n rest
has_bare n (sels.spread m ds rest) = has_bare n rest
has_bare n (sels.inline o ds s rest) = has_bare n rest

-- a field that is added: without alias, arguments and directives
abbrev pub bare_field : Text → Ty → (subs : Nodes) → FilePlace → Nodes
bare_field n t s p = field n n [] [] None t s p end

abbrev pub id_field : FilePlace → Nodes
id_field p = bare_field (codes "id") (ty.non_null (ty.named (codes "ID"))) end p

abbrev pub typename_field : FilePlace → Nodes
typename_field p = bare_field (codes "__typename") (ty.non_null (ty.named (codes "String"))) end p

-- `...on P{id}` for each of these types that has an id
abbrev pub ids_on : Defs → FilePlace → List Text → Nodes
ids_on defs p [] = end
ids_on defs p (t ∷ ts) = cond (has_id defs t) (inline (Some t) [] (id_field p) p (ids_on defs p ts)) (ids_on defs p ts)

-- if the type has an id, `id`; else, if it is abstract, `...on P{id}` for each possible type that has one, in byte order
abbrev pub id_additions : Defs → (of : Text) → Sels → FilePlace → Nodes
id_additions defs t s p =
    cond (has_id defs t) (cond (has_bare (codes "id") s) end (id_field p))
    (cond (is_abstract defs t) (ids_on defs p (possible defs t)) end)

-- if the type is abstract, `__typename`
abbrev pub typename_additions : Defs → (of : Text) → Sels → FilePlace → Nodes
typename_additions defs t s p = cond (is_abstract defs t && not (has_bare (codes "__typename") s)) (typename_field p) end

abbrev pub record_additions : Defs → (of : Text) → Sels → FilePlace → Nodes
record_additions defs t s p = nodes_append (id_additions defs t s p) (typename_additions defs t s p)

-- the type of a field; a field that passes the rules has one
abbrev pub type_or : Option Ty → Ty
type_or None = ty.named []
type_or (Some t) = t

abbrev pub type_on : Defs → (of : Text) → Text → Ty
type_on defs of n = type_or (field_type defs (Some of) n)

-- a set that is empty gets `__typename`
abbrev pub or_typename : Nodes → FilePlace → Nodes
or_typename end p = typename_field p
or_typename ns p = ns

-- the field of that name on the type, which is a leaf
abbrev pub leaf_on : Defs → (of : Text) → FilePlace → Text → Nodes
leaf_on defs of p n = bare_field n (type_on defs of n) end p

abbrev pub node_field : Defs → (edge : Text) → FilePlace → Nodes
node_field defs edge p =
    bare_field (codes "node") (type_on defs edge (codes "node"))
    (or_typename (record_additions defs (base_of (type_on defs edge (codes "node"))) sels.end p) p) p

-- `edges{cursor node{..}}`
abbrev pub edges_field : Defs → (connection : Text) → FilePlace → Nodes
edges_field defs t p =
    let edge = base_of (type_on defs t (codes "edges")) in
    bare_field (codes "edges") (type_on defs t (codes "edges"))
    (nodes_append (leaf_on defs edge p (codes "cursor")) (nodes_append (node_field defs edge p) (record_additions defs edge sels.end p))) p

-- `pageInfo{endCursor hasNextPage hasPreviousPage startCursor}`
abbrev pub page_info_field : Defs → (connection : Text) → FilePlace → Nodes
page_info_field defs t p =
    let info = base_of (type_on defs t (codes "pageInfo")) in
    bare_field (codes "pageInfo") (type_on defs t (codes "pageInfo"))
    (nodes_append (leaf_on defs info p (codes "endCursor")) (nodes_append (leaf_on defs info p (codes "hasNextPage"))
    (nodes_append (leaf_on defs info p (codes "hasPreviousPage")) (nodes_append (leaf_on defs info p (codes "startCursor"))
    (record_additions defs info sels.end p))))) p

abbrev pub connection_additions : Defs → (of : Text) → FilePlace → Nodes
connection_additions defs t p = nodes_append (edges_field defs t p) (page_info_field defs t p)

-- to the set of a field of the named type; nothing where the field has no set
abbrev pub additions : Defs → (is_connection : Bool) → (of : Text) → Sels → FilePlace → Nodes
additions defs c t sels.end p = end
additions defs c t s p = nodes_append (cond c (connection_additions defs t p) end) (record_additions defs t s p)
