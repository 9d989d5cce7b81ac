-- Worked rows of the steps that come of nodes, computed from the definitions.
use Rattle.std.proofs.Common.{◌≡◌, refl, List, [], ◌∷◌, Some, None, codes, true, false}
use Rattle.plan_ir.specs.gql_ast.Ty as ty
use Rattle.plan_ir.specs.gql_ast.Ty.{Ty}
use Rattle.plan_ir.specs.gql_ast.Value as v
use Rattle.plan_ir.specs.gql_ast.declared.directive.Directive.{Directive}
use Rattle.plan_ir.specs.gql_ast.declared.member.FieldTree.{FieldTree}
use Rattle.plan_ir.specs.gql_ast.declared.place.FilePlace.{FilePlace}
use Rattle.plan_ir.specs.gql_ast.declared.schema.SchemaDef.TheVariants as S
use Rattle.plan_ir.specs.gql_ast.declared.type_tree.TypeTree.{TypeTree}
use Rattle.plan_ir.specs.gql_ast.declared.type_tree.TypeTree.TheVariants as T
use Rattle.plan_ir.specs.gql_ast.declared.value.ValueTree.TheVariants as V
use Rattle.plan_ir.specs.Nodes as nodes
use Rattle.plan_ir.specs.Nodes.{Nodes}
use Rattle.plan_ir.specs.Normal as n
use Rattle.plan_ir.specs.Normal.{Normal}
use Rattle.plan_ir.specs.schema_tables.Types.{Text, Defs}
use Rattle.plan_build.specs.Steps.{steps_of}

abbrev member : Text → TypeTree → FieldTree
member name t = record { name = name; arguments = []; of = t; directives = [] }

abbrev named : Text → TypeTree
named name = T.Named name

abbrev id_member : FieldTree
id_member = member (codes "id") (T.NonNull (ty.named (codes "ID")))

-- `type Query{one:Item} interface Item{of:Item} type A implements Item{id:ID! of:A} type B implements Item{of:Item name:String}`
abbrev defs : Defs
defs =
    S.Object (codes "Query") [] [] (member (codes "one") (named (codes "Item")) ∷ [])
    ∷ S.Interface (codes "Item") [] [] (member (codes "of") (named (codes "Item")) ∷ [])
    ∷ S.Object (codes "A") (codes "Item" ∷ []) [] (id_member ∷ member (codes "of") (named (codes "A")) ∷ [])
    ∷ S.Object (codes "B") (codes "Item" ∷ []) [] (member (codes "of") (named (codes "Item")) ∷ member (codes "name") (named (codes "String")) ∷ [])
    ∷ []

abbrev place : FilePlace
place = record { file = 0; line = 1; column = 1 }

abbrev field : Text → Ty → (subs rest : Nodes) → Nodes
field name of subs rest = nodes.field name name [] [] None of subs place rest

abbrev on_type : Text → List Directive → (subs rest : Nodes) → Nodes
on_type name ds subs rest = nodes.inline (Some name) ds subs place rest

abbrev typename : Nodes → Nodes
typename rest = field (codes "__typename") (ty.non_null (ty.named (codes "String"))) nodes.end rest

abbrev items : List Text
items = codes "A" ∷ codes "B" ∷ []

-- `{one{__typename ...on B@include(if:$all){name}}}`: the type name stands alone, the rest behind one guard for the type and the condition
pub guarded_by_type_and_condition :
    steps_of defs (codes "Query" ∷ [])
    (field (codes "one") (ty.named (codes "Item"))
    (typename (on_type (codes "B") (record { name = codes "include"; arguments = (codes "if", v.variable (codes "all")) ∷ [] } ∷ [])
    (field (codes "name") (ty.named (codes "String")) nodes.end nodes.end) nodes.end)) nodes.end)
    ≡ n.object (codes "one") (codes "one") [] false items (codes "A" ∷ []) true None
    (n.typename (codes "__typename")
    (n.guarded (record { types = Some (codes "B" ∷ []); conditions = record { skip = false; value = V.Variable (codes "all") } ∷ [] }) (n.leaf (codes "name") (codes "name") [] n.done) n.done)) n.done
guarded_by_type_and_condition = refl

-- `of{__typename}` on an Item: on an A it leads to an A, on a B to any Item
pub one_step_a_class :
    steps_of defs items (field (codes "of") (ty.named (codes "Item")) (typename nodes.end) nodes.end)
    ≡ n.guarded (record { types = Some (codes "A" ∷ []); conditions = [] })
    (n.object (codes "of") (codes "of") [] false (codes "A" ∷ []) (codes "A" ∷ []) false None (n.typename (codes "__typename") n.done) n.done)
    (n.guarded (record { types = Some (codes "B" ∷ []); conditions = [] })
    (n.object (codes "of") (codes "of") [] false items (codes "A" ∷ []) true None (n.typename (codes "__typename") n.done) n.done) n.done)
one_step_a_class = refl

-- `...on Item{of{__typename}}` on an A wants no guard, and `...on B{name}` gives nothing there
pub nothing_to_test :
    steps_of defs (codes "A" ∷ [])
    (on_type (codes "Item") [] (field (codes "of") (ty.named (codes "Item")) (typename nodes.end) nodes.end)
    (on_type (codes "B") [] (field (codes "name") (ty.named (codes "String")) nodes.end nodes.end) nodes.end))
    ≡ n.object (codes "of") (codes "of") [] false (codes "A" ∷ []) (codes "A" ∷ []) false None (n.typename (codes "__typename") n.done) n.done
nothing_to_test = refl

-- `of{of{__typename}}` on an Item: the classes of the outer field have one child, the plan of `of{__typename}` on an Item
pub classes_share_their_child :
    steps_of defs items (field (codes "of") (ty.named (codes "Item")) (field (codes "of") (ty.named (codes "Item")) (typename nodes.end) nodes.end) nodes.end)
    ≡ n.guarded (record { types = Some (codes "A" ∷ []); conditions = [] })
    (n.object (codes "of") (codes "of") [] false (codes "A" ∷ []) (codes "A" ∷ []) false None
    (steps_of defs items (field (codes "of") (ty.named (codes "Item")) (typename nodes.end) nodes.end)) n.done)
    (n.guarded (record { types = Some (codes "B" ∷ []); conditions = [] })
    (n.object (codes "of") (codes "of") [] false items (codes "A" ∷ []) true None
    (steps_of defs items (field (codes "of") (ty.named (codes "Item")) (typename nodes.end) nodes.end)) n.done) n.done)
classes_share_their_child = refl
