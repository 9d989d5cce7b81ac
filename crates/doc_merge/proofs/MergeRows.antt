-- Worked rows of V24 and V23: the places at fault in expanded sets.
use Rattle.std.proofs.Common.{◌≡◌, refl, ℕ, List, [], ◌∷◌, Some, None, codes}
use Rattle.std.specs.Prelude.{pos}
use Rattle.plan_ir.specs.gql_ast.Ty as ty
use Rattle.plan_ir.specs.gql_ast.Ty.{Ty}
use Rattle.plan_ir.specs.gql_ast.Value as v
use Rattle.plan_ir.specs.gql_ast.Value.{Val}
use Rattle.plan_ir.specs.gql_ast.declared.document.Kind.TheVariants as K
use Rattle.plan_ir.specs.gql_ast.declared.member.FieldTree.{FieldTree}
use Rattle.plan_ir.specs.gql_ast.declared.member.InputTree.{InputTree}
use Rattle.plan_ir.specs.gql_ast.declared.place.FilePlace.{FilePlace}
use Rattle.plan_ir.specs.gql_ast.declared.schema.SchemaDef.TheVariants as S
use Rattle.plan_ir.specs.gql_ast.declared.type_tree.TypeTree.{TypeTree}
use Rattle.plan_ir.specs.gql_ast.declared.type_tree.TypeTree.TheVariants as T
use Rattle.plan_ir.specs.gql_ast.declared.variable.VariableDef.{VariableDef}
use Rattle.plan_ir.specs.Nodes.{Nodes, end, field, inline}
use Rattle.plan_ir.specs.declared.expanded.Expanded.{Expanded}
use Rattle.plan_ir.specs.schema_rules.declared.fault.Rule.TheVariants as R
use Rattle.plan_ir.specs.schema_tables.Types.{Text, Defs}
use Rattle.doc_merge.specs.Faults.{first_fault}
use Rattle.doc_merge.specs.Gathering.{fields_of}
use Rattle.doc_merge.specs.Merging.{differences}
use Rattle.doc_merge.specs.Values.{nodes_unfit}

abbrev member : Text → List InputTree → TypeTree → FieldTree
member n is t = record { name = n; arguments = is; of = t; directives = [] }

abbrev input : Text → TypeTree → InputTree
input n t = record { name = n; of = t; default = None; directives = [] }

abbrev int_type : TypeTree
int_type = T.Named (codes "Int")

-- the fields that every type of the schema has
abbrev members : List FieldTree
members =
    member (codes "a") (input (codes "p") int_type ∷ input (codes "q") int_type ∷ []) int_type ∷ member (codes "b") [] int_type
    ∷ member (codes "e") [] (T.Named (codes "String")) ∷ member (codes "c") [] (T.Named (codes "I")) ∷ member (codes "d") [] (T.Named (codes "I")) ∷ []

-- `interface I{..} type A implements I{..} type B implements I{..}`
abbrev defs : Defs
defs = S.Interface (codes "I") [] [] members ∷ S.Object (codes "A") (codes "I" ∷ []) [] members ∷ S.Object (codes "B") (codes "I" ∷ []) [] members ∷ []

abbrev at : ℕ → FilePlace
at n = record { file = 0; line = 1; column = n }

abbrev int : Ty
int = ty.named (codes "Int")

abbrev alias_field : Text → Text → Ty → ℕ → (subs rest : Nodes) → Nodes
alias_field r n of p s rest = field r n [] [] None of s (at p) rest

-- `x:n`, of the type Int
abbrev x : Text → ℕ → (rest : Nodes) → Nodes
x n p rest = alias_field (codes "x") n int p end rest

-- `c{..}`, of the type I
abbrev c : ℕ → (subs rest : Nodes) → Nodes
c p s rest = alias_field (codes "c") (codes "c") (ty.named (codes "I")) p s rest

abbrev on : Text → (subs rest : Nodes) → Nodes
on t s rest = inline (Some t) [] s (at 0) rest

-- on the object type A, and on the interface
abbrev on_object : Nodes → List FilePlace
on_object s = differences (fields_of defs (codes "A") s)

abbrev on_interface : Nodes → List FilePlace
on_interface s = differences (fields_of defs (codes "I") s)

-- `x:a x:b`: the second
pub two_names : on_object (x (codes "a") 1 (x (codes "b") 2 end)) ≡ at 2 ∷ []
two_names = refl

-- `x:a x:b x:a`: the second and the third, though the third is like the first
pub third_like_first : on_object (x (codes "a") 3 (x (codes "b") 2 (x (codes "a") 1 end))) ≡ at 2 ∷ at 1 ∷ []
third_like_first = refl

-- `...on A{x:a} ...on B{x:b}` of one shape: none
pub two_objects : on_interface (on (codes "A") (x (codes "a") 1 end) (on (codes "B") (x (codes "b") 2 end) end)) ≡ []
two_objects = refl

-- `...on A{x:a} ...on B{x:e}` of two shapes: the second
pub two_objects_two_shapes : on_interface (on (codes "A") (x (codes "a") 1 end) (on (codes "B") (alias_field (codes "x") (codes "e") (ty.named (codes "String")) 2 end end) end)) ≡ at 2 ∷ []
two_objects_two_shapes = refl

-- `...on A{x:a} ...on B{x:b} x:a`: the third, which differs from the second
pub third_on_interface : on_interface (on (codes "A") (x (codes "a") 1 end) (on (codes "B") (x (codes "b") 2 end) (x (codes "a") 3 end))) ≡ at 3 ∷ []
third_on_interface = refl

-- the same and `...on A{x:a}`: the third, not the fourth
pub fourth_is_good : on_interface (on (codes "A") (x (codes "a") 1 end) (on (codes "B") (x (codes "b") 2 end) (x (codes "a") 3 (on (codes "A") (x (codes "a") 4 end) end)))) ≡ at 3 ∷ []
fourth_is_good = refl

-- `x:c{c{x:a}} x:c{c{x:b}}`: the innermost field alone
pub innermost : on_object (alias_field (codes "x") (codes "c") (ty.named (codes "I")) 1 (c 2 (x (codes "a") 3 end) end) (alias_field (codes "x") (codes "c") (ty.named (codes "I")) 4 (c 5 (x (codes "b") 6 end) end) end))
    ≡ at 6 ∷ []
innermost = refl

-- `x:c{x:a} x:d{x:b}`: the second field and the one below it
pub outer_and_inner : on_object (alias_field (codes "x") (codes "c") (ty.named (codes "I")) 7 (x (codes "a") 8 end) (alias_field (codes "x") (codes "d") (ty.named (codes "I")) 9 (x (codes "b") 4 end) end)) ≡ at 9 ∷ at 4 ∷ []
outer_and_inner = refl

-- `...on A{c{x:a}} ...on B{c{x:b}}`: none below parents that do not meet; a shape is asked there too
pub below_two_objects : on_interface (on (codes "A") (c 1 (x (codes "a") 2 end) end) (on (codes "B") (c 3 (x (codes "b") 4 end) end) end)) ≡ []
below_two_objects = refl

pub below_two_objects_two_shapes : on_interface (on (codes "A") (c 1 (x (codes "a") 2 end) end) (on (codes "B") (c 3 (alias_field (codes "x") (codes "a") (ty.non_null int) 4 end end) end) end)) ≡ at 4 ∷ []
below_two_objects_two_shapes = refl

-- `c{x:a} ...on A{c{x:a}} ...on B{c{x:b}}`: the last
pub below_interface : on_interface (c 1 (x (codes "a") 2 end) (on (codes "A") (c 3 (x (codes "a") 4 end) end) (on (codes "B") (c 5 (x (codes "b") 6 end) end) end))) ≡ at 6 ∷ []
below_interface = refl

-- `x:a x:c{x:a}`: a leaf and a composite field
pub leaf_and_composite : on_object (x (codes "a") 1 (alias_field (codes "x") (codes "c") (ty.named (codes "I")) 2 (x (codes "a") 3 end) end)) ≡ at 2 ∷ []
leaf_and_composite = refl

-- lists and non-null forms
pub list_and_none : on_object (x (codes "a") 1 (alias_field (codes "x") (codes "a") (ty.list int) 2 end end)) ≡ at 2 ∷ []
list_and_none = refl

abbrev with_arguments : List (Text × Val) → ℕ → (rest : Nodes) → Nodes
with_arguments xs p rest = field (codes "x") (codes "a") xs [] None int end (at p) rest

abbrev one : Val
one = v.int (pos 1)

-- `x:a(p:1,q:$n) x:a(q:$n,p:1)`: arguments are a set; `x:a(p:1) x:a`: they differ
pub arguments_in_any_order : on_object (with_arguments ((codes "p", one) ∷ (codes "q", v.variable (codes "n")) ∷ []) 1 (with_arguments ((codes "q", v.variable (codes "n")) ∷ (codes "p", one) ∷ []) 2 end)) ≡ []
arguments_in_any_order = refl

pub argument_left_out : on_object (with_arguments ((codes "p", one) ∷ []) 1 (x (codes "a") 2 end)) ≡ at 2 ∷ []
argument_left_out = refl

-- fields of an object value are compared in written order
pub object_order : on_object (with_arguments ((codes "p", v.object (v.member (codes "s") one (v.member (codes "t") one v.no_members))) ∷ []) 1
    (with_arguments ((codes "p", v.object (v.member (codes "t") one (v.member (codes "s") one v.no_members))) ∷ []) 2 end)) ≡ at 2 ∷ []
object_order = refl

-- ---- values

abbrev number : VariableDef
number = record { name = codes "n"; of = int_type; default = None; directives = [] }

abbrev word : VariableDef
word = record { name = codes "n"; of = T.Named (codes "String"); default = None; directives = [] }

abbrev unfit : VariableDef → Nodes → List FilePlace
unfit d s = nodes_unfit defs (d ∷ []) (codes "A") s

-- `a(p:$n)`: a use that is allowed, and one that is not
pub use_of_int : unfit number (with_arguments ((codes "p", v.variable (codes "n")) ∷ []) 5 end) ≡ []
use_of_int = refl

pub use_of_string : unfit word (with_arguments ((codes "p", v.variable (codes "n")) ∷ []) 5 end) ≡ at 5 ∷ []
use_of_string = refl

-- `c{a(p:"s")}`: a literal that does not fit, at its field
pub literal_below : unfit number (c 4 (with_arguments ((codes "p", v.text (codes "s")) ∷ []) 5 end) end) ≡ at 5 ∷ []
literal_below = refl

-- `...@skip(if:$n){x:a}`: in a directive, at the fragment
pub use_in_directive : unfit number (inline None (record { name = codes "skip"; arguments = (codes "if", v.variable (codes "n")) ∷ [] } ∷ []) (x (codes "a") 6 end) (at 5) end) ≡ at 5 ∷ []
use_in_directive = refl

-- ---- the first fault

abbrev query : Nodes → Expanded
query s = record { kind = Some K.Query; name = codes "Y"; root = codes "A"; variables = word ∷ []; directives = []; selections = s }

-- V23 stands before V24, though its place comes later
pub values_first : first_fault defs (query (x (codes "a") 1 (x (codes "b") 2 (with_arguments ((codes "p", v.variable (codes "n")) ∷ []) 7 end)))) ≡ Some (record { rule = R.V23; place = at 7 })
values_first = refl

-- of several places the least counts
pub least_place : first_fault defs (query (x (codes "a") 3 (x (codes "b") 2 (x (codes "a") 1 end)))) ≡ Some (record { rule = R.V24; place = at 1 })
least_place = refl
