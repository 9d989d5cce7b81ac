-- Worked rows of operation text and of the lines of artifacts.
use Rattle.std.proofs.Common.{◌≡◌, refl, List, [], ◌∷◌, Option, Some, None, codes, true, false}
use Rattle.std.specs.Prelude.{pos}
use Rattle.std.specs.Fmt.{digits}
use Rattle.serde_json.proofs.OnLiterals.{serde_json_on_literals}
use Rattle.relay_marks.specs.gql_ast.Ty as ty
use Rattle.relay_marks.specs.gql_ast.Value as v
use Rattle.relay_marks.specs.gql_ast.declared.directive.Directive.{Directive}
use Rattle.relay_marks.specs.gql_ast.declared.document.Kind.TheVariants.{Query}
use Rattle.relay_marks.specs.gql_ast.declared.place.FilePlace.{FilePlace}
use Rattle.relay_marks.specs.gql_ast.declared.type_tree.TypeTree.{TypeTree}
use Rattle.relay_marks.specs.gql_ast.declared.type_tree.TypeTree.TheVariants as T
use Rattle.relay_marks.specs.gql_ast.declared.value.ValueTree.{ValueTree}
use Rattle.relay_marks.specs.gql_ast.declared.value.ValueTree.TheVariants as V
use Rattle.relay_marks.specs.gql_ast.declared.variable.VariableDef.{VariableDef}
use Rattle.plan_ir.specs.Nodes.{Nodes, end, field, inline}
use Rattle.plan_ir.specs.OperationText.{operation_text, operation_line, fragment_line}
use Rattle.plan_ir.specs.Substitution.{Arguments}
use Rattle.plan_ir.specs.declared.expanded.Expanded.{Expanded}
use Rattle.relay_marks.specs.schema_tables.Types.{Text}

abbrev at : FilePlace
at = record { file = 0; line = 1; column = 1 }

-- a field, with its response key and its arguments
abbrev with_arguments : (response : Text) → Text → Arguments → (subs rest : Nodes) → Nodes
with_arguments r n xs s rest = field r n xs [] None (ty.named (codes "T")) s at rest

abbrev plain : Text → (subs rest : Nodes) → Nodes
plain n s rest = with_arguments n n [] s rest

abbrev name_and_id : Nodes
name_and_id = plain (codes "name") end (plain (codes "id") end end)

abbrev query : Text → List VariableDef → Nodes → Expanded
query n vs s = record { kind = Some Query; name = n; root = codes "Query"; variables = vs; directives = []; selections = s }

abbrev variable_of : Text → TypeTree → Option ValueTree → List Directive → VariableDef
variable_of n t d ds = record { name = n; of = t; default = d; directives = ds }

-- `query Q{me{name id}}`
pub selections : operation_text (query (codes "Q") [] (plain (codes "me") name_and_id end)) ≡ codes "query Q{me{name id}}"
selections = refl

-- an alias that differs from the name, and an inline fragment; the variable that is used
pub aliases : operation_text (query (codes "S") (variable_of (codes "size") (T.Named (codes "Int")) None [] ∷ [])
    (inline (Some (codes "Query")) [] (with_arguments (codes "t") (codes "team") ((codes "size", v.int (pos 3)) ∷ []) name_and_id end) at
    (with_arguments (codes "u") (codes "team") ((codes "size", v.variable (codes "size")) ∷ []) name_and_id end)))
    ≡ codes "query S($size:Int){...on Query{t:team(size:3){name id}} u:team(size:$size){name id}}"
unfolding digits
aliases = refl

-- a variable that nothing uses is left out
pub unused : operation_text (query (codes "U") (variable_of (codes "x") (T.Named (codes "Int")) None [] ∷ []) (plain (codes "me") name_and_id end))
    ≡ codes "query U{me{name id}}"
unused = refl

-- a default, and after it the directives of the variable
pub defaults : operation_text (query (codes "D") (variable_of (codes "x") (T.NonNull (ty.list (ty.named (codes "Int")))) (Some (V.Enum (codes "A"))) (record { name = codes "d"; arguments = [] } ∷ []) ∷ [])
    (with_arguments (codes "f") (codes "f") ((codes "a", v.variable (codes "x")) ∷ []) end end))
    ≡ codes "query D($x:[Int]!=A@d){f(a:$x)}"
defaults = refl

-- arguments and object fields in byte order, those of one name in written order; lists and an inline fragment without a type
pub ordered : operation_text (query (codes "O") []
    (inline None (record { name = codes "skip"; arguments = (codes "if", v.truth true) ∷ [] } ∷ [])
    (with_arguments (codes "f") (codes "f")
    ((codes "b", v.object (v.member (codes "z") v.null (v.member (codes "a") (v.enum (codes "E")) (v.member (codes "z") (v.truth false) v.no_members))))
    ∷ (codes "a", v.list (v.val (v.truth true) (v.val v.null v.no_vals))) ∷ []) end end) at end))
    ≡ codes "query O{...@skip(if:true){f(a:[true,null],b:{a:E,z:null,z:false})}}"
ordered = refl

pub operation_artifact : operation_line Query (codes "Q") (codes "query Q{me{name id}}") ≡ codes "{\"kind\":\"query\",\"name\":\"Q\",\"text\":\"query Q{me{name id}}\"}"
unfolding serde_json_on_literals digits
operation_artifact = refl

pub fragment_artifact : fragment_line (codes "P") (codes "User") ≡ codes "{\"kind\":\"fragment\",\"name\":\"P\",\"type\":\"User\"}"
unfolding serde_json_on_literals digits
fragment_artifact = refl
