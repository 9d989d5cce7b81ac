-- The project of the large script: what its schema and its document are, as trees.
use Rattle.std.specs.Prelude.{ℕ, List, [], ◌∷◌, codes, Some, None}
use Rattle.plan_ir.specs.gql_ast.Sels.{Sels, end, field}
use Rattle.plan_ir.specs.gql_ast.Ty as ty
use Rattle.plan_ir.specs.gql_ast.declared.document.Definition.TheVariants as D
use Rattle.plan_ir.specs.gql_ast.declared.document.Document.{Document}
use Rattle.plan_ir.specs.gql_ast.declared.document.Kind.TheVariants.{Query}
use Rattle.plan_ir.specs.gql_ast.declared.document.Operation.{Operation}
use Rattle.plan_ir.specs.gql_ast.declared.member.FieldTree.{FieldTree}
use Rattle.plan_ir.specs.gql_ast.declared.place.FilePlace.{FilePlace}
use Rattle.plan_ir.specs.gql_ast.declared.place.Placed.{Placed}
use Rattle.plan_ir.specs.gql_ast.declared.schema.SchemaDef.TheVariants as S
use Rattle.plan_ir.specs.gql_ast.declared.type_tree.TypeTree.{TypeTree}
use Rattle.plan_ir.specs.gql_ast.declared.type_tree.TypeTree.TheVariants as T
use Rattle.relay_machine.specs.Machine.{Project}
use Rattle.plan_ir.specs.schema_tables.Types.{Text, Defs}

-- ---- `type Query{me:User} type User{id:ID! age:Int friend:User}`

abbrev pub member_of : Text → TypeTree → FieldTree
member_of name of = record { name = name; arguments = []; of = of; directives = [] }

abbrev pub a_user : TypeTree
a_user = T.Named (codes "User")

abbrev pub query_members : List FieldTree
query_members = member_of (codes "me") a_user ∷ []

abbrev pub user_members : List FieldTree
user_members =
    member_of (codes "id") (T.NonNull (ty.named (codes "ID"))) ∷ member_of (codes "age") (T.Named (codes "Int")) ∷ member_of (codes "friend") a_user ∷ []

abbrev pub bulk_defs : Defs
bulk_defs = S.Object (codes "Query") [] [] query_members ∷ S.Object (codes "User") [] [] user_members ∷ []

-- ---- `query B{me{age friend{age}}}`

-- a field without alias, arguments and directives
abbrev pub plain_field : Text → (subs rest : Sels) → Sels
plain_field name subs rest = field None name [] [] subs rest

abbrev pub bulk_selections : Sels
bulk_selections = plain_field (codes "me") (plain_field (codes "age") end (plain_field (codes "friend") (plain_field (codes "age") end end) end)) end

abbrev pub bulk_operation : Operation
bulk_operation = record { kind = Query; name = Some (codes "B"); variables = []; directives = []; selections = bulk_selections }

-- on the first line of the first file behind the schema
abbrev pub at_column : ℕ → FilePlace
at_column n = record { file = 1; line = 1; column = n }

-- the document, the definition and the operation begin at one token, and so do each field and its name
abbrev pub bulk_places : List FilePlace
bulk_places =
    at_column 1 ∷ at_column 1 ∷ at_column 1 ∷ at_column 7 ∷ at_column 9 ∷ at_column 9 ∷ at_column 12 ∷ at_column 12 ∷ at_column 16 ∷ at_column 16
    ∷ at_column 23 ∷ at_column 23 ∷ []

abbrev pub bulk_placed : Placed Document
bulk_placed = record { tree = record { definitions = D.Operation bulk_operation ∷ [] }; places = bulk_places }

abbrev pub bulk_project : Project
bulk_project = record { defs = bulk_defs; documents = bulk_placed ∷ [] }
