-- Worked rows of the rules, computed from the definitions.
use Rattle.std.proofs.Common.{◌≡◌, refl, List, [], ◌∷◌, Some, None, codes, true}
use Rattle.std.specs.Prelude.{pos}
use Rattle.schema_trees.specs.gql_ast.Ty as ty
use Rattle.schema_trees.specs.gql_ast.Value as v
use Rattle.schema_trees.specs.gql_ast.declared.member.FieldTree.{FieldTree}
use Rattle.schema_trees.specs.gql_ast.declared.schema.SchemaDef.{SchemaDef}
use Rattle.schema_trees.specs.gql_ast.declared.schema.SchemaDef.TheVariants as S
use Rattle.schema_trees.specs.gql_ast.declared.type_tree.TypeTree.{TypeTree}
use Rattle.schema_trees.specs.gql_ast.declared.type_tree.TypeTree.TheVariants as T
use Rattle.schema_rules.specs.declared.fault.Rule.TheVariants as R
use Rattle.schema_rules.specs.Checked.{first_fault}
use Rattle.schema_trees.specs.schema_tables.Fits.{literal_fits}
use Rattle.gql_graph.specs.Texts.{Text}

abbrev field : Text → TypeTree → FieldTree
field n t = record { name = n; arguments = []; of = t; directives = [] }

abbrev object : Text → List Text → List FieldTree → SchemaDef
object n is fs = S.Object n is [] fs

abbrev user : SchemaDef
user = object (codes "User") [] (field (codes "name") (T.Named (codes "String")) ∷ [])

-- `type Query{me:User} type User{name:String}` is sound
sound_row : first_fault (object (codes "Query") [] (field (codes "me") (T.Named (codes "User")) ∷ []) ∷ user ∷ []) ≡ None
sound_row = refl

-- `type Query{me:Uzer}`: the type's name, the seventh node
unknown_type_row : first_fault (object (codes "Query") [] (field (codes "me") (T.Named (codes "Uzer")) ∷ []) ∷ []) ≡ Some (R.S2, 6)
unknown_type_row = refl

-- no query root: the first node
no_query_row : first_fault (user ∷ []) ≡ Some (R.S3, 0)
no_query_row = refl

-- `type Query{a:Int} type Int{a:Int}`: a second type of the name of a built-in one
second_int_row : first_fault (object (codes "Query") [] (field (codes "a") (T.Named (codes "Int")) ∷ []) ∷ object (codes "Int") [] (field (codes "a") (T.Named (codes "Int")) ∷ []) ∷ []) ≡ Some (R.S1, 8)
second_int_row = refl

-- `type Query{a:Int} input A{b:B!} input B{a:A!}`: the first of the two that need themselves
needs_itself_row : first_fault (object (codes "Query") [] (field (codes "a") (T.Named (codes "Int")) ∷ [])
    ∷ S.Input (codes "A") [] (record { name = codes "b"; of = T.NonNull (ty.named (codes "B")); default = None; directives = [] } ∷ [])
    ∷ S.Input (codes "B") [] (record { name = codes "a"; of = T.NonNull (ty.named (codes "A")); default = None; directives = [] } ∷ []) ∷ []) ≡ Some (R.S10, 8)
needs_itself_row = refl

-- `1` fits `[[Int]]`, and `[1]` does not
one_row : literal_fits [] (v.int (pos 1)) (ty.list (ty.list (ty.named (codes "Int")))) ≡ true
one_row = refl
