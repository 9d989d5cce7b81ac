-- Worked rows of the rules on documents, computed from the definitions.
use Rattle.std.proofs.Common.{◌≡◌, refl, List, [], ◌∷◌, Option, Some, None, codes}
use Rattle.std.specs.Prelude.{pos}
use Rattle.schema_rules.specs.gql_ast.Sels.{Sels, end, field, spread, inline}
use Rattle.schema_rules.specs.gql_ast.Ty as ty
use Rattle.schema_rules.specs.gql_ast.Value as v
use Rattle.schema_rules.specs.gql_ast.Value.{Val, variable, int, null, list, object, vals_of}
use Rattle.schema_rules.specs.gql_ast.declared.directive.Directive.{Directive}
use Rattle.schema_rules.specs.gql_ast.declared.document.Definition.{Definition}
use Rattle.schema_rules.specs.gql_ast.declared.document.Definition.TheVariants as D
use Rattle.schema_rules.specs.gql_ast.declared.document.Document.{Document}
use Rattle.schema_rules.specs.gql_ast.declared.document.Kind.{Kind}
use Rattle.schema_rules.specs.gql_ast.declared.document.Kind.TheVariants.{Query, Mutation, Subscription}
use Rattle.schema_rules.specs.gql_ast.declared.member.FieldTree.{FieldTree}
use Rattle.schema_rules.specs.gql_ast.declared.member.InputTree.{InputTree}
use Rattle.schema_rules.specs.gql_ast.declared.schema.SchemaDef.TheVariants as S
use Rattle.schema_rules.specs.gql_ast.declared.type_tree.TypeTree.{TypeTree}
use Rattle.schema_rules.specs.gql_ast.declared.type_tree.TypeTree.TheVariants as T
use Rattle.schema_rules.specs.gql_ast.declared.value.ValueTree.{ValueTree}
use Rattle.schema_rules.specs.gql_ast.declared.value.ValueTree.TheVariants as V
use Rattle.schema_rules.specs.gql_ast.declared.variable.VariableDef.{VariableDef}
use Rattle.schema_rules.specs.gql_plain.Tree as t
use Rattle.schema_rules.specs.declared.fault.Rule.TheVariants as R
use Rattle.schema_types.specs.DocumentRules.{name_rules, field_rules, argument_rules}
use Rattle.schema_types.specs.Environments.{environment, first_failure, missing, unfit, evaluation}
use Rattle.schema_rules.specs.gql_graph.Rules.{first_broken}
use Rattle.schema_types.specs.Sites.{all_definitions}
use Rattle.schema_rules.specs.schema_tables.Types.{Text, Defs}

-- ---- a schema: `type Query{me:User team(size:Int):[User] thing:Thing} type User{name:String tag(a:Int!):Int} type Page{name:String} union Thing=Page
-- type Subscription{tick:Int tock:Int}`

abbrev member : Text → List InputTree → TypeTree → FieldTree
member n is t = record { name = n; arguments = is; of = t; directives = [] }

abbrev argument : Text → TypeTree → InputTree
argument n t = record { name = n; of = t; default = None; directives = [] }

abbrev schema : Defs
schema =
    S.Object (codes "Query") [] [] (
    member (codes "me") [] (T.Named (codes "User"))
    ∷ member (codes "team") (argument (codes "size") (T.Named (codes "Int")) ∷ []) (T.List (ty.named (codes "User")))
    ∷ member (codes "thing") [] (T.Named (codes "Thing")) ∷ []
    )
    ∷ S.Object (codes "User") [] [] (
    member (codes "name") [] (T.Named (codes "String"))
    ∷ member (codes "tag") (argument (codes "a") (T.NonNull (ty.named (codes "Int"))) ∷ []) (T.Named (codes "Int")) ∷ []
    )
    ∷ S.Object (codes "Page") [] [] (member (codes "name") [] (T.Named (codes "String")) ∷ [])
    ∷ S.Union (codes "Thing") [] (codes "Page" ∷ [])
    ∷ S.Object (codes "Subscription") [] [] (member (codes "tick") [] (T.Named (codes "Int")) ∷ member (codes "tock") [] (T.Named (codes "Int")) ∷ [])
    ∷ []

-- ---- documents

abbrev leaf : Text → Sels → Sels
leaf n rest = field None n [] [] end rest

abbrev node : Text → Sels → Sels → Sels
node n s rest = field None n [] [] s rest

abbrev with_argument : Text → Text → Val → Sels → Sels → Sels
with_argument n a v s rest = field None n ((a, v) ∷ []) [] s rest

abbrev operation : Kind → Option Text → List VariableDef → Sels → Definition
operation k n vs s = D.Operation (record { kind = k; name = n; variables = vs; directives = []; selections = s })

abbrev query : Text → Sels → Definition
query n s = operation Query (Some n) [] s

abbrev fragment : Text → Text → List Directive → Sels → Definition
fragment n on ds s = D.Fragment (record { name = n; on = on; directives = ds; selections = s })

abbrev documents : List Definition → List Document
documents ds = record { definitions = ds } ∷ []

-- ---- names

-- `query A{me{name}} query A{me{name}}`: the second name, behind the first query's seven nodes
pub two_names_row : first_broken (name_rules schema (all_definitions schema (documents (
    query (codes "A") (node (codes "me") (leaf (codes "name") end) end) ∷ query (codes "A") (node (codes "me") (leaf (codes "name") end) end) ∷ []
    )))) ≡ Some (R.V1, 10)
two_names_row = refl

-- `{me{name}}`: the first token
without_name_row : first_broken (name_rules schema (all_definitions schema (documents (operation Query None [] (leaf (codes "me") end) ∷ [])))) ≡ Some (R.V1, 1)
without_name_row = refl

-- `query A{me{...F}} fragment F on User{...G} fragment G on User{...F}`: the spread of G in F comes first
cycle_row : first_broken (name_rules schema (all_definitions schema (documents (
    query (codes "A") (node (codes "me") (spread (codes "F") [] end) end) ∷ fragment (codes "F") (codes "User") [] (spread (codes "G") [] end)
    ∷ fragment (codes "G") (codes "User") [] (spread (codes "F") [] end) ∷ []
    )))) ≡ Some (R.V5, 13)
cycle_row = refl

-- a chain is none
chain_row : first_broken (name_rules schema (all_definitions schema (documents (
    query (codes "A") (node (codes "me") (spread (codes "F") [] end) end) ∷ fragment (codes "F") (codes "User") [] (spread (codes "G") [] end)
    ∷ fragment (codes "G") (codes "User") [] (leaf (codes "name") end) ∷ []
    )))) ≡ None
chain_row = refl

-- `query A{me{...F}} fragment F on Int{name}`: a condition that is no composite type
condition_row : first_broken (name_rules schema (all_definitions schema (documents (
    query (codes "A") (node (codes "me") (spread (codes "F") [] end) end) ∷ fragment (codes "F") (codes "Int") [] (leaf (codes "name") end) ∷ []
    )))) ≡ Some (R.V3, 11)
condition_row = refl

-- `query A{me{...F}}`: there is no such fragment
not_there_row : first_broken (name_rules schema (all_definitions schema (documents (query (codes "A") (node (codes "me") (spread (codes "F") [] end) end) ∷ []))))
    ≡ Some (R.V4, 7)
not_there_row = refl

-- `mutation A{me}`: the schema has no such root
root_row : first_broken (name_rules schema (all_definitions schema (documents (operation Mutation (Some (codes "A")) [] (leaf (codes "me") end) ∷ [])))) ≡ Some (R.V6, 3)
root_row = refl

-- ---- fields

-- `query A{me{name age}}`
undefined_row : first_broken (field_rules schema (all_definitions schema (documents (query (codes "A") (node (codes "me") (leaf (codes "name") (leaf (codes "age") end)) end) ∷ []))))
    ≡ Some (R.V7, 9)
undefined_row = refl

-- `query A{me}`: a composite field without a set
without_set_row : first_broken (field_rules schema (all_definitions schema (documents (query (codes "A") (leaf (codes "me") end) ∷ [])))) ≡ Some (R.V8, 5)
without_set_row = refl

-- `query A{thing{...on User{name}}}`: the union holds no User
never_applies_row : first_broken (field_rules schema (all_definitions schema (documents (
    query (codes "A") (node (codes "thing") (inline (Some (codes "User")) [] (leaf (codes "name") end) end) end) ∷ []
    )))) ≡ Some (R.V10, 6)
never_applies_row = refl

-- `subscription A{tick ...F} fragment F on Subscription{tock}`: two keys, one of them in a fragment
two_keys_row : first_broken (field_rules schema (all_definitions schema (documents (
    operation Subscription (Some (codes "A")) [] (leaf (codes "tick") (spread (codes "F") [] end)) ∷ fragment (codes "F") (codes "Subscription") [] (leaf (codes "tock") end) ∷ []
    )))) ≡ Some (R.V11, 3)
two_keys_row = refl

-- `subscription A{tick ...F} fragment F on Subscription{tick}`: one key
one_key_row : first_broken (field_rules schema (all_definitions schema (documents (
    operation Subscription (Some (codes "A")) [] (leaf (codes "tick") (spread (codes "F") [] end)) ∷ fragment (codes "F") (codes "Subscription") [] (leaf (codes "tick") end) ∷ []
    )))) ≡ None
one_key_row = refl

-- ---- arguments, directives, variables

-- `query A{me{tag}}`: its argument has to be given
argument_missing_row : first_broken (argument_rules schema (all_definitions schema (documents (query (codes "A") (node (codes "me") (leaf (codes "tag") end) end) ∷ []))))
    ≡ Some (R.V13, 7)
argument_missing_row = refl

-- `query A{me{tag(a:null)}}`
null_row : first_broken (argument_rules schema (all_definitions schema (documents (
    query (codes "A") (node (codes "me") (with_argument (codes "tag") (codes "a") null end end) end) ∷ []
    )))) ≡ Some (R.V13, 7)
null_row = refl

-- `query A{team(size:[1]){name}}`: a list for no list
unfit_row : first_broken (argument_rules schema (all_definitions schema (documents (
    query (codes "A") (with_argument (codes "team") (codes "size") (list (vals_of (int (pos 1) ∷ []))) (leaf (codes "name") end) end) ∷ []
    )))) ≡ Some (R.V14, 8)
unfit_row = refl

-- `query A($x:Int){team(size:$y){name}}`: `y` is not defined
not_defined_row : first_broken (argument_rules schema (all_definitions schema (documents (
    operation Query (Some (codes "A")) (record { name = codes "x"; of = T.Named (codes "Int"); default = None; directives = [] } ∷ [])
    (with_argument (codes "team") (codes "size") (variable (codes "y")) (leaf (codes "name") end) end) ∷ []
    )))) ≡ Some (R.V16, 13)
not_defined_row = refl

-- `query A{me{...F}} fragment F on User{tag(a:$y)}`: a variable used only in a fragment
used_in_fragment_row : first_broken (argument_rules schema (all_definitions schema (documents (
    query (codes "A") (node (codes "me") (spread (codes "F") [] end) end)
    ∷ fragment (codes "F") (codes "User") [] (with_argument (codes "tag") (codes "a") (variable (codes "y")) end end) ∷ []
    )))) ≡ Some (R.V16, 17)
used_in_fragment_row = refl

-- a local variable of the fragment is not asked for in the operation
local_row : first_broken (argument_rules schema (all_definitions schema (documents (
    query (codes "A") (node (codes "me") (spread (codes "F") [] end) end)
    ∷ fragment (codes "F") (codes "User") (record { name = codes "argumentDefinitions"; arguments = (codes "y", null) ∷ [] } ∷ [])
    (with_argument (codes "tag") (codes "a") (variable (codes "y")) end end) ∷ []
    )))) ≡ None
local_row = refl

-- `query A{me@deprecated{name}}`: it stands only in schemas
only_in_schemas_row : first_broken (argument_rules schema (all_definitions schema (documents (
    query (codes "A") (field None (codes "me") [] (record { name = codes "deprecated"; arguments = [] } ∷ []) (leaf (codes "name") end) end) ∷ []
    )))) ≡ Some (R.V15, 7)
only_in_schemas_row = refl

-- ---- environments

abbrev variable_def : Text → TypeTree → Option ValueTree → VariableDef
variable_def n t default = record { name = n; of = t; default = default; directives = [] }

abbrev int_type : TypeTree
int_type = T.Named (codes "Int")

-- `$a:Int $b:Int=1 $c:Int`, where `c` is given
environment_row : environment (variable_def (codes "b") int_type (Some (V.Int (pos 1))) ∷ variable_def (codes "a") int_type None ∷ variable_def (codes "c") int_type None ∷ [])
    ((codes "c", t.whole (pos 2)) ∷ [])
    ≡ ((codes "a", t.null) ∷ (codes "b", t.whole (pos 1)) ∷ (codes "c", t.whole (pos 2)) ∷ [])
environment_row = refl

-- a variable of a non-null type is not given; a list is given for an Int
missing_row : first_failure schema (variable_def (codes "a") int_type None ∷ variable_def (codes "b") (T.NonNull (ty.named (codes "Int"))) None ∷ []) [] ≡ Some (missing (codes "b"))
missing_row = refl

unfit_given_row : first_failure schema (variable_def (codes "a") int_type None ∷ []) ((codes "a", t.list t.no_trees) ∷ []) ≡ Some (unfit (codes "a"))
unfit_given_row = refl

-- of two fields of one name the last counts, and a variable without a value is null
last_counts_row : evaluation [] (object (v.member (codes "b") (int (pos 1)) (v.member (codes "a") (variable (codes "x")) (v.member (codes "b") (v.enum (codes "RED")) v.no_members))))
    ≡ t.object (t.members_of ((codes "a", t.null) ∷ (codes "b", t.text (codes "RED")) ∷ []))
last_counts_row = refl
