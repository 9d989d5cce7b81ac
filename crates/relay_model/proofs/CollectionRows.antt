-- Worked rows of collection along documents and of what a response says, computed from the definitions.
use Rattle.std.proofs.Common.{◌≡◌, refl, ℕ, List, [], ◌∷◌, Option, Some, None, codes, true, false}
use Rattle.std.specs.Fmt.{digits}
use Rattle.std.specs.Prelude.{pos}
use Rattle.plan_ir.specs.gql_plain.Tree as t
use Rattle.plan_ir.specs.gql_plain.declared.plain.Plain.TheVariants.{Null, Int, Text as Words}
use Rattle.plan_ir.specs.gql_ast.Sels as sels
use Rattle.plan_ir.specs.gql_ast.Sels.{Sels}
use Rattle.plan_ir.specs.gql_ast.Ty as ty
use Rattle.plan_ir.specs.gql_ast.Value as v
use Rattle.plan_ir.specs.gql_ast.Value.{Val}
use Rattle.plan_ir.specs.gql_ast.declared.directive.Directive.{Directive}
use Rattle.plan_ir.specs.gql_ast.declared.document.Kind.TheVariants as K
use Rattle.plan_ir.specs.gql_ast.declared.member.FieldTree.{FieldTree}
use Rattle.plan_ir.specs.gql_ast.declared.member.InputTree.{InputTree}
use Rattle.plan_ir.specs.gql_ast.declared.place.FilePlace.{FilePlace}
use Rattle.plan_ir.specs.gql_ast.declared.schema.SchemaDef.TheVariants as S
use Rattle.plan_ir.specs.gql_ast.declared.type_tree.TypeTree.{TypeTree}
use Rattle.plan_ir.specs.gql_ast.declared.type_tree.TypeTree.TheVariants as T
use Rattle.plan_ir.specs.gql_lex.Heads.{head}
use Rattle.plan_ir.specs.gql_lex.Sources.{read}
use Rattle.serde_json.proofs.OnLiterals.{serde_json_on_literals}
use Rattle.plan_ir.specs.Expansion.{Project}
use Rattle.plan_collect.specs.Collection.{Setting, collect, part_of}
use Rattle.relay_model.specs.Responses.{operation_says}
use Rattle.plan_ir.specs.schema_types.Environments.{Values}
use Rattle.plan_ir.specs.schema_types.Sites.{ArgumentAt, FragmentAt, OperationAt}
use Rattle.plan_ir.specs.schema_tables.Types.{Text, Defs}
use Rattle.serde_json.specs.Data as J
use Rattle.plan_ir.specs.store_record.declared.field.Field.{Field}
use Rattle.plan_ir.specs.store_record.declared.field.Field.TheVariants.{Leaf, Link, Links}
use Rattle.plan_ir.specs.store_model.Said.{Said}
use Rattle.plan_ir.specs.store_model.Verdicts.{Verdict, content, refusal}
use Rattle.plan_ir.specs.store_model.declared.facts.Fact.{Fact}

abbrev member : Text → List InputTree → TypeTree → FieldTree
member n is t = record { name = n; arguments = is; of = t; directives = [] }

abbrev named : Text → TypeTree
named n = T.Named n

abbrev id_member : FieldTree
id_member = member (codes "id") [] (T.NonNull (ty.named (codes "ID")))

abbrev size : InputTree
size = record { name = codes "size"; of = named (codes "Int"); default = None; directives = [] }

-- `type Query{me:User node:Node thing:Thing} interface Node{id:ID!} type User implements Node{id:ID! name(size:Int):String age:Int friends:Friends}
-- type Plain{x:Int} union Thing=User|Plain type Friends{edges:[Edge] pageInfo:Info} type Edge{cursor:String node:User}
-- type Info{hasNextPage:Boolean hasPreviousPage:Boolean startCursor:String endCursor:String}`
abbrev defs : Defs
defs =
    S.Object (codes "Query") [] [] (member (codes "me") [] (named (codes "User")) ∷ member (codes "node") [] (named (codes "Node")) ∷ member (codes "thing") [] (named (codes "Thing")) ∷ [])
    ∷ S.Interface (codes "Node") [] [] (id_member ∷ [])
    ∷ S.Object (codes "User") (codes "Node" ∷ []) [] (id_member ∷ member (codes "name") (size ∷ []) (named (codes "String")) ∷ member (codes "age") [] (named (codes "Int")) ∷ member (codes "friends") [] (named (codes "Friends")) ∷ [])
    ∷ S.Object (codes "Plain") [] [] (member (codes "x") [] (named (codes "Int")) ∷ [])
    ∷ S.Union (codes "Thing") [] (codes "User" ∷ codes "Plain" ∷ [])
    ∷ S.Object (codes "Friends") [] [] (member (codes "edges") [] (T.List (ty.named (codes "Edge"))) ∷ member (codes "pageInfo") [] (named (codes "Info")) ∷ [])
    ∷ S.Object (codes "Edge") [] [] (member (codes "cursor") [] (named (codes "String")) ∷ member (codes "node") [] (named (codes "User")) ∷ [])
    ∷ S.Object (codes "Info") [] []
    (member (codes "hasNextPage") [] (named (codes "Boolean")) ∷ member (codes "hasPreviousPage") [] (named (codes "Boolean"))
    ∷ member (codes "startCursor") [] (named (codes "String")) ∷ member (codes "endCursor") [] (named (codes "String")) ∷ [])
    ∷ []

abbrev at : ℕ → FilePlace
at n = record { file = 0; line = 1; column = n }

abbrev over : List FragmentAt → Project
over fs = record { defs = defs; fragments = fs; place = at }

-- a field without arguments and directives
abbrev plain : Text → (subs rest : Sels) → Sels
plain n s rest = sels.field None n [] [] s rest

-- ---- `query Q{me{name ...F@arguments(n:5)}}` with `fragment F on User @argumentDefinitions(n:{type:"Int"}){short:name(size:$n)}`

abbrev said : Val
said = v.object (v.member (codes "type") (v.text (codes "Int")) v.no_members)

abbrev fragment : FragmentAt
fragment = record {
  name = record { name = codes "F"; at = 3 };
  on = record { name = codes "User"; at = 4 };
  directives = record { name = record { name = codes "argumentDefinitions"; at = 6 }; arguments = record { name = record { name = codes "n"; at = 7 }; value = record { of = said; at = 8 } } ∷ [] } ∷ [];
  selections = sels.field (Some (codes "short")) (codes "name") ((codes "size", v.variable (codes "n")) ∷ []) [] sels.end sels.end;
  sites = [];
}

abbrev spreading : Sels
spreading = plain (codes "me") (plain (codes "name") sels.end (sels.spread (codes "F") (record { name = codes "arguments"; arguments = (codes "n", v.int (pos 5)) ∷ [] } ∷ []) sels.end)) sels.end

abbrev query : Sels → OperationAt
query s = record { first = 1; kind = K.Query; name = Some (record { name = codes "Q"; at = 2 }); variables = []; directives = []; selections = s; sites = [] }

abbrev data_of : J.Members → J.Data
data_of ms = J.object (J.member (codes "data") (J.object ms) J.no_members)

abbrev me : J.Members → J.Data
me ms = data_of (J.member (codes "me") (J.object ms) J.no_members)

abbrev fact : Text → Text → Field → Fact
fact id key value = record { id = id; key = key; value = value }

abbrev root_fact : Fact
root_fact = fact (codes "client:root") (codes "__typename") (Leaf (Words (codes "__Root")))

-- the fields of the fragment are those of the object, under the key of their arguments; the id comes from the field that is added
pub fragment_says : operation_says (over (fragment ∷ [])) (at 1) (query spreading) []
    (me (J.member (codes "id") (J.string (codes "4")) (J.member (codes "name") (J.string (codes "Ann")) (J.member (codes "short") (J.string (codes "A")) J.no_members))))
    ≡ content (record {
      facts =
          fact (codes "4") (codes "__typename") (Leaf (Words (codes "User"))) ∷ fact (codes "4") (codes "id") (Leaf (Words (codes "4")))
          ∷ fact (codes "4") (codes "name") (Leaf (Words (codes "Ann"))) ∷ fact (codes "4") (codes "name(size:5)") (Leaf (Words (codes "A")))
          ∷ root_fact ∷ fact (codes "client:root") (codes "me") (Link (codes "4")) ∷ [];
      handles = [];
    })
unfolding serde_json_on_literals digits read head
fragment_says = refl
