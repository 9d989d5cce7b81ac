-- Worked rows on the schema of a small product: what responses say to operations of documents, computed from the definitions.
use Rattle.std.proofs.Common.{◌≡◌, refl, ℕ, List, [], ◌∷◌, Option, Some, None, codes, true, false}
use Rattle.std.specs.Fmt.{digits}
use Rattle.std.specs.Prelude.{pos}
use Rattle.plan_ir.specs.gql_ast.Sels as sels
use Rattle.plan_ir.specs.gql_ast.Sels.{Sels}
use Rattle.plan_ir.specs.gql_ast.Ty as ty
use Rattle.plan_ir.specs.gql_ast.Value as v
use Rattle.plan_ir.specs.gql_ast.Value.{Val}
use Rattle.plan_ir.specs.gql_ast.declared.directive.Directive.{Directive}
use Rattle.plan_ir.specs.gql_ast.declared.document.Kind.TheVariants as K
use Rattle.plan_ir.specs.gql_ast.declared.member.FieldTree.{FieldTree}
use Rattle.plan_ir.specs.gql_ast.declared.member.InputTree.{InputTree}
use Rattle.plan_ir.specs.gql_ast.declared.place.FilePlace.{FilePlace}
use Rattle.plan_ir.specs.gql_ast.declared.schema.SchemaDef.TheVariants as S
use Rattle.plan_ir.specs.gql_ast.declared.type_tree.TypeTree.{TypeTree}
use Rattle.plan_ir.specs.gql_ast.declared.type_tree.TypeTree.TheVariants as T
use Rattle.plan_ir.specs.gql_lex.Heads.{head}
use Rattle.plan_ir.specs.gql_lex.Sources.{read}
use Rattle.plan_ir.specs.gql_plain.Tree as t
use Rattle.plan_ir.specs.gql_plain.declared.plain.Plain.TheVariants.{Null, Int, Text as Words}
use Rattle.plan_ir.specs.Expansion.{Project}
use Rattle.plan_collect.specs.Collection.{Part, Setting, collect, part_of}
use Rattle.relay_model.specs.Responses.{operation_says}
use Rattle.plan_ir.specs.schema_tables.Types.{Text, Defs}
use Rattle.plan_ir.specs.schema_types.Environments.{Values}
use Rattle.plan_ir.specs.schema_types.Sites.{ArgumentAt, DirectiveAt, FragmentAt, OperationAt}
use Rattle.serde_json.proofs.OnLiterals.{serde_json_on_literals}
use Rattle.serde_json.specs.Data as J
use Rattle.plan_ir.specs.store_model.Items.{Ask, Item, Below, asked, pointed, leaf, one}
use Rattle.plan_ir.specs.store_model.Verdicts.{Verdict, content, refusal}
use Rattle.plan_ir.specs.store_model.declared.facts.Fact.{Fact}
use Rattle.plan_ir.specs.store_model.declared.facts.HandleFact.{HandleFact}
use Rattle.plan_ir.specs.store_model.declared.payload_fault.Cause.{Cause}
use Rattle.plan_ir.specs.store_model.declared.payload_fault.Cause.TheVariants.{NoData, Shape, NotWhole, IdShape, ReservedId, Typename, Conflict}
use Rattle.plan_ir.specs.store_model.declared.payload_fault.PathStep.{PathStep}
use Rattle.plan_ir.specs.store_model.declared.payload_fault.PathStep.TheVariants.{Key, Index}
use Rattle.plan_ir.specs.store_record.declared.field.Field.{Field}
use Rattle.plan_ir.specs.store_record.declared.field.Field.TheVariants.{Leaf, Link, Links}

-- ---- the schema

abbrev named : Text → TypeTree
named n = T.Named n

abbrev needed : Text → TypeTree
needed n = T.NonNull (ty.named n)

abbrev listed : Text → TypeTree
listed n = T.List (ty.named n)

abbrev takes : Text → Text → InputTree
takes n type_name = record { name = n; of = named type_name; default = None; directives = [] }

abbrev with : Text → List InputTree → TypeTree → FieldTree
with n is type_tree = record { name = n; arguments = is; of = type_tree; directives = [] }

abbrev plain : Text → TypeTree → FieldTree
plain n type_tree = with n [] type_tree

-- `interface Node{id:ID!} type Query{me:User node(id:ID!):Node team(size:Int):[User]}
-- type User implements Node{id:ID! name:String age:Int friend:User address:Address tags:[Tag]
-- friends(first:Int,after:String,last:Int,before:String):UserConnection} type Address{city:String} type Tag{text:String}
-- type UserConnection{edges:[UserEdge] pageInfo:PageInfo!} type UserEdge{cursor:String node:User}
-- type PageInfo{hasNextPage:Boolean! hasPreviousPage:Boolean! startCursor:String endCursor:String}`
abbrev defs : Defs
defs =
    S.Interface (codes "Node") [] [] (plain (codes "id") (needed (codes "ID")) ∷ [])
    ∷ S.Object (codes "Query") [] []
    (plain (codes "me") (named (codes "User"))
    ∷ with (codes "node") (record { name = codes "id"; of = needed (codes "ID"); default = None; directives = [] } ∷ []) (named (codes "Node"))
    ∷ with (codes "team") (takes (codes "size") (codes "Int") ∷ []) (listed (codes "User")) ∷ [])
    ∷ S.Object (codes "User") (codes "Node" ∷ []) []
    (plain (codes "id") (needed (codes "ID")) ∷ plain (codes "name") (named (codes "String")) ∷ plain (codes "age") (named (codes "Int"))
    ∷ plain (codes "friend") (named (codes "User")) ∷ plain (codes "address") (named (codes "Address")) ∷ plain (codes "tags") (listed (codes "Tag"))
    ∷ with (codes "friends")
    (takes (codes "first") (codes "Int") ∷ takes (codes "after") (codes "String") ∷ takes (codes "last") (codes "Int") ∷ takes (codes "before") (codes "String") ∷ [])
    (named (codes "UserConnection")) ∷ [])
    ∷ S.Object (codes "Address") [] [] (plain (codes "city") (named (codes "String")) ∷ [])
    ∷ S.Object (codes "Tag") [] [] (plain (codes "text") (named (codes "String")) ∷ [])
    ∷ S.Object (codes "UserConnection") [] [] (plain (codes "edges") (listed (codes "UserEdge")) ∷ plain (codes "pageInfo") (needed (codes "PageInfo")) ∷ [])
    ∷ S.Object (codes "UserEdge") [] [] (plain (codes "cursor") (named (codes "String")) ∷ plain (codes "node") (named (codes "User")) ∷ [])
    ∷ S.Object (codes "PageInfo") [] []
    (plain (codes "hasNextPage") (needed (codes "Boolean")) ∷ plain (codes "hasPreviousPage") (needed (codes "Boolean"))
    ∷ plain (codes "startCursor") (named (codes "String")) ∷ plain (codes "endCursor") (named (codes "String")) ∷ [])
    ∷ []

-- ---- documents

abbrev at : ℕ → FilePlace
at n = record { file = 0; line = 1; column = n }

abbrev over : List FragmentAt → Project
over fs = record { defs = defs; fragments = fs; place = at }

abbrev query : Sels → OperationAt
query s = record { first = 1; kind = K.Query; name = Some (record { name = codes "Q"; at = 2 }); variables = []; directives = []; selections = s; sites = [] }

-- a field without alias, arguments and directives
abbrev field : Text → (subs rest : Sels) → Sels
field n s rest = sels.field None n [] [] s rest

abbrev fragment_on : (name on : Text) → List DirectiveAt → Sels → FragmentAt
fragment_on n on ds s = record { name = record { name = n; at = 3 }; on = record { name = on; at = 4 }; directives = ds; selections = s; sites = [] }

-- ---- responses and verdicts

abbrev data_of : J.Data → J.Data
data_of d = J.object (J.member (codes "data") d J.no_members)

abbrev text : Text → Text → J.Members → J.Members
text k s ms = J.member k (J.string s) ms

abbrev object_in : Text → J.Members → J.Members → J.Members
object_in k inside ms = J.member k (J.object inside) ms

abbrev fact : Text → Text → Field → Fact
fact id key value = record { id = id; key = key; value = value }

abbrev typed : Text → Text → Fact
typed id type_name = fact id (codes "__typename") (Leaf (Words type_name))

abbrev root : Text
root = codes "client:root"

abbrev refused : List PathStep → Cause → Verdict
refused path cause = refusal (record { path = path; cause = cause })

abbrev says_to : List FragmentAt → Sels → Values → J.Data → Verdict
says_to fs s own d = operation_says (over fs) (at 1) (query s) own (data_of d)

-- ---- keys: `query T($n:Int){a:team(size:2){name} b:team(size:$n){name} c:team{name}}` where n is null

abbrev teams : Sels
teams =
    sels.field (Some (codes "a")) (codes "team") ((codes "size", v.int (pos 2)) ∷ []) [] (field (codes "name") sels.end sels.end)
    (sels.field (Some (codes "b")) (codes "team") ((codes "size", v.variable (codes "n")) ∷ []) [] (field (codes "name") sels.end sels.end)
    (sels.field (Some (codes "c")) (codes "team") [] [] (field (codes "name") sels.end sels.end) sels.end))

abbrev team_a : J.Data
team_a = J.array (J.item (J.object (text (codes "id") (codes "1") (text (codes "name") (codes "A") J.no_members))) J.no_items)

abbrev no_team : J.Data
no_team = J.array J.no_items

-- two of the keys are the same
pub arguments_that_are_null_are_dropped : says_to [] teams ((codes "n", t.null) ∷ [])
    (J.object (J.member (codes "a") team_a (J.member (codes "b") no_team (J.member (codes "c") no_team J.no_members))))
    ≡ content (record {
      facts =
          typed (codes "1") (codes "User") ∷ fact (codes "1") (codes "id") (Leaf (Words (codes "1"))) ∷ fact (codes "1") (codes "name") (Leaf (Words (codes "A")))
          ∷ typed root (codes "__Root") ∷ fact root (codes "team") (Links []) ∷ fact root (codes "team(size:2)") (Links (Some (codes "1") ∷ [])) ∷ [];
      handles = [];
    })
unfolding serde_json_on_literals digits read head
arguments_that_are_null_are_dropped = refl

pub two_lists_conflict : says_to [] teams ((codes "n", t.null) ∷ [])
    (J.object (J.member (codes "a") team_a (J.member (codes "b") no_team (J.member (codes "c") team_a J.no_members))))
    ≡ refused (Key (codes "c") ∷ []) (Conflict root (codes "team") (Links []) (Links (Some (codes "1") ∷ [])))
unfolding serde_json_on_literals digits read head
two_lists_conflict = refl

-- ---- one record twice: `query C{me{name friend{name}}}`

abbrev friends_name : Sels
friends_name = field (codes "me") (field (codes "name") sels.end (field (codes "friend") (field (codes "name") sels.end sels.end) sels.end)) sels.end

pub two_names_conflict : says_to [] friends_name []
    (J.object (object_in (codes "me") (text (codes "id") (codes "4") (text (codes "name") (codes "Ann")
    (object_in (codes "friend") (text (codes "id") (codes "4") (text (codes "name") (codes "Eve") J.no_members)) J.no_members))) J.no_members))
    ≡ refused (Key (codes "me") ∷ Key (codes "name") ∷ []) (Conflict (codes "4") (codes "name") (Leaf (Words (codes "Eve"))) (Leaf (Words (codes "Ann"))))
unfolding serde_json_on_literals digits read head
two_names_conflict = refl

-- ---- a number that is no whole one of 64 bits: `query N{me{age}}`

pub a_number_is_too_great : says_to [] (field (codes "me") (field (codes "age") sels.end sels.end) sels.end) []
    (J.object (object_in (codes "me") (text (codes "id") (codes "4") (J.member (codes "age") (J.number (J.unsigned 9223372036854775808)) J.no_members)) J.no_members))
    ≡ refused (Key (codes "me") ∷ Key (codes "age") ∷ []) NotWhole
unfolding serde_json_on_literals digits read head
a_number_is_too_great = refl

-- ---- ids and shapes: `query Q{me{name}}`

abbrev my_name : Sels
my_name = field (codes "me") (field (codes "name") sels.end sels.end) sels.end

abbrev with_id : Text → J.Data
with_id i = J.object (object_in (codes "me") (text (codes "id") i (text (codes "name") (codes "Ann") J.no_members)) J.no_members)

pub an_id_is_reserved : says_to [] my_name [] (with_id (codes "client:root")) ≡ refused (Key (codes "me") ∷ Key (codes "id") ∷ []) ReservedId
unfolding serde_json_on_literals digits read head
an_id_is_reserved = refl

pub an_id_is_empty : says_to [] my_name [] (with_id []) ≡ refused (Key (codes "me") ∷ Key (codes "id") ∷ []) IdShape
unfolding serde_json_on_literals digits read head
an_id_is_empty = refl

pub a_list_is_no_object : says_to [] my_name [] (J.object (J.member (codes "me") no_team J.no_members)) ≡ refused (Key (codes "me") ∷ []) Shape
unfolding serde_json_on_literals digits read head
a_list_is_no_object = refl

pub data_is_null : says_to [] my_name [] J.null ≡ refused [] NoData
unfolding serde_json_on_literals digits read head
data_is_null = refl

-- ---- an abstract type: `query O($id:ID!){node(id:$id){id}}`

abbrev node : Sels
node = sels.field None (codes "node") ((codes "id", v.variable (codes "id")) ∷ []) [] (field (codes "id") sels.end sels.end) sels.end

abbrev u1 : Values
u1 = (codes "id", t.text (codes "u1")) ∷ []

pub a_type_name_is_wanted : says_to [] node u1 (J.object (object_in (codes "node") (text (codes "id") (codes "u1") J.no_members) J.no_members))
    ≡ refused (Key (codes "node") ∷ Key (codes "__typename") ∷ []) Typename
unfolding serde_json_on_literals digits read head
a_type_name_is_wanted = refl

pub a_type_name_is_told : says_to [] node u1
    (J.object (object_in (codes "node") (text (codes "id") (codes "u1") (text (codes "__typename") (codes "User") J.no_members)) J.no_members))
    ≡ content (record {
      facts =
          typed root (codes "__Root") ∷ fact root (codes "node(id:\"u1\")") (Link (codes "u1")) ∷ typed (codes "u1") (codes "User")
          ∷ fact (codes "u1") (codes "id") (Leaf (Words (codes "u1"))) ∷ [];
      handles = [];
    })
unfolding serde_json_on_literals digits read head
a_type_name_is_told = refl

-- ---- a connection: `query K($after:String){me{friends(first:2,after:$after)@connection(key:"K_friends"){edges{node{name}}}}}`

abbrev page : Sels
page =
    field (codes "me")
    (sels.field None (codes "friends") ((codes "first", v.int (pos 2)) ∷ (codes "after", v.variable (codes "after")) ∷ [])
    (record { name = codes "connection"; arguments = (codes "key", v.text (codes "K_friends")) ∷ [] } ∷ [])
    (field (codes "edges") (field (codes "node") (field (codes "name") sels.end sels.end) sels.end) sels.end) sels.end) sels.end

pub a_page_is_told : says_to [] page ((codes "after", t.text (codes "c1")) ∷ [])
    (J.object (object_in (codes "me") (text (codes "id") (codes "4")
    (object_in (codes "friends")
    (J.member (codes "edges") (J.array (J.item (J.object (text (codes "cursor") (codes "c2")
    (object_in (codes "node") (text (codes "id") (codes "5") (text (codes "name") (codes "Al") J.no_members)) J.no_members))) J.no_items))
    (object_in (codes "pageInfo") (text (codes "endCursor") (codes "c2") J.no_members) J.no_members)) J.no_members)) J.no_members))
    ≡ content (record {
      facts =
          typed (codes "4") (codes "User") ∷ fact (codes "4") (codes "friends(after:\"c1\",first:2)") (Link (codes "client:4:friends(after:\"c1\",first:2)"))
          ∷ fact (codes "4") (codes "id") (Leaf (Words (codes "4")))
          ∷ typed (codes "5") (codes "User") ∷ fact (codes "5") (codes "id") (Leaf (Words (codes "5"))) ∷ fact (codes "5") (codes "name") (Leaf (Words (codes "Al")))
          ∷ typed (codes "client:4:friends(after:\"c1\",first:2)") (codes "UserConnection")
          ∷ fact (codes "client:4:friends(after:\"c1\",first:2)") (codes "edges") (Links (Some (codes "client:4:friends(after:\"c1\",first:2):edges:0") ∷ []))
          ∷ fact (codes "client:4:friends(after:\"c1\",first:2)") (codes "pageInfo") (Link (codes "client:4:friends(after:\"c1\",first:2):pageInfo"))
          ∷ typed (codes "client:4:friends(after:\"c1\",first:2):edges:0") (codes "UserEdge")
          ∷ fact (codes "client:4:friends(after:\"c1\",first:2):edges:0") (codes "cursor") (Leaf (Words (codes "c2")))
          ∷ fact (codes "client:4:friends(after:\"c1\",first:2):edges:0") (codes "node") (Link (codes "5"))
          ∷ typed (codes "client:4:friends(after:\"c1\",first:2):pageInfo") (codes "PageInfo")
          ∷ fact (codes "client:4:friends(after:\"c1\",first:2):pageInfo") (codes "endCursor") (Leaf (Words (codes "c2")))
          ∷ typed root (codes "__Root") ∷ fact root (codes "me") (Link (codes "4")) ∷ [];
      handles =
          record {
            parent = codes "4";
            handle_key = codes "__K_friends_connection";
            field_key = codes "friends(after:\"c1\",first:2)";
            after = Words (codes "c1");
            before = Null;
            page_type = codes "UserConnection";
            info_type = codes "PageInfo";
          } ∷ [];
    })
unfolding serde_json_on_literals digits read head
a_page_is_told = refl

-- ---- what is left out: `query V($b:Boolean){me{name@skip(if:$b) age@include(if:$b)}}`

abbrev condition : Text → List Directive
condition n = record { name = n; arguments = (codes "if", v.variable (codes "b")) ∷ [] } ∷ []

abbrev conditions : Sels
conditions =
    field (codes "me") (sels.field None (codes "name") [] (condition (codes "skip")) sels.end (sels.field None (codes "age") [] (condition (codes "include")) sels.end sels.end)) sels.end

abbrev ann : J.Data
ann = J.object (object_in (codes "me") (text (codes "id") (codes "4") (text (codes "name") (codes "Ann") (J.member (codes "age") J.null J.no_members))) J.no_members)

abbrev of_ann : Fact → List Fact
of_ann f = typed (codes "4") (codes "User") ∷ f ∷ fact (codes "4") (codes "id") (Leaf (Words (codes "4"))) ∷ typed root (codes "__Root") ∷ fact root (codes "me") (Link (codes "4")) ∷ []

pub true_skips_and_includes : says_to [] conditions ((codes "b", t.truth true) ∷ []) ann
    ≡ content (record { facts = of_ann (fact (codes "4") (codes "age") (Leaf Null)); handles = [] })
unfolding serde_json_on_literals digits read head
true_skips_and_includes = refl

-- null neither skips nor includes
pub null_leaves_out_what_is_to_be_included : says_to [] conditions ((codes "b", t.null) ∷ []) ann
    ≡ content (record {
      facts =
          typed (codes "4") (codes "User") ∷ fact (codes "4") (codes "id") (Leaf (Words (codes "4"))) ∷ fact (codes "4") (codes "name") (Leaf (Words (codes "Ann")))
          ∷ typed root (codes "__Root") ∷ fact root (codes "me") (Link (codes "4")) ∷ [];
      handles = [];
    })
unfolding serde_json_on_literals digits read head
null_leaves_out_what_is_to_be_included = refl

-- ---- the masked form: `query F{me{...P ...U@relay(mask:false)}} fragment P on User{name} fragment U on User{age}`

abbrev fragments : List FragmentAt
fragments =
    fragment_on (codes "P") (codes "User") [] (field (codes "name") sels.end sels.end)
    ∷ fragment_on (codes "U") (codes "User") [] (field (codes "age") sels.end sels.end) ∷ []

abbrev masked : Setting
masked = record { project = over fragments; place = at 1; own = []; whole = false }

abbrev spreads : Sels
spreads = sels.spread (codes "P") [] (sels.spread (codes "U") (record { name = codes "relay"; arguments = (codes "mask", v.truth false) ∷ [] } ∷ []) sels.end)

abbrev part : ℕ → Sels → Part
part k s = record { spreads = k; environment = []; selections = s }

pub a_spread_is_a_pointer : collect masked (codes "User") (part 2 spreads)
    ≡ pointed (record { fragment = codes "P"; scope = []; inline = false; body = part 1 (field (codes "name") sels.end sels.end) })
    ∷ asked (record {
      ask = record { response = codes "age"; name = codes "age"; arguments = []; connection = None; form = leaf };
      part = part 1 sels.end;
    }) ∷ []
unfolding serde_json_on_literals digits read head
a_spread_is_a_pointer = refl
