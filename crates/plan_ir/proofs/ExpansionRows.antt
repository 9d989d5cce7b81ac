-- Worked rows of expansion: fields are added, spreads are followed, local variables give way to their values.
use Rattle.std.proofs.Common.{◌≡◌, refl, ℕ, List, [], ◌∷◌, Option, Some, None, codes}
use Rattle.std.specs.Prelude.{pos}
use Rattle.relay_marks.specs.gql_ast.Sels as sels
use Rattle.relay_marks.specs.gql_ast.Sels.{Sels}
use Rattle.relay_marks.specs.gql_ast.Ty as ty
use Rattle.relay_marks.specs.gql_ast.Value as v
use Rattle.relay_marks.specs.gql_ast.Value.{Val}
use Rattle.relay_marks.specs.gql_ast.declared.directive.Directive.{Directive}
use Rattle.relay_marks.specs.gql_ast.declared.member.FieldTree.{FieldTree}
use Rattle.relay_marks.specs.gql_ast.declared.member.InputTree.{InputTree}
use Rattle.relay_marks.specs.gql_ast.declared.place.FilePlace.{FilePlace}
use Rattle.relay_marks.specs.gql_ast.declared.schema.SchemaDef.TheVariants as S
use Rattle.relay_marks.specs.gql_ast.declared.type_tree.TypeTree.{TypeTree}
use Rattle.relay_marks.specs.gql_ast.declared.type_tree.TypeTree.TheVariants as T
use Rattle.relay_marks.specs.gql_lex.Heads.{head}
use Rattle.relay_marks.specs.gql_lex.Sources.{read}
use Rattle.plan_ir.specs.Additions.{id_field, typename_field}
use Rattle.plan_ir.specs.Expansion.{Project, expansion, gifts}
use Rattle.plan_ir.specs.Nodes.{Nodes, end, field, inline, set_depth}
use Rattle.plan_ir.specs.Sizes.{nodes_count, all_count, nodes_value_depth}
use Rattle.plan_ir.specs.Substitution.{operation_scope, scope_of_own}
use Rattle.relay_marks.specs.schema_types.Sites.{FragmentAt, ArgumentAt}
use Rattle.relay_marks.specs.schema_tables.Types.{Text, Defs}

abbrev member : Text → List InputTree → TypeTree → FieldTree
member n is t = record { name = n; arguments = is; of = t; directives = [] }

abbrev named : Text → TypeTree
named n = T.Named n

abbrev id_member : FieldTree
id_member = member (codes "id") [] (T.NonNull (ty.named (codes "ID")))

abbrev size : InputTree
size = record { name = codes "size"; of = named (codes "Int"); default = None; directives = [] }

-- `type Query{me:User node:Node thing:Thing} interface Node{id:ID!} type User implements Node{id:ID! name(size:Int):String age:Int friends:Friends}
-- type Plain{x:Int} union Thing=User|Plain type Friends{edges:[Edge] pageInfo:Info} type Edge{cursor:String node:User}
-- type Info{hasNextPage:Boolean hasPreviousPage:Boolean startCursor:String endCursor:String}`
abbrev defs : Defs
defs =
    S.Object (codes "Query") [] [] (member (codes "me") [] (named (codes "User")) ∷ member (codes "node") [] (named (codes "Node")) ∷ member (codes "thing") [] (named (codes "Thing")) ∷ [])
    ∷ S.Interface (codes "Node") [] [] (id_member ∷ [])
    ∷ S.Object (codes "User") (codes "Node" ∷ []) [] (id_member ∷ member (codes "name") (size ∷ []) (named (codes "String")) ∷ member (codes "age") [] (named (codes "Int")) ∷ member (codes "friends") [] (named (codes "Friends")) ∷ [])
    ∷ S.Object (codes "Plain") [] [] (member (codes "x") [] (named (codes "Int")) ∷ [])
    ∷ S.Union (codes "Thing") [] (codes "User" ∷ codes "Plain" ∷ [])
    ∷ S.Object (codes "Friends") [] [] (member (codes "edges") [] (T.List (ty.named (codes "Edge"))) ∷ member (codes "pageInfo") [] (named (codes "Info")) ∷ [])
    ∷ S.Object (codes "Edge") [] [] (member (codes "cursor") [] (named (codes "String")) ∷ member (codes "node") [] (named (codes "User")) ∷ [])
    ∷ S.Object (codes "Info") [] []
    (member (codes "hasNextPage") [] (named (codes "Boolean")) ∷ member (codes "hasPreviousPage") [] (named (codes "Boolean"))
    ∷ member (codes "startCursor") [] (named (codes "String")) ∷ member (codes "endCursor") [] (named (codes "String")) ∷ [])
    ∷ []

abbrev at : ℕ → FilePlace
at n = record { file = 0; line = 1; column = n }

abbrev over : List FragmentAt → Project
over fs = record { defs = defs; fragments = fs; place = at }

-- a field without arguments and directives
abbrev plain : Text → (subs rest : Sels) → Sels
plain n s rest = sels.field None n [] [] s rest

abbrev node : Text → Text → (subs : Nodes) → ℕ → (rest : Nodes) → Nodes
node n of s p rest = field n n [] [] None (ty.named of) s (at p) rest

abbrev of_query : Option Text
of_query = Some (codes "Query")

-- `me{name}` becomes `me{name id}`
pub id_is_added : expansion 0 (over []) operation_scope 10 of_query (plain (codes "me") (plain (codes "name") sels.end sels.end) sels.end)
    ≡ node (codes "me") (codes "User") (node (codes "name") (codes "String") end 12 (id_field (at 10))) 10 end
id_is_added = refl

-- `me{id}` stays: the field stands there already
pub id_is_there : expansion 0 (over []) operation_scope 10 of_query (plain (codes "me") (plain (codes "id") sels.end sels.end) sels.end)
    ≡ node (codes "me") (codes "User") (field (codes "id") (codes "id") [] [] None (ty.non_null (ty.named (codes "ID"))) end (at 12) end) 10 end
id_is_there = refl

-- `me{id:id}` becomes `me{id id}`: the alias counts, though it is equal to the name
pub id_with_alias : expansion 0 (over []) operation_scope 10 of_query (plain (codes "me") (sels.field (Some (codes "id")) (codes "id") [] [] sels.end sels.end) sels.end)
    ≡ node (codes "me") (codes "User") (field (codes "id") (codes "id") [] [] None (ty.non_null (ty.named (codes "ID"))) end (at 12) (id_field (at 10))) 10 end
id_with_alias = refl

-- `node{id}` becomes `node{id __typename}`
pub typename_is_added : expansion 0 (over []) operation_scope 10 of_query (plain (codes "node") (plain (codes "id") sels.end sels.end) sels.end)
    ≡ node (codes "node") (codes "Node")
    (field (codes "id") (codes "id") [] [] None (ty.non_null (ty.named (codes "ID"))) end (at 12) (typename_field (at 10))) 10 end
typename_is_added = refl

-- `thing{...{x}}` becomes `thing{...{x} ...on User{id} __typename}`: a union has no id, one of its types has one; nothing
-- is added to the set of an inline fragment
pub union_gets_ids : expansion 0 (over []) operation_scope 10 of_query
    (plain (codes "thing") (sels.inline (Some (codes "Plain")) [] (plain (codes "x") sels.end sels.end) sels.end) sels.end)
    ≡ node (codes "thing") (codes "Thing")
    (inline (Some (codes "Plain")) [] (node (codes "x") (codes "Int") end 14 end) (at 12)
    (inline (Some (codes "User")) [] (id_field (at 10)) (at 10) (typename_field (at 10)))) 10 end
union_gets_ids = refl

-- ---- connections

abbrev connecting : Directive
connecting = record { name = codes "connection"; arguments = (codes "key", v.text (codes "K_friends")) ∷ [] }

-- `friends @connection(key:"K_friends"){edges{cursor}}` becomes
-- `friends{edges{cursor} edges{cursor node{id}} pageInfo{endCursor hasNextPage hasPreviousPage startCursor}}`
pub connection_fields : expansion 0 (over []) operation_scope 10 (Some (codes "User"))
    (sels.field None (codes "friends") [] (connecting ∷ []) (plain (codes "edges") (plain (codes "cursor") sels.end sels.end) sels.end) sels.end)
    ≡ field (codes "friends") (codes "friends") [] [] (Some (record { key = codes "K_friends"; filters = None })) (ty.named (codes "Friends"))
    (field (codes "edges") (codes "edges") [] [] None (ty.list (ty.named (codes "Edge"))) (node (codes "cursor") (codes "String") end 19 end) (at 17)
    (field (codes "edges") (codes "edges") [] [] None (ty.list (ty.named (codes "Edge")))
    (node (codes "cursor") (codes "String") end 10 (node (codes "node") (codes "User") (id_field (at 10)) 10 end)) (at 10)
    (node (codes "pageInfo") (codes "Info")
    (node (codes "endCursor") (codes "String") end 10 (node (codes "hasNextPage") (codes "Boolean") end 10
    (node (codes "hasPreviousPage") (codes "Boolean") end 10 (node (codes "startCursor") (codes "String") end 10 end)))) 10 end))) (at 10) end
connection_fields = refl

-- ---- spreads

-- `{type:"Int",defaultValue:3}` for the local variable `n`
abbrev local : Val → ArgumentAt
local said = record { name = record { name = codes "n"; at = 7 }; value = record { of = said; at = 8 } }

abbrev with_default : Val
with_default = v.object (v.member (codes "type") (v.text (codes "Int")) (v.member (codes "defaultValue") (v.int (pos 3)) v.no_members))

abbrev without_default : Val
without_default = v.object (v.member (codes "type") (v.text (codes "Int")) v.no_members)

abbrev sized : Val → Sels
sized x = sels.field None (codes "name") ((codes "size", x) ∷ []) [] sels.end sels.end

-- `fragment F on User @argumentDefinitions(n:..){name(size:$n)}`
abbrev fragment : Val → FragmentAt
fragment said = record {
  name = record { name = codes "F"; at = 3 };
  on = record { name = codes "User"; at = 4 };
  directives = record { name = record { name = codes "argumentDefinitions"; at = 6 }; arguments = local said ∷ [] } ∷ [];
  selections = sized (v.variable (codes "n"));
  sites = [];
}

abbrev giving : Val → Directive
giving x = record { name = codes "arguments"; arguments = (codes "n", x) ∷ [] }

abbrev spreading : List Directive → Sels
spreading ds = plain (codes "me") (sels.spread (codes "F") ds sels.end) sels.end

abbrev with_size : Val → (first : ℕ) → List Directive → Nodes
with_size x k ds =
    node (codes "me") (codes "User") (inline (Some (codes "User")) ds (field (codes "name") (codes "name") ((codes "size", x) ∷ []) [] None (ty.named (codes "String")) end (at k) end) (at 32) (id_field (at 30))) 30 end

-- `me{...F@arguments(n:5)}` becomes `me{...on User{name(size:5)} id}`
pub local_is_given : expansion 1 (over (fragment with_default ∷ [])) operation_scope 30 of_query (spreading (giving (v.int (pos 5)) ∷ [])) ≡ with_size (v.int (pos 5)) 16 []
unfolding read head
local_is_given = refl

-- `me{...F}` takes the default
pub default_is_put : expansion 1 (over (fragment with_default ∷ [])) operation_scope 30 of_query (spreading []) ≡ with_size (v.int (pos 3)) 16 []
unfolding read head
default_is_put = refl

-- without a default null is put
pub null_is_put : expansion 1 (over (fragment without_default ∷ [])) operation_scope 30 of_query (spreading []) ≡ with_size v.null 13 []
unfolding read head
null_is_put = refl

-- a variable of the operation stays, also under the name of the local one
pub variable_is_given : expansion 1 (over (fragment with_default ∷ [])) operation_scope 30 of_query (spreading (giving (v.variable (codes "n")) ∷ [])) ≡ with_size (v.variable (codes "n")) 16 []
unfolding read head
variable_is_given = refl

-- `@skip` of a spread stays, a directive of the schema on it does not
pub condition_stays : expansion 1 (over (fragment with_default ∷ [])) operation_scope 30 of_query
    (spreading (record { name = codes "skip"; arguments = (codes "if", v.variable (codes "b")) ∷ [] } ∷ record { name = codes "own"; arguments = [] } ∷ []))
    ≡ with_size (v.int (pos 3)) 16 (record { name = codes "skip"; arguments = (codes "if", v.variable (codes "b")) ∷ [] } ∷ [])
unfolding read head
condition_stays = refl

-- a fragment by itself keeps its local variable, as `:n`
pub own_local_stays : expansion 0 (over []) (scope_of_own (fragment with_default)) 16 (Some (codes "User")) (sized (v.variable (codes "n")))
    ≡ field (codes "name") (codes "name") ((codes "size", v.variable (codes ":n")) ∷ []) [] None (ty.named (codes "String")) end (at 16) end
unfolding read head
own_local_stays = refl

-- what is given counts, with its variables replaced
pub gift_counts : gifts 1 (over (fragment with_default ∷ [])) operation_scope (spreading (giving (v.list (v.val (v.int (pos 5)) v.no_vals)) ∷ [])) ≡ v.list (v.val (v.int (pos 5)) v.no_vals) ∷ []
gift_counts = refl

-- ---- arguments, directives and aliases stay

abbrev including : Val → Directive
including x = record { name = codes "include"; arguments = (codes "if", x) ∷ [] }

-- `me{name@include(if:$v)}` becomes `me{name@include(if:$v) id}`
pub include_stays : expansion 0 (over []) operation_scope 10 of_query
    (plain (codes "me") (sels.field None (codes "name") [] (including (v.variable (codes "v")) ∷ []) sels.end sels.end) sels.end)
    ≡ node (codes "me") (codes "User")
    (field (codes "name") (codes "name") [] (including (v.variable (codes "v")) ∷ []) None (ty.named (codes "String")) end (at 12) (id_field (at 10))) 10 end
include_stays = refl

-- `me{x:name x:age}` becomes `me{x:name x:age id}`: whether both can stand there is another rule's
pub aliases_stay : expansion 0 (over []) operation_scope 10 of_query
    (plain (codes "me") (sels.field (Some (codes "x")) (codes "name") [] [] sels.end (sels.field (Some (codes "x")) (codes "age") [] [] sels.end sels.end)) sels.end)
    ≡ node (codes "me") (codes "User")
    (field (codes "x") (codes "name") [] [] None (ty.named (codes "String")) end (at 12)
    (field (codes "x") (codes "age") [] [] None (ty.named (codes "Int")) end (at 15) (id_field (at 10)))) 10 end
aliases_stay = refl

-- what a query selects of a connection stays in front of what is added: `me{friends@connection(key:"K_friends"){edges{node{name}}}}` becomes
-- `me{friends{edges{node{name id}} edges{cursor node{id}} pageInfo{endCursor hasNextPage hasPreviousPage startCursor}} id}`
pub connection_of_query : expansion 0 (over []) operation_scope 10 of_query
    (plain (codes "me") (sels.field None (codes "friends") [] (connecting ∷ [])
    (plain (codes "edges") (plain (codes "node") (plain (codes "name") sels.end sels.end) sels.end) sels.end) sels.end) sels.end)
    ≡ node (codes "me") (codes "User")
    (field (codes "friends") (codes "friends") [] [] (Some (record { key = codes "K_friends"; filters = None })) (ty.named (codes "Friends"))
    (field (codes "edges") (codes "edges") [] [] None (ty.list (ty.named (codes "Edge")))
    (node (codes "node") (codes "User") (node (codes "name") (codes "String") end 23 (id_field (at 21))) 21 end) (at 19)
    (field (codes "edges") (codes "edges") [] [] None (ty.list (ty.named (codes "Edge")))
    (node (codes "cursor") (codes "String") end 12 (node (codes "node") (codes "User") (id_field (at 12)) 12 end)) (at 12)
    (node (codes "pageInfo") (codes "Info")
    (node (codes "endCursor") (codes "String") end 12 (node (codes "hasNextPage") (codes "Boolean") end 12
    (node (codes "hasPreviousPage") (codes "Boolean") end 12 (node (codes "startCursor") (codes "String") end 12 end)))) 12 end))) (at 12) (id_field (at 10))) 10 end
connection_of_query = refl

-- ---- fragments in fragments

-- `fragment G on User @argumentDefinitions(n:..){...F@arguments(n:[$n])}`
abbrev outer : FragmentAt
outer = record {
  name = record { name = codes "G"; at = 53 };
  on = record { name = codes "User"; at = 54 };
  directives = record { name = record { name = codes "argumentDefinitions"; at = 56 }; arguments = local without_default ∷ [] } ∷ [];
  selections = sels.spread (codes "F") (giving (v.list (v.val (v.variable (codes "n")) v.no_vals)) ∷ []) sels.end;
  sites = [];
}

abbrev both : Project
both = over (fragment with_default ∷ outer ∷ [])

abbrev listed : Val → Val
listed x = v.list (v.val x v.no_vals)

-- `me{...G@arguments(n:5)}`: the value goes through both fragments
abbrev through : Sels
through = plain (codes "me") (sels.spread (codes "G") (giving (v.int (pos 5)) ∷ []) sels.end) sels.end

-- `me{...on User{...on User{name(size:[5])}} id}`
pub value_goes_through : expansion 2 both operation_scope 30 of_query through
    ≡ node (codes "me") (codes "User")
    (inline (Some (codes "User")) []
    (inline (Some (codes "User")) [] (field (codes "name") (codes "name") ((codes "size", listed (v.int (pos 5))) ∷ []) [] None (ty.named (codes "String")) end (at 16) end) (at 63) end)
    (at 32) (id_field (at 30))) 30 end
unfolding read head
value_goes_through = refl

-- ---- counts and depths

-- `me`, two inline fragments, `name` with a list and its item, `id`
pub nodes_of_query : nodes_count (expansion 2 both operation_scope 30 of_query through) ≡ 7
unfolding read head
nodes_of_query = refl

-- 5, and `[5]` with its item
pub values_given : all_count (gifts 2 both operation_scope through) ≡ 3
unfolding read head
values_given = refl

-- the query's set, that of `me`, and those of the two inline fragments
pub sets_of_query : set_depth (expansion 2 both operation_scope 30 of_query through) ≡ 4
sets_of_query = refl

-- one list
pub lists_of_query : nodes_value_depth (expansion 2 both operation_scope 30 of_query through) ≡ 1
unfolding read head
lists_of_query = refl
