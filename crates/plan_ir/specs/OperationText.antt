-- The text of an expanded operation, and the lines of artifacts (this project's own). Blanks stand where the grammar
-- needs them alone: behind the kind, and between the selections of a set.
use Rattle.std.specs.Prelude.{ℕ, Bool, false, ◌||◌, cond, List, [], ◌∷◌, ◌++◌, map, codes, Option, Some, None, option_map, unwrap_or, bytes_eq}
use Rattle.std.specs.Cmp.Lexicographic.{slice_cmp}
use Rattle.std.specs.Fmt.{signed_decimal}
use Rattle.std.specs.List.{filter, list_any}
use Rattle.std.specs.Ordering.{nat_cmp, match_ordering}
use Rattle.json.specs.Print.{quoted}
use Rattle.relay_marks.specs.gql_ast.Ty as ty
use Rattle.relay_marks.specs.gql_ast.Ty.{Ty}
use Rattle.relay_marks.specs.gql_ast.TypeView.{ty_of}
use Rattle.relay_marks.specs.gql_ast.Value.{Val, Vals, Members, variable, int, text, truth, null, enum, list, object, no_vals, val, no_members, member}
use Rattle.relay_marks.specs.gql_ast.ValueView.{value_of}
use Rattle.relay_marks.specs.gql_ast.declared.directive.Directive.{Directive}
use Rattle.relay_marks.specs.gql_ast.declared.document.Kind.{Kind}
use Rattle.relay_marks.specs.gql_ast.declared.document.Kind.TheVariants.{Query}
use Rattle.relay_marks.specs.gql_ast.declared.variable.VariableDef.{VariableDef}
use Rattle.store_model.specs.gql_plain.ToJson.{compact}
use Rattle.store_model.specs.gql_plain.Tree as tree
use Rattle.relay_marks.specs.gql_syntax.Words.{truth_word, null_word, kind_word}
use Rattle.plan_ir.specs.Nodes.{Nodes, end, field, inline}
use Rattle.plan_ir.specs.Substitution.{Arguments}
use Rattle.plan_ir.specs.declared.expanded.Expanded.{Expanded}
use Rattle.relay_marks.specs.schema_tables.Types.{Text}

-- ---- lists

-- the texts with a character between each two
abbrev pub join_texts : (between : ℕ) → List Text → Text
join_texts c [] = []
join_texts c (t ∷ []) = t
join_texts c (t ∷ u ∷ more) = t ++ c ∷ join_texts c (u ∷ more)

-- the texts with a character between each two, and one in front and one behind
abbrev pub enclose : (opening between closing : ℕ) → List Text → Text
enclose o c e ts = o ∷ (join_texts c ts ++ e ∷ [])

-- nothing for no text
abbrev pub enclose_some : (opening between closing : ℕ) → List Text → Text
enclose_some o c e [] = []
enclose_some o c e (t ∷ more) = enclose o c e (t ∷ more)

-- the members with one put before the first whose name is not below its own
abbrev pub with_member : {X : Type 0} → Text × X → List (Text × X) → List (Text × X)
with_member m [] = m ∷ []
with_member m (first ∷ rest) =
    match_ordering (slice_cmp nat_cmp m.0 first.0) (m ∷ first ∷ rest) (m ∷ first ∷ rest) (first ∷ with_member m rest)

-- in byte order of the names, those of one name in the order in which they stand
abbrev pub by_name : {X : Type 0} → List (Text × X) → List (Text × X)
by_name [] = []
by_name (m ∷ ms) = with_member m (by_name ms)

-- `name:value` of each
abbrev pub pairs_text : List (Text × Text) → List Text
pairs_text ms = map (λ m. m.0 ++ 58 ∷ m.1) (by_name ms)

-- ---- values, arguments, directives, types

-- `$x`, an Int in decimal, a text as in JSON, `true`, `false`, `null`, the name of an enum value, `[a,b]`, `{a:1,b:2}`
abbrev mutual
  pub value_text : Val → Text
  value_text (variable n) = 36 ∷ n
  value_text (int z) = signed_decimal z
  value_text (text t) = quoted t
  value_text (truth b) = truth_word b
  value_text null = null_word
  value_text (enum n) = n
  value_text (list vs) = enclose 91 44 93 (value_texts vs)
  value_text (object ms) = enclose 123 44 125 (pairs_text (member_texts ms))

  pub value_texts : Vals → List Text
  value_texts no_vals = []
  value_texts (val v vs) = value_text v ∷ value_texts vs

  -- each name with the text of its value, in written order
  pub member_texts : Members → List (Text × Text)
  member_texts no_members = []
  member_texts (member n v ms) = (n, value_text v) ∷ member_texts ms

-- nothing, or `(name:value,name:value)`
abbrev pub arguments_text : Arguments → Text
arguments_text xs = enclose_some 40 44 41 (pairs_text (map (λ x. (x.0, value_text x.1)) xs))

-- `@name(..)` of each, in written order
abbrev pub directives_text : List Directive → Text
directives_text [] = []
directives_text (d ∷ ds) = 64 ∷ (d.name ++ arguments_text d.arguments ++ directives_text ds)

abbrev pub type_text : Ty → Text
type_text (ty.named n) = n
type_text (ty.list t) = 91 ∷ (type_text t ++ 93 ∷ [])
type_text (ty.non_null t) = type_text t ++ 33 ∷ []

-- ---- selection sets

-- `alias:name`, where the response key differs from the name, or the name alone
abbrev pub name_text : (response name : Text) → Text
name_text r n = cond (bytes_eq r n) n (r ++ 58 ∷ n)

-- `...on T`, or `...`
abbrev pub condition_text : Option Text → Text
condition_text None = codes "..."
condition_text (Some t) = codes "...on " ++ t

-- each selection of a set
abbrev pub node_texts : Nodes → List Text
node_texts end = []
node_texts (field r n xs ds c of s p rest) =
    (name_text r n ++ arguments_text xs ++ directives_text ds ++ enclose_some 123 32 125 (node_texts s)) ∷ node_texts rest
node_texts (inline o ds s p rest) = (condition_text o ++ directives_text ds ++ enclose 123 32 125 (node_texts s)) ∷ node_texts rest

-- ---- the variables that are used

abbrev mutual
  pub value_uses : Text → Val → Bool
  value_uses x (variable n) = bytes_eq n x
  value_uses x (list vs) = values_use x vs
  value_uses x (object ms) = members_use x ms
  value_uses x v = false

  pub values_use : Text → Vals → Bool
  values_use x no_vals = false
  values_use x (val v vs) = value_uses x v || values_use x vs

  pub members_use : Text → Members → Bool
  members_use x no_members = false
  members_use x (member n v ms) = value_uses x v || members_use x ms

abbrev pub arguments_use : Text → Arguments → Bool
arguments_use x xs = list_any (λ a. value_uses x a.1) xs

abbrev pub directives_use : Text → List Directive → Bool
directives_use x ds = list_any (λ (d : Directive). arguments_use x d.arguments) ds

abbrev pub nodes_use : Text → Nodes → Bool
nodes_use x end = false
nodes_use x (field r n xs ds c of s p rest) = arguments_use x xs || directives_use x ds || nodes_use x s || nodes_use x rest
nodes_use x (inline o ds s p rest) = directives_use x ds || nodes_use x s || nodes_use x rest

-- in order of definition
abbrev pub used_variables : Expanded → List VariableDef
used_variables e =
    filter (λ (v : VariableDef). directives_use v.name e.directives || nodes_use v.name e.selections) e.variables

-- ---- operations

abbrev pub default_text : Option Val → Text
default_text None = []
default_text (Some v) = 61 ∷ value_text v

-- `$x:T=default`, followed by its directives
abbrev pub variable_text : VariableDef → Text
variable_text v =
    36 ∷ (v.name ++ 58 ∷ (type_text (ty_of v.of) ++ default_text (option_map value_of v.default) ++ directives_text v.directives))

abbrev pub variables_text : List VariableDef → Text
variables_text vs = enclose_some 40 44 41 (map variable_text vs)

-- the kind, a space, the name, the variables that are used, the directives, and the set
abbrev pub operation_text : Expanded → Text
operation_text e =
    kind_word (unwrap_or e.kind Query) ++ 32 ∷ (e.name ++ variables_text (used_variables e) ++ directives_text e.directives
    ++ enclose 123 32 125 (node_texts e.selections))

-- ---- artifacts

abbrev pub text_member : Text → Text → tree.Members → tree.Members
text_member key value rest = tree.member key (tree.text value) rest

-- `{"kind":KIND,"name":NAME,"text":TEXT}`
abbrev pub operation_line : Kind → (name : Text) → (text : Text) → Text
operation_line k n t =
    compact (tree.object (text_member (codes "kind") (kind_word k) (text_member (codes "name") n (text_member (codes "text") t tree.no_members))))

-- `{"kind":"fragment","name":NAME,"type":TYPE}`
abbrev pub fragment_line : (name : Text) → (on : Text) → Text
fragment_line n on =
    compact (tree.object (text_member (codes "kind") (codes "fragment") (text_member (codes "name") n (text_member (codes "type") on tree.no_members))))
