-- The local variables of a fragment: the arguments of its `@argumentDefinitions`, after Relay. Each is an object with `type`, a string that
-- is a Type, and at most `defaultValue`, each once.
use Rattle.std.specs.Prelude.{Bool, cond, List, [], ◌∷◌, codes, Option, Some, None, is_some, bytes_eq}
use Rattle.gql_syntax.specs.gql_ast.Ty.{Ty}
use Rattle.gql_syntax.specs.gql_ast.Value.{Val, Members, text, object, no_members, member}
use Rattle.gql_syntax.specs.gql_ast.declared.directive.Directive.{Directive}
use Rattle.constant_values.specs.gql_graph.Rules.{each}
use Rattle.constant_values.specs.schema_types.Sites.{ArgumentAt, DirectiveAt}
use Rattle.constant_values.specs.gql_graph.Texts.{Text}
use Rattle.relay_marks.specs.TypeTexts.{type_in}

-- ---- what the object of a local variable says

-- the text of its type, and its default, as far as they are there
pub record LocalObject : Type 0 where
  pub of : Option Text
  pub default : Option Val

abbrev pub empty_object : LocalObject
empty_object = record { of = None; default = None }

-- `type` is a string, and stands once
abbrev pub with_type : LocalObject → Val → Option LocalObject
with_type s (text t) = cond (is_some s.of) None (Some (record { of = Some t; default = s.default }))
with_type s v = None

-- `defaultValue` stands once
abbrev pub with_default : LocalObject → Val → Option LocalObject
with_default s v = cond (is_some s.default) None (Some (record { of = s.of; default = Some v }))

-- no other name stands in it
abbrev pub with_member : LocalObject → Text → Val → Option LocalObject
with_member s n v = cond (bytes_eq n (codes "type")) (with_type s v) (cond (bytes_eq n (codes "defaultValue")) (with_default s v) None)

abbrev pub and_next : {A B : Type 0} → Option A → (next : A → Option B) → Option B
and_next None next = None
and_next (Some a) next = next a

abbrev pub members_from : LocalObject → Members → Option LocalObject
members_from s no_members = Some s
members_from s (member n v ms) = and_next (with_member s n v) (λ t. members_from t ms)

abbrev pub object_by : Val → Option LocalObject
object_by (object ms) = members_from empty_object ms
object_by v = None

-- ---- local variables

pub record Local : Type 0 where
  pub name : Text
  pub of : Ty
  pub default : Option Val

abbrev pub with_type_text : Text → Option Val → Option Ty → Option Local
with_type_text n d None = None
with_type_text n d (Some t) = Some (record { name = n; of = t; default = d })

abbrev pub of_text : Text → Option Val → Option Text → Option Local
of_text n d None = None
of_text n d (Some t) = with_type_text n d (type_in t)

abbrev pub of_said : Text → Option LocalObject → Option Local
of_said n None = None
of_said n (Some s) = of_text n s.default s.of

-- what the argument of this name and value says, where it says a local variable
abbrev pub local_of : Text → Val → Option Local
local_of n v = of_said n (object_by v)

abbrev pub as_list : {A : Type 0} → Option A → List A
as_list None = []
as_list (Some a) = a ∷ []

-- ---- the local variables of a fragment, in written order

abbrev pub defines_locals : Text → Bool
defines_locals n = bytes_eq n (codes "argumentDefinitions")

abbrev pub local_in_tree : Text × Val → List Local
local_in_tree a = as_list (local_of a.0 a.1)

abbrev pub locals_in_tree : Directive → List Local
locals_in_tree d = cond (defines_locals d.name) (each local_in_tree d.arguments) []

abbrev pub locals_of_tree : List Directive → List Local
locals_of_tree ds = each locals_in_tree ds

-- the same of what stands in documents with places
abbrev pub local_at : ArgumentAt → List Local
local_at x = as_list (local_of x.name.name x.value.of)

abbrev pub locals_at : DirectiveAt → List Local
locals_at d = cond (defines_locals d.name.name) (each local_at d.arguments) []

abbrev pub locals_of : List DirectiveAt → List Local
locals_of ds = each locals_at ds

-- of several local variables of one name the first counts
abbrev pub local_named : List Local → Text → Option Local
local_named [] n = None
local_named (l ∷ ls) n = cond (bytes_eq l.name n) (Some l) (local_named ls n)
