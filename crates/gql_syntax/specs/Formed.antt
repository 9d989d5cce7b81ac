-- Which trees are texts of the grammar: what the forms of the trees leave open.
use Rattle.std.specs.Prelude.{◌≡◌, ℕ, Bool, false, List, Option, Some, None}
use Rattle.std.specs.List.{AllByRecursion}
use Rattle.gql_ast.specs.Value.{Val, Vals, Members, variable, int, text, truth, null, enum, list, object, no_vals, val, no_members, member, members_of}
use Rattle.gql_ast.specs.ValueView.{value_of}
use Rattle.gql_ast.specs.Ty.{Ty, named, non_null}
use Rattle.gql_ast.specs.Ty as ty
use Rattle.gql_ast.specs.declared.directive.Directive.{Directive}
use Rattle.gql_ast.specs.declared.value.ValueTree.{ValueTree}
use Rattle.gql_syntax.specs.Words.{IsName, IsInt, IsEnumName}

-- names are Names, an Int lies within 64 bits, no variable stands in a constant, and the name of an enum value is none of
-- three words
abbrev mutual
  pub FormedValue : (constant : Bool) → Val → Type 0
  FormedValue c (variable n) = (c ≡ false) × IsName n
  FormedValue c (int n) = IsInt n
  FormedValue c (text t) = Unit {0}
  FormedValue c (truth b) = Unit {0}
  FormedValue c null = Unit {0}
  FormedValue c (enum n) = IsName n × IsEnumName n
  FormedValue c (list vs) = FormedValues c vs
  FormedValue c (object ms) = FormedMembers c ms

  pub FormedValues : (constant : Bool) → Vals → Type 0
  FormedValues c no_vals = Unit {0}
  FormedValues c (val v vs) = FormedValue c v × FormedValues c vs

  pub FormedMembers : (constant : Bool) → Members → Type 0
  FormedMembers c no_members = Unit {0}
  FormedMembers c (member n v ms) = IsName n × FormedValue c v × FormedMembers c ms

abbrev pub FormedArguments : (constant : Bool) → List (List ℕ × Val) → Type 0
FormedArguments c given = FormedMembers c (members_of given)

abbrev pub FormedDirective : (constant : Bool) → Directive → Type 0
FormedDirective c d = IsName d.name × FormedArguments c d.arguments

abbrev pub FormedDirectives : (constant : Bool) → List Directive → Type 0
FormedDirectives c ds = AllByRecursion (FormedDirective c) ds

abbrev pub FormedDefault : Option ValueTree → Type 0
FormedDefault None = Unit {0}
FormedDefault (Some v) = FormedValue Bool.true (value_of v)

-- `!` does not follow `!`
abbrev pub MayBeNull : Ty → Type 0
MayBeNull (named n) = Unit {0}
MayBeNull (ty.list t) = Unit {0}
MayBeNull (non_null t) = ⊥

abbrev pub FormedType : Ty → Type 0
FormedType (named n) = IsName n
FormedType (ty.list t) = FormedType t
FormedType (non_null t) = MayBeNull t × FormedType t
