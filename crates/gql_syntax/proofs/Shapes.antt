-- The shapes of the trees that a machine puts together, whatever the names and numbers in its tokens are. Tokens of a text have
-- the forms of their kinds, and a tree of this shape that is written with such tokens is formed (`Forms`).
use Rattle.std.specs.Prelude.{◌≡◌, ℕ, Bool, false, List, Option, Some, None}
use Rattle.std.specs.List.{AllByRecursion}
use Rattle.gql_ast.specs.Value.{Val, Vals, Members, variable, int, text, truth, null, enum, list, object, no_vals, val, no_members, member, members_of}
use Rattle.gql_ast.specs.ValueView.{value_of}
use Rattle.gql_ast.specs.Ty.{Ty, named, non_null}
use Rattle.gql_ast.specs.Ty as ty
use Rattle.gql_ast.specs.declared.directive.Directive.{Directive}
use Rattle.gql_ast.specs.declared.value.ValueTree.{ValueTree}
use Rattle.gql_syntax.specs.Formed.{MayBeNull}
use Rattle.gql_syntax.specs.Words.{IsEnumName}

-- no variable stands in a constant, and the name of an enum value is none of three words
abbrev mutual
  pub ShapedValue : (constant : Bool) → Val → Type 0
  ShapedValue c (variable n) = c ≡ false
  ShapedValue c (int n) = Unit {0}
  ShapedValue c (text t) = Unit {0}
  ShapedValue c (truth b) = Unit {0}
  ShapedValue c null = Unit {0}
  ShapedValue c (enum n) = IsEnumName n
  ShapedValue c (list vs) = ShapedValues c vs
  ShapedValue c (object ms) = ShapedMembers c ms

  pub ShapedValues : (constant : Bool) → Vals → Type 0
  ShapedValues c no_vals = Unit {0}
  ShapedValues c (val v vs) = ShapedValue c v × ShapedValues c vs

  pub ShapedMembers : (constant : Bool) → Members → Type 0
  ShapedMembers c no_members = Unit {0}
  ShapedMembers c (member n v ms) = ShapedValue c v × ShapedMembers c ms

abbrev pub ShapedArguments : (constant : Bool) → List (List ℕ × Val) → Type 0
ShapedArguments c given = ShapedMembers c (members_of given)

abbrev pub ShapedDirective : (constant : Bool) → Directive → Type 0
ShapedDirective c d = ShapedArguments c d.arguments

abbrev pub ShapedDirectives : (constant : Bool) → List Directive → Type 0
ShapedDirectives c ds = AllByRecursion (ShapedDirective c) ds

abbrev pub ShapedDefault : Option ValueTree → Type 0
ShapedDefault None = Unit {0}
ShapedDefault (Some v) = ShapedValue Bool.true (value_of v)

abbrev pub ShapedType : Ty → Type 0
ShapedType (named n) = Unit {0}
ShapedType (ty.list t) = ShapedType t
ShapedType (non_null t) = MayBeNull t × ShapedType t
