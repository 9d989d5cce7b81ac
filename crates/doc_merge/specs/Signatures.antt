-- The name and the arguments of a field (GraphQL, October 2021, section 5.3.2, FieldsInSetCanMerge).
use Rattle.std.specs.Prelude.{Bool, true, false, ◌&&◌, List, bytes_eq}
use Rattle.std.specs.Bool.{beq}
use Rattle.std.specs.List.{list_any, list_all}
use Rattle.std.specs.Ordering.{int_eq}
use Rattle.plan_ir.specs.gql_ast.Value.{Val, Vals, Members, variable, int, text, truth, null, enum, list, object, no_vals, val, no_members, member}
use Rattle.plan_ir.specs.schema_tables.Types.{Text}

-- values are compared as they are written, a variable by its name
abbrev mutual
  pub same_value : Val → Val → Bool
  same_value (variable m) (variable n) = bytes_eq m n
  same_value (int m) (int n) = int_eq m n
  same_value (text s) (text t) = bytes_eq s t
  same_value (truth a) (truth b) = beq a b
  same_value null null = true
  same_value (enum m) (enum n) = bytes_eq m n
  same_value (list vs) (list ws) = same_values vs ws
  same_value (object ms) (object ns) = same_members ms ns
  same_value v w = false

  pub same_values : Vals → Vals → Bool
  same_values no_vals no_vals = true
  same_values (val v vs) (val w ws) = same_value v w && same_values vs ws
  same_values vs ws = false

  pub same_members : Members → Members → Bool
  same_members no_members no_members = true
  same_members (member m v ms) (member n w ns) = bytes_eq m n && (same_value v w && same_members ms ns)
  same_members ms ns = false

abbrev pub Argument : Type 0
Argument = Text × Val

abbrev pub same_argument : Argument → Argument → Bool
same_argument x y = bytes_eq x.0 y.0 && same_value x.1 y.1

abbrev pub are_within : List Argument → List Argument → Bool
are_within xs ys = list_all (λ (x : Argument). list_any (same_argument x) ys) xs

-- the same set, in any order
abbrev pub same_arguments : List Argument → List Argument → Bool
same_arguments xs ys = are_within xs ys && are_within ys xs

pub record Signature : Type 0 where
  pub name : Text
  pub arguments : List Argument

abbrev pub same_signature : Signature → Signature → Bool
same_signature a b = bytes_eq a.name b.name && same_arguments a.arguments b.arguments
