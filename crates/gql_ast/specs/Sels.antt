-- Selection sets (GraphQL, October 2021, section 2.4): a selection stands with those that it holds, and with
-- those that follow it in its set.
use Rattle.std.specs.Prelude.{ℕ, ◌+◌, List, Option, max}
use Rattle.gql_ast.specs.declared.directive.Directive.{Directive}
use Rattle.gql_ast.specs.Value.{Val}

-- a field (2.5, with its alias of 2.7 and its arguments of 2.6), a fragment spread (2.8) or an inline fragment
-- (2.8.2); each with its directives (2.12)
pub data Sels : Type 0 where
  end : Sels
  field : (alias : Option (List ℕ)) (name : List ℕ) (arguments : List (List ℕ × Val)) (directives : List Directive) (subs rest : Sels) → Sels
  spread : (name : List ℕ) (directives : List Directive) (rest : Sels) → Sels
  inline : (on : Option (List ℕ)) (directives : List Directive) (subs rest : Sels) → Sels

-- the first selections, and then the second ones
abbrev pub sels_append : Sels → Sels → Sels
sels_append end t = t
sels_append (field a n xs ds s rest) t = field a n xs ds s (sels_append rest t)
sels_append (spread n ds rest) t = spread n ds (sels_append rest t)
sels_append (inline o ds s rest) t = inline o ds s (sels_append rest t)

-- how many selection sets stand in one another, this one counted: 0 where it is empty
abbrev pub depth : Sels → ℕ
depth end = 0
depth (field a n xs ds s rest) = max (depth s + 1) (depth rest)
depth (spread n ds rest) = max 1 (depth rest)
depth (inline o ds s rest) = max (depth s + 1) (depth rest)

-- how many selections the set has, those inside them not counted
abbrev pub number_of : Sels → ℕ
number_of end = 0
number_of (field a n xs ds s rest) = number_of rest + 1
number_of (spread n ds rest) = number_of rest + 1
number_of (inline o ds s rest) = number_of rest + 1
