-- Expanded selection sets (this project's own): a node stands with those that it holds, and with those that follow
-- it in its set. No spread is left.
use Rattle.std.specs.Prelude.{ℕ, ◌+◌, List, Option, max}
use Rattle.relay_marks.specs.gql_ast.Ty.{Ty}
use Rattle.relay_marks.specs.gql_ast.Value.{Val}
use Rattle.relay_marks.specs.gql_ast.declared.directive.Directive.{Directive}
use Rattle.relay_marks.specs.gql_ast.declared.place.FilePlace.{FilePlace}
use Rattle.store_model.specs.gql_plain.declared.ids.Conn.{Conn}

-- a field with its response key and its type, or an inline fragment; each with the directives that are printed, and
-- with a place
pub data Nodes : Type 0 where
  end : Nodes
  field : (response name : List ℕ) (arguments : List (List ℕ × Val)) (directives : List Directive) (connection : Option Conn) (of : Ty) (subs : Nodes) (place : FilePlace) (rest : Nodes) → Nodes
  inline : (on : Option (List ℕ)) (directives : List Directive) (subs : Nodes) (place : FilePlace) (rest : Nodes) → Nodes

-- the first nodes, and then the second ones
abbrev pub nodes_append : Nodes → Nodes → Nodes
nodes_append end t = t
nodes_append (field r n xs ds c of s p rest) t = field r n xs ds c of s p (nodes_append rest t)
nodes_append (inline o ds s p rest) t = inline o ds s p (nodes_append rest t)

-- how many selection sets stand in one another, this one counted: 0 where it is empty
abbrev pub set_depth : Nodes → ℕ
set_depth end = 0
set_depth (field r n xs ds c of s p rest) = max (set_depth s + 1) (set_depth rest)
set_depth (inline o ds s p rest) = max (set_depth s + 1) (set_depth rest)

-- how many nodes the set has, those inside them not counted
abbrev pub number_of : Nodes → ℕ
number_of end = 0
number_of (field r n xs ds c of s p rest) = number_of rest + 1
number_of (inline o ds s p rest) = number_of rest + 1
