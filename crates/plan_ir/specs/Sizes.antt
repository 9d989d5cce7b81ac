-- How large an expanded operation or fragment is, and the two limits (this project's own).
use Rattle.std.specs.Prelude.{ℕ, ◌+◌, Bool, ◌||◌, List, [], ◌∷◌, max, nat_le}
use Rattle.relay_marks.specs.gql_ast.Value.{Val, Vals, Members, list, object, no_vals, val, no_members, member, val_depth}
use Rattle.relay_marks.specs.gql_ast.declared.directive.Directive.{Directive}
use Rattle.plan_ir.specs.Expansion.{Whole}
use Rattle.plan_ir.specs.Nodes.{Nodes, end, field, inline, set_depth}
use Rattle.plan_ir.specs.Substitution.{Arguments}

-- ---- nodes

-- a value, and each value inside it
abbrev mutual
  pub val_count : Val → ℕ
  val_count (list vs) = 1 + vals_count vs
  val_count (object ms) = 1 + members_count ms
  val_count v = 1

  pub vals_count : Vals → ℕ
  vals_count no_vals = 0
  vals_count (val v vs) = val_count v + vals_count vs

  pub members_count : Members → ℕ
  members_count no_members = 0
  members_count (member n v ms) = val_count v + members_count ms

abbrev pub all_count : List Val → ℕ
all_count [] = 0
all_count (v ∷ vs) = val_count v + all_count vs

abbrev pub arguments_count : Arguments → ℕ
arguments_count [] = 0
arguments_count (x ∷ xs) = val_count x.1 + arguments_count xs

abbrev pub directives_count : List Directive → ℕ
directives_count [] = 0
directives_count (d ∷ ds) = arguments_count d.arguments + directives_count ds

-- each field and each inline fragment, with the values of its arguments and of its printed directives
abbrev pub nodes_count : Nodes → ℕ
nodes_count end = 0
nodes_count (field r n xs ds c of s p rest) = 1 + arguments_count xs + directives_count ds + nodes_count s + nodes_count rest
nodes_count (inline o ds s p rest) = 1 + directives_count ds + nodes_count s + nodes_count rest

abbrev pub count : Whole → ℕ
count w = directives_count w.expanded.directives + nodes_count w.expanded.selections + all_count w.gifts

-- ---- depths

abbrev pub all_depth : List Val → ℕ
all_depth [] = 0
all_depth (v ∷ vs) = max (val_depth v) (all_depth vs)

abbrev pub arguments_depth : Arguments → ℕ
arguments_depth [] = 0
arguments_depth (x ∷ xs) = max (val_depth x.1) (arguments_depth xs)

abbrev pub directives_depth : List Directive → ℕ
directives_depth [] = 0
directives_depth (d ∷ ds) = max (arguments_depth d.arguments) (directives_depth ds)

-- how many lists and objects stand in one another
abbrev pub nodes_value_depth : Nodes → ℕ
nodes_value_depth end = 0
nodes_value_depth (field r n xs ds c of s p rest) =
    max (arguments_depth xs) (max (directives_depth ds) (max (nodes_value_depth s) (nodes_value_depth rest)))
nodes_value_depth (inline o ds s p rest) = max (directives_depth ds) (max (nodes_value_depth s) (nodes_value_depth rest))

abbrev pub value_depth : Whole → ℕ
value_depth w = max (directives_depth w.expanded.directives) (max (nodes_value_depth w.expanded.selections) (all_depth w.gifts))

-- ---- the limits

-- E1: at most 100,000 nodes
abbrev pub has_too_many_nodes : Whole → Bool
has_too_many_nodes w = nat_le 100001 (count w)

-- E2: selection sets nest at most 60 deep, and so do values; the operation's own set has depth 1
abbrev pub is_too_deep : Whole → Bool
is_too_deep w = nat_le 61 (set_depth w.expanded.selections) || nat_le 61 (value_depth w)
