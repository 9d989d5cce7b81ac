-- Expansion as the code goes: with the place of each selection by its number in text order, and the fragments by their names.
use Rattle.std.specs.Prelude.{ℕ, zero, suc, ◌+◌, List, Option, Some, None, get_or, is_some}
use Rattle.plan_ir.specs.gql_ast.Sels as sels
use Rattle.plan_ir.specs.gql_ast.Sels.{Sels}
use Rattle.plan_ir.specs.gql_ast.Value.{Val}
use Rattle.plan_ir.specs.gql_ast.declared.directive.Directive.{Directive}
use Rattle.plan_ir.specs.gql_ast.declared.place.FilePlace.{FilePlace}
use Rattle.plan_ir.specs.Additions.{additions, type_or}
use Rattle.plan_ir.specs.Expansion.{response_key, printed_directives, printed_conditions}
use Rattle.plan_ir.specs.Nodes.{Nodes, end, field, inline, nodes_append}
use Rattle.plan_ir.specs.Substitution.{Scope, substitute_in, arguments_at_spread, value_of_local}
use Rattle.plan_ir.specs.schema_tables.Types.{Text, Defs, base_of}
use Rattle.plan_ir.specs.schema_types.Sites.{field_type, below, condition_or}
use Rattle.plan_ir.specs.relay_marks.Connections.{connection_among}
use Rattle.plan_ir.specs.Projects.{Places, first_place}

-- a fragment, ready to be spread
pub record Ready : Type 0 where
  pub on : Text
  pub selections : Sels
  -- the default of the local variable of a name
  pub locals : Text → Option (Option Val)
  pub places : Places

abbrev pub Find : Type 0
Find = Text → Option Ready

-- how many selections a set has, with those inside them
abbrev pub selections_count : Sels → ℕ
selections_count sels.end = 0
selections_count (sels.field a n xs ds s rest) = 1 + selections_count s + selections_count rest
selections_count (sels.spread n ds rest) = 1 + selections_count rest
selections_count (sels.inline o ds s rest) = 1 + selections_count s + selections_count rest

-- what a spread becomes, in front of what follows it
abbrev pub Enter : Type 0
Enter = Scope → FilePlace → Text → List Directive → Nodes → Nodes

abbrev pub making_with : Enter → Defs → Scope → Places → (at : ℕ) → (around : Option Text) → Sels → Nodes
making_with enter defs scope places at around sels.end = end
making_with enter defs scope places at around (sels.field a n xs ds s rest) =
    field (response_key a n) n (substitute_in scope xs) (printed_directives scope ds) (connection_among ds) (type_or (field_type defs around n))
    (nodes_append (making_with enter defs scope places (at + 1) (below defs around n) s)
    (additions defs (is_some (connection_among ds)) (base_of (type_or (field_type defs around n))) s (get_or places at first_place)))
    (get_or places at first_place)
    (making_with enter defs scope places (at + (1 + selections_count s)) around rest)
making_with enter defs scope places at around (sels.spread n ds rest) =
    enter scope (get_or places at first_place) n ds (making_with enter defs scope places (at + 1) around rest)
making_with enter defs scope places at around (sels.inline o ds s rest) =
    inline o (printed_directives scope ds) (making_with enter defs scope places (at + 1) (condition_or around o) s) (get_or places at first_place)
    (making_with enter defs scope places (at + (1 + selections_count s)) around rest)

abbrev pub ready_scope : Scope → List Directive → Ready → Scope
ready_scope scope ds r n = value_of_local (arguments_at_spread scope ds) n (r.locals n)

abbrev pub enter_ready : Enter → Defs → Scope → FilePlace → Option Ready → List Directive → Nodes → Nodes
enter_ready enter defs scope h None ds rest = rest
enter_ready enter defs scope h (Some r) ds rest =
    inline (Some r.on) (printed_conditions scope ds) (making_with enter defs (ready_scope scope ds r) r.places 0 (Some r.on) r.selections) h rest

-- so many spreads may still be entered, one in another
abbrev pub entering : (spreads : ℕ) → Defs → Find → Enter
entering zero defs find scope h n ds rest = rest
entering (suc k) defs find scope h n ds rest = enter_ready (entering k defs find) defs scope h (find n) ds rest

abbrev pub making : (spreads : ℕ) → Defs → Find → Scope → Places → (at : ℕ) → (around : Option Text) → Sels → Nodes
making k defs find = making_with (entering k defs find) defs

-- the inline fragment that a spread becomes, where so many spreads may be entered in it
abbrev pub spread_node : (spreads : ℕ) → Defs → Find → Scope → FilePlace → Ready → List Directive → Nodes
spread_node k defs find scope place r ds =
    inline (Some r.on) (printed_conditions scope ds) (making k defs find (ready_scope scope ds r) r.places 0 (Some r.on) r.selections) place end
