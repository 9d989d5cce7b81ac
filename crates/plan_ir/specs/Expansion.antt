-- Expansion (this project's own): all spreads of an operation or a fragment are followed, local variables give way to
-- their values, and fields are added.
use Rattle.std.specs.Prelude.{ℕ, zero, suc, ◌+◌, Bool, false, not, ◌||◌, cond, List, [], ◌∷◌, ◌++◌, map, length, codes, Option, Some, None, option_map, is_some, bytes_eq}
use Rattle.std.specs.List.{filter}
use Rattle.store_model.specs.gql_plain.Order.{has_text}
use Rattle.relay_marks.specs.gql_ast.Sels as sels
use Rattle.relay_marks.specs.gql_ast.Sels.{Sels}
use Rattle.relay_marks.specs.gql_ast.Value.{Val}
use Rattle.relay_marks.specs.gql_ast.declared.directive.Directive.{Directive}
use Rattle.relay_marks.specs.gql_ast.declared.place.FilePlace.{FilePlace}
use Rattle.relay_marks.specs.gql_ast.declared.variable.VariableDef.{VariableDef}
use Rattle.plan_ir.specs.Additions.{additions, type_or}
use Rattle.plan_ir.specs.Nodes.{Nodes, end, field, inline, nodes_append}
use Rattle.plan_ir.specs.Substitution.{Arguments, Scope, substitute_in, operation_scope, arguments_at_spread, scope_at_spread, scope_of_own}
use Rattle.plan_ir.specs.declared.expanded.Expanded.{Expanded}
use Rattle.plan_ir.specs.declared.form.Form.{Form}
use Rattle.plan_ir.specs.declared.form.Form.TheVariants as F
use Rattle.relay_marks.specs.Connections.{connection_among}
use Rattle.relay_marks.specs.schema_trees.Located.{Located, directives_nodes}
use Rattle.relay_marks.specs.schema_types.NameRules.{fragment_named, fragments, operations}
use Rattle.relay_marks.specs.schema_types.Sites.{ArgumentAt, DirectiveAt, VariableAt, OperationAt, FragmentAt, DefinitionAt, field_type, condition_or, below, head_nodes, arguments_nodes, selections_nodes, optional_name_nodes, variables_nodes}
use Rattle.relay_marks.specs.schema_tables.Types.{Text, Defs, base_of, root}

-- ---- directives that are printed

-- the directives that are not printed: those after Relay
abbrev pub after_relay : List Text
after_relay = codes "connection" ∷ codes "arguments" ∷ codes "relay" ∷ codes "argumentDefinitions" ∷ codes "inline" ∷ []

abbrev pub is_printed : Text → Bool
is_printed n = not (has_text after_relay n)

abbrev pub is_condition : Text → Bool
is_condition n = bytes_eq n (codes "skip") || bytes_eq n (codes "include")

abbrev pub directives_such : (Text → Bool) → Scope → List Directive → List Directive
directives_such shows scope ds =
    map (λ (d : Directive). record { name = d.name; arguments = substitute_in scope d.arguments }) (filter (λ (d : Directive). shows d.name) ds)

-- of a field or an inline fragment
abbrev pub printed_directives : Scope → List Directive → List Directive
printed_directives scope ds = directives_such is_printed scope ds

-- of a spread
abbrev pub printed_conditions : Scope → List Directive → List Directive
printed_conditions scope ds = directives_such is_condition scope ds

-- ---- the walk

-- what expansion asks of a project: the schema, the fragments, and the place of a node by its number
pub record Project : Type 0 where
  pub defs : Defs
  pub fragments : List FragmentAt
  pub place : ℕ → FilePlace

abbrev pub response_key : (alias : Option Text) → Text → Text
response_key None n = n
response_key (Some a) n = a

-- the selections of a set whose first node has this number; `enter` gives what a spread becomes, in front of what follows it
abbrev pub expansion_with : (enter : (from : ℕ) → Text → List Directive → Nodes → Nodes) → Project → Scope → (from : ℕ) → (around : Option Text) → Sels → Nodes
expansion_with enter p scope from around sels.end = end
expansion_with enter p scope from around (sels.field a n xs ds s rest) =
    field (response_key a n) n (substitute_in scope xs) (printed_directives scope ds) (connection_among ds) (type_or (field_type p.defs around n))
    (nodes_append (expansion_with enter p scope (from + head_nodes a + arguments_nodes xs + directives_nodes ds) (below p.defs around n) s)
    (additions p.defs (is_some (connection_among ds)) (base_of (type_or (field_type p.defs around n))) s (p.place from))) (p.place from)
    (expansion_with enter p scope (from + head_nodes a + arguments_nodes xs + directives_nodes ds + selections_nodes s) around rest)
expansion_with enter p scope from around (sels.spread n ds rest) =
    enter from n ds (expansion_with enter p scope (from + 2 + directives_nodes ds) around rest)
expansion_with enter p scope from around (sels.inline o ds s rest) =
    inline o (printed_directives scope ds)
    (expansion_with enter p scope (from + 1 + optional_name_nodes o + directives_nodes ds) (condition_or around o) s) (p.place from)
    (expansion_with enter p scope (from + 1 + optional_name_nodes o + directives_nodes ds + selections_nodes s) around rest)

abbrev pub argument_pairs : List ArgumentAt → Arguments
argument_pairs xs = map (λ (x : ArgumentAt). (x.name.name, x.value.of)) xs

abbrev pub directive_tree : DirectiveAt → Directive
directive_tree d = record { name = d.name.name; arguments = argument_pairs d.arguments }

abbrev pub directive_trees : List DirectiveAt → List Directive
directive_trees ds = map directive_tree ds

-- the number of the first node of a fragment's selections
abbrev pub selections_from : FragmentAt → ℕ
selections_from f = f.on.at + 1 + directives_nodes (directive_trees f.directives)

-- a spread becomes an inline fragment with the type of its fragment
abbrev pub enter_with : (inside : FragmentAt → Nodes) → Project → Scope → (from : ℕ) → Option FragmentAt → List Directive → Nodes → Nodes
enter_with inside p scope from None ds rest = rest
enter_with inside p scope from (Some f) ds rest = inline (Some f.on.name) (printed_conditions scope ds) (inside f) (p.place from) rest

-- so many spreads may still be entered, one in another
abbrev pub expansion : (spreads : ℕ) → Project → Scope → (from : ℕ) → (around : Option Text) → Sels → Nodes
expansion zero p scope from around s = expansion_with (λ at n ds rest. rest) p scope from around s
expansion (suc k) p scope from around s =
    expansion_with
    (λ at n ds rest. enter_with (λ f. expansion k p (scope_at_spread scope ds f) (selections_from f) (Some f.on.name) f.selections) p scope at (fragment_named p.fragments n) ds rest)
    p scope from around s

-- ---- the values that `@arguments` gives, all through

abbrev pub gifts_with : (enter : Text → List Directive → List Val) → Sels → List Val
gifts_with enter sels.end = []
gifts_with enter (sels.field a n xs ds s rest) = gifts_with enter s ++ gifts_with enter rest
gifts_with enter (sels.spread n ds rest) = enter n ds ++ gifts_with enter rest
gifts_with enter (sels.inline o ds s rest) = gifts_with enter s ++ gifts_with enter rest

abbrev pub gifts_inside : (inside : FragmentAt → List Val) → Scope → Option FragmentAt → List Directive → List Val
gifts_inside inside scope None ds = []
gifts_inside inside scope (Some f) ds = map (λ (x : Text × Val). x.1) (arguments_at_spread scope ds) ++ inside f

-- so many spreads may still be entered, one in another
abbrev pub gifts : (spreads : ℕ) → Project → Scope → Sels → List Val
gifts zero p scope s = []
gifts (suc k) p scope s =
    gifts_with (λ n ds. gifts_inside (λ f. gifts k p (scope_at_spread scope ds f) f.selections) scope (fragment_named p.fragments n) ds) s

-- ---- an operation, or a fragment by itself

-- what is expanded, and the values that spreads give in it
pub record Whole : Type 0 where
  pub expanded : Expanded
  pub gifts : List Val

-- a chain of spreads without repetition has no more spreads than there are fragments
abbrev pub spreads_in : Project → ℕ
spreads_in p = length p.fragments

abbrev pub name_or : Option Text → Text
name_or None = []
name_or (Some n) = n

abbrev pub name_of_located_or : Option Located → Text
name_of_located_or n = name_or (option_map (λ (l : Located). l.name) n)

abbrev pub variable_trees : List VariableAt → List VariableDef
variable_trees vs = map (λ (v : VariableAt). v.defined) vs

-- the number of the first node of an operation's selections
abbrev pub operation_from : OperationAt → ℕ
operation_from o =
    o.first + 2 + optional_name_nodes (option_map (λ (l : Located). l.name) o.name) + variables_nodes (variable_trees o.variables)
    + directives_nodes (directive_trees o.directives)

abbrev pub whole_operation : Project → OperationAt → Whole
whole_operation p o = record {
  expanded = record {
    kind = Some o.kind;
    name = name_of_located_or o.name;
    root = name_or (root p.defs o.kind);
    variables = variable_trees o.variables;
    directives = printed_directives operation_scope (directive_trees o.directives);
    selections = expansion (spreads_in p) p operation_scope (operation_from o) (root p.defs o.kind) o.selections;
  };
  gifts = gifts (spreads_in p) p operation_scope o.selections;
}

abbrev pub whole_fragment : Project → FragmentAt → Whole
whole_fragment p f = record {
  expanded = record {
    kind = None;
    name = f.name.name;
    root = f.on.name;
    variables = [];
    directives = [];
    selections = expansion (spreads_in p) p (scope_of_own f) (selections_from f) (Some f.on.name) f.selections;
  };
  gifts = gifts (spreads_in p) p (scope_of_own f) f.selections;
}

abbrev pub is_named : Text → Option Located → Bool
is_named n None = false
is_named n (Some l) = bytes_eq l.name n

abbrev pub operation_named : List OperationAt → Text → Option OperationAt
operation_named [] n = None
operation_named (o ∷ os) n = cond (is_named n o.name) (Some o) (operation_named os n)

abbrev pub project_of : Defs → (ℕ → FilePlace) → List DefinitionAt → Project
project_of defs place ds = record { defs = defs; fragments = fragments ds; place = place }

-- the operation or the fragment of that name
abbrev pub whole : Project → List DefinitionAt → Form → Text → Option Whole
whole p ds F.Operation n = option_map (whole_operation p) (operation_named (operations ds) n)
whole p ds F.Fragment n = option_map (whole_fragment p) (fragment_named p.fragments n)
