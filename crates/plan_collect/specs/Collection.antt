-- Collection along the syntax trees of documents (GraphQL, October 2021, section 6.3.2): what selections ask of an object of a type, in an
-- environment. The whole form enters each spread that applies, and has the fields that are added; the masked form enters those alone that are
-- not masked, and gives a pointer for each other one.
use Rattle.std.specs.Prelude.{ℕ, zero, suc, Bool, true, false, ◌||◌, ◌&&◌, cond, List, [], ◌∷◌, ◌++◌, codes, Option, Some, None, option_map, bytes_eq}
use Rattle.std.specs.List.{filter, list_any}
use Rattle.plan_ir.specs.gql_ast.Sels as sels
use Rattle.plan_ir.specs.gql_ast.Sels.{Sels}
use Rattle.plan_ir.specs.gql_ast.Ty.{Ty}
use Rattle.plan_ir.specs.gql_ast.Value.{Val, truth}
use Rattle.plan_ir.specs.gql_ast.declared.directive.Directive.{Directive}
use Rattle.plan_ir.specs.gql_ast.declared.place.FilePlace.{FilePlace}
use Rattle.plan_ir.specs.gql_graph.Rules.{each}
use Rattle.plan_ir.specs.gql_plain.declared.ids.Conn.{Conn}
use Rattle.plan_ir.specs.Additions.{is_abstract, type_or}
use Rattle.plan_ir.specs.Expansion.{Project, response_key, spreads_in}
use Rattle.plan_ir.specs.Substitution.{Arguments, arguments_in}
use Rattle.plan_collect.specs.Collecting.{applies, environment_inside, is_left_out, with_additions, with_locals}
use Rattle.plan_ir.specs.relay_marks.Connections.{connection_among, value_of_name}
use Rattle.plan_ir.specs.relay_marks.Locals.{locals_of}
use Rattle.plan_ir.specs.schema_tables.Fits.{is_list_type}
use Rattle.plan_ir.specs.schema_tables.Types.{Text, Defs, base_of, has_id, is_composite, possible, root}
use Rattle.plan_ir.specs.schema_types.Environments.{Values, arguments_in_environment}
use Rattle.plan_ir.specs.schema_types.NameRules.{fragment_named}
use Rattle.plan_ir.specs.schema_types.Sites.{DirectiveAt, FragmentAt, OperationAt, field_type}
use Rattle.plan_ir.specs.store_model.Items.{Ask, Below, Collect, Connection, Form, Item, asked, pointed, typename, leaf, one, many}

-- ---- what stands under a field of an object type

abbrev pub below_type : Defs → Text → Below
below_type defs t = record { types = possible defs t; identified = filter (has_id defs) (possible defs t); open_type = is_abstract defs t }

abbrev pub form_of_type : Defs → Ty → Form
form_of_type defs t =
    cond (is_composite defs (base_of t)) (cond (is_list_type t) (many (below_type defs (base_of t))) (one (below_type defs (base_of t)))) leaf

-- the definition of the field on the object type counts
abbrev pub form_on : Defs → (object : Text) → Text → Form
form_on defs T n = cond (bytes_eq n (codes "__typename")) typename (form_of_type defs (type_or (field_type defs (Some T) n)))

abbrev pub connection_asked : Conn → Connection
connection_asked c = record { key = c.key; filters = c.filters }

-- ---- collecting

-- what is collected in: the project, a place for what is added, the operation's own environment, and whether by the whole form
pub record Setting : Type 0 where
  pub project : Project
  pub place : FilePlace
  pub own : Values
  pub whole : Bool

-- selections with the environment that they stand in; so many spreads may still be entered, one in another
pub record Part : Type 0 where
  pub spreads : ℕ
  pub environment : Values
  pub selections : Sels

abbrev pub ask_of : Defs → (object : Text) → Values → (alias : Option Text) → (name : Text) → Arguments → List Directive → Ask
ask_of defs T env a n xs ds = record {
  response = response_key a n;
  name = n;
  arguments = arguments_in_environment env xs;
  connection = option_map connection_asked (connection_among ds);
  form = form_on defs T n;
}

-- `enter` gives what a spread collects
abbrev pub collect_with : (enter : Text → List Directive → List (Item Part)) → Defs → (object : Text) → (spreads : ℕ) → Values → Sels → List (Item Part)
collect_with enter defs T k env sels.end = []
collect_with enter defs T k env (sels.field a n xs ds s rest) =
    cond (is_left_out env ds) [] (asked (record { ask = ask_of defs T env a n xs ds; part = record { spreads = k; environment = env; selections = s } }) ∷ [])
    ++ collect_with enter defs T k env rest
collect_with enter defs T k env (sels.spread n ds rest) = cond (is_left_out env ds) [] (enter n ds) ++ collect_with enter defs T k env rest
collect_with enter defs T k env (sels.inline o ds s rest) =
    cond (is_left_out env ds) [] (cond (applies defs o T) (collect_with enter defs T k env s) []) ++ collect_with enter defs T k env rest

-- ---- spreads

-- the whole form has the fields that are added
abbrev pub selections_of : Setting → (around : Option Text) → Sels → Sels
selections_of w around s = cond w.whole (with_additions w.project.defs w.place around s) s

abbrev pub part_inside : Setting → (spreads : ℕ) → Values → List Directive → FragmentAt → Part
part_inside w k env ds f = record { spreads = k; environment = environment_inside w.own env ds f; selections = selections_of w (Some f.on.name) f.selections }

abbrev pub is_false : Option Val → Bool
is_false (Some (truth false)) = true
is_false v = false

-- `@relay(mask: false)`
abbrev pub is_open : List Directive → Bool
is_open ds = list_any (λ (d : Directive). bytes_eq d.name (codes "relay") && is_false (value_of_name d.arguments (codes "mask"))) ds

-- `@inline` on the fragment
abbrev pub is_inline : FragmentAt → Bool
is_inline f = list_any (λ (d : DirectiveAt). bytes_eq d.name.name (codes "inline")) f.directives

-- the values of the fragment's local variables, in byte order of their names
abbrev pub scope_inside : Setting → Values → List Directive → FragmentAt → Values
scope_inside w env ds f = with_locals [] env (each arguments_in ds) (locals_of f.directives)

abbrev pub pointer_to : Setting → (spreads : ℕ) → Values → List Directive → FragmentAt → Item Part
pointer_to w k env ds f =
    pointed (record { fragment = f.name.name; scope = scope_inside w env ds f; inline = is_inline f; body = part_inside w k env ds f })

abbrev pub spread_items : Setting → (spreads : ℕ) → (inside : Part → List (Item Part)) → Values → List Directive → FragmentAt → List (Item Part)
spread_items w k inside env ds f = cond (w.whole || is_open ds) (inside (part_inside w k env ds f)) (pointer_to w k env ds f ∷ [])

-- a spread gives something where the fragment's type applies
abbrev pub enter_where : (items : FragmentAt → List (Item Part)) → Defs → (object : Text) → Option FragmentAt → List (Item Part)
enter_where items defs T None = []
enter_where items defs T (Some f) = cond (applies defs (Some f.on.name) T) (items f) []

-- the items that selections give on an object type, in order; so many spreads may still be entered, one in another
abbrev pub collect_in : (spreads : ℕ) → Setting → (object : Text) → Values → Sels → List (Item Part)
collect_in zero w T env s = collect_with (λ n ds. []) w.project.defs T zero env s
collect_in (suc k) w T env s =
    collect_with
    (λ n ds. enter_where (spread_items w k (λ p. collect_in k w T p.environment p.selections) env ds) w.project.defs T (fragment_named w.project.fragments n))
    w.project.defs T (suc k) env s

abbrev pub collect : Setting → Collect Part
collect w T p = collect_in p.spreads w T p.environment p.selections

-- ---- operations

-- the operation's selections, in its own environment
abbrev pub part_of : Setting → OperationAt → Part
part_of w o = record { spreads = spreads_in w.project; environment = w.own; selections = selections_of w (root w.project.defs o.kind) o.selections }

-- by the whole form
abbrev pub whole_setting : Project → FilePlace → Values → Setting
whole_setting p place own = record { project = p; place = place; own = own; whole = true }
