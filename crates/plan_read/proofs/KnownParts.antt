-- Selections that are read, with what is known of them: the types that their plan is for, and the nodes that they become where every spread is
-- entered. And what they give on an object type by the masked form.
use Rattle.std.specs.Prelude.{ℕ, zero, suc, ◌+◌, cond, List, [], ◌∷◌, ◌++◌, Option, Some, None, is_some}
use Rattle.plan_ir.specs.gql_ast.Sels as sels
use Rattle.plan_ir.specs.gql_ast.Sels.{Sels}
use Rattle.plan_ir.specs.gql_ast.declared.directive.Directive.{Directive}
use Rattle.plan_build.proofs.Parts as nodes
use Rattle.plan_build.specs.NodesMeaning.{ask_of_node}
use Rattle.plan_build.specs.Steps.{are_within, types_at}
use Rattle.plan_build.specs.Suited.{type_inside}
use Rattle.plan_ir.specs.Additions.{additions, type_or}
use Rattle.plan_ir.specs.Expansion.{Project, expansion, printed_conditions, printed_directives, response_key, selections_from}
use Rattle.plan_ir.specs.Nodes.{Nodes, end, nodes_append}
use Rattle.plan_ir.specs.ReaderMeaning.{ReaderPart, scope_in}
use Rattle.plan_ir.specs.Substitution.{Arguments, Scope, scope_at_spread, substitute_in}
use Rattle.plan_read.specs.Steps.{pointer_arguments, reader_steps}
use Rattle.plan_build.specs.plan_collect.Collecting.{applies, environment_inside, is_left_out}
use Rattle.plan_ir.specs.relay_marks.Connections.{connection_among}
use Rattle.plan_ir.specs.relay_marks.Locals.{locals_of}
use Rattle.plan_build.specs.relay_model.Collection.{Part, form_on, is_inline, is_open}
use Rattle.plan_ir.specs.schema_tables.Types.{Text, Defs, base_of, possible}
use Rattle.plan_ir.specs.schema_trees.Located.{directives_nodes}
use Rattle.plan_ir.specs.schema_types.Environments.{Values}
use Rattle.plan_ir.specs.schema_types.NameRules.{fragment_named}
use Rattle.plan_ir.specs.schema_types.Sites.{FragmentAt, arguments_nodes, below, condition_or, field_type, head_nodes, optional_name_nodes, selections_nodes}
use Rattle.plan_ir.specs.store_model.Items.{Collect, Item, asked, pointed}
use Rattle.plan_ir.specs.store_model.Reaches.{types_of}

-- selections, and what stands in the place of their local variables; the types that their plan is for, and those that the records may be of; the static type around
-- them and the one that is counted on; and what their expansion needs, with the nodes that are added behind it
pub record Known : Type 0 where
  pub part : Part
  pub scope : Scope
  pub types : List Text
  pub met : List Text
  pub around : Text
  pub type : Text
  pub from : ℕ
  pub over : Option Text
  pub added : Nodes

-- ---- seen as nodes, and as a plan

abbrev pub nodes_within : Project → Known → Nodes
nodes_within p x = nodes_append (expansion x.part.spreads p x.scope x.from x.over x.part.selections) x.added

abbrev pub as_nodes : Project → Values → Known → nodes.Part
as_nodes p own x = record { set = record { environment = own; nodes = nodes_within p x }; types = x.types; around = x.around; type = x.type }

abbrev pub as_plan : Project → Values → Known → ReaderPart
as_plan p own x = record { environment = own; steps = reader_steps x.part.spreads p x.scope x.over x.types x.part.selections }

-- ---- what stands inside fragments, and below fields

-- the types that are tested no more inside a fragment
abbrev pub types_inside : Defs → (types : List Text) → (on : Option Text) → List Text
types_inside defs ts None = ts
types_inside defs ts (Some o) = cond (are_within (possible defs o) ts) ts (possible defs o)

abbrev pub known_inside : Project → (own : Values) → (spreads : ℕ) → Scope → Values → (type : Text) → (types : List Text) → List Directive → FragmentAt → Known
known_inside p own k scope env t ts ds f = record {
  part = record { spreads = k; environment = environment_inside own env ds f; selections = f.selections };
  scope = scope_at_spread scope ds f;
  types = types_inside p.defs ts (Some f.on.name);
  met = types_inside p.defs ts (Some f.on.name);
  around = f.on.name;
  type = type_inside p.defs t (Some f.on.name);
  from = selections_from f;
  over = Some f.on.name;
  added = end;
}

abbrev pub known_below : Project → (object : Text) → (spreads : ℕ) → Scope → Values → (from : ℕ) → (over : Option Text) → (alias : Option Text) → (name : Text) → Arguments → List Directive → Sels → Known
known_below p T k scope env from over a n xs ds s = record {
  part = record { spreads = k; environment = env; selections = s };
  scope = scope;
  types = types_at p.defs (base_of (type_or (field_type p.defs over n)));
  met = types_of (form_on p.defs T n);
  around = base_of (type_or (field_type p.defs over n));
  type = base_of (type_or (field_type p.defs over n));
  from = from + head_nodes a + arguments_nodes xs + directives_nodes ds;
  over = below p.defs over n;
  added = additions p.defs (is_some (connection_among ds)) (base_of (type_or (field_type p.defs over n))) s (p.place from);
}

-- ---- gathering

abbrev pub known_field : Project → (own : Values) → (object : Text) → (spreads : ℕ) → Scope → Values → (from : ℕ) → (over : Option Text) → (alias : Option Text) → (name : Text) → Arguments → List Directive → Sels
    → Item Known
known_field p own T k scope env from over a n xs ds s = asked (record {
  ask = ask_of_node p.defs T own (response_key a n) n (substitute_in scope xs) (connection_among ds);
  part = known_below p T k scope env from over a n xs ds s;
})

abbrev pub known_pointer : Project → (own : Values) → (spreads : ℕ) → Scope → Values → (type : Text) → (types : List Text) → List Directive → FragmentAt → Item Known
known_pointer p own k scope env t ts ds f = pointed (record {
  fragment = f.name.name;
  scope = scope_in own (pointer_arguments scope ds (locals_of f.directives));
  inline = is_inline f;
  body = known_inside p own k scope env t ts ds f;
})

abbrev pub known_spread : (inside : Known → List (Item Known)) → Project → (own : Values) → (spreads : ℕ) → Scope → Values → (type : Text) → (types : List Text) → List Directive → FragmentAt → List (Item Known)
known_spread inside p own k scope env t ts ds f = cond (is_open ds) (inside (known_inside p own k scope env t ts ds f)) (known_pointer p own k scope env t ts ds f ∷ [])

abbrev pub where_found : (items : FragmentAt → List (Item Known)) → Defs → (object : Text) → Option FragmentAt → List (Item Known)
where_found items defs T None = []
where_found items defs T (Some f) = cond (applies defs (Some f.on.name) T) (items f) []

-- what a spread gives, by the type counted on and the types around it
abbrev pub Entered : Type 0
Entered = (type : Text) → (types : List Text) → Text → List Directive → List (Item Known)

abbrev pub gather_with : (enter : Entered) → Project → (own : Values) → (object : Text) → (spreads : ℕ) → Scope → Values → (from : ℕ) → (over : Option Text) → (type : Text) → (types : List Text) → Sels → List (Item Known)
gather_with enter p own T k scope env from over t ts sels.end = []
gather_with enter p own T k scope env from over t ts (sels.field a n xs ds s rest) =
    cond (is_left_out own (printed_directives scope ds)) [] (known_field p own T k scope env from over a n xs ds s ∷ [])
    ++ gather_with enter p own T k scope env (from + head_nodes a + arguments_nodes xs + directives_nodes ds + selections_nodes s) over t ts rest
gather_with enter p own T k scope env from over t ts (sels.spread n ds rest) =
    cond (is_left_out own (printed_conditions scope ds)) [] (enter t ts n ds) ++ gather_with enter p own T k scope env (from + 2 + directives_nodes ds) over t ts rest
gather_with enter p own T k scope env from over t ts (sels.inline o ds s rest) =
    cond (is_left_out own (printed_directives scope ds)) []
    (cond (applies p.defs o T)
    (gather_with enter p own T k scope env (from + 1 + optional_name_nodes o + directives_nodes ds) (condition_or over o) (type_inside p.defs t o) (types_inside p.defs ts o) s) [])
    ++ gather_with enter p own T k scope env (from + 1 + optional_name_nodes o + directives_nodes ds + selections_nodes s) over t ts rest

-- no spread may be entered
abbrev pub not_entered : Entered
not_entered t ts n ds = []

abbrev pub gather_in : (spreads : ℕ) → Project → (own : Values) → (object : Text) → Scope → Values → (from : ℕ) → (over : Option Text) → (type : Text) → (types : List Text) → Sels → List (Item Known)
gather_in zero p own T scope env from over t ts s = gather_with not_entered p own T zero scope env from over t ts s
gather_in (suc k) p own T scope env from over t ts s =
    gather_with
    (λ u us n ds. where_found
    (known_spread (λ x. gather_in k p own T x.scope x.part.environment x.from x.over x.type x.types x.part.selections) p own k scope env u us ds)
    p.defs T (fragment_named p.fragments n))
    p own T (suc k) scope env from over t ts s

abbrev pub gather : Project → Values → Collect Known
gather p own T x = gather_in x.part.spreads p own T x.scope x.part.environment x.from x.over x.type x.types x.part.selections

-- what a fragment that is found gives, where so many spreads may be entered inside it
abbrev pub known_at : (spreads : ℕ) → Project → (own : Values) → (object : Text) → Scope → Values → (type : Text) → (types : List Text) → List Directive → Option FragmentAt → List (Item Known)
known_at k p own T scope env t ts ds f =
    where_found
    (known_spread (λ x. gather_in k p own T x.scope x.part.environment x.from x.over x.type x.types x.part.selections) p own k scope env t ts ds)
    p.defs T f
