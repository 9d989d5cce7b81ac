-- Parts that the masked and the whole form of collection see at once: the selections as they are written, and those that are added, which the
-- whole form alone has.
use Rattle.std.proofs.Common.{ℕ, zero, suc, ◌||◌, cond, List, [], ◌∷◌, ◌++◌, map, Option, Some, None}
use Rattle.plan_ir.specs.gql_ast.Sels as sels
use Rattle.plan_ir.specs.gql_ast.Sels.{Sels, sels_append}
use Rattle.plan_ir.specs.gql_ast.declared.directive.Directive.{Directive}
use Rattle.plan_ir.specs.Expansion.{Project}
use Rattle.relay_machine.specs.plan_collect.Collecting.{applies, environment_inside, field_additions, is_left_out, with_additions}
use Rattle.relay_machine.specs.relay_model.Collection.{Part, Setting, ask_of, collect_in, is_inline, is_open, scope_inside}
use Rattle.relay_machine.specs.relay_model.Readings.{masked_setting, no_place}
use Rattle.relay_machine.specs.relay_model.Responses.{whole_setting}
use Rattle.plan_ir.specs.schema_tables.Types.{Text, Defs}
use Rattle.plan_ir.specs.schema_types.Environments.{Values}
use Rattle.plan_ir.specs.schema_types.NameRules.{fragment_named}
use Rattle.plan_ir.specs.schema_types.Sites.{FragmentAt, below, condition_or}
use Rattle.plan_ir.specs.store_model.Items.{Collect, Item, Pointer, asked, pointed}

-- selections with the type around them, and what is added behind them, in an environment; so many spreads may still be entered, one in another
pub record Both : Type 0 where
  pub spreads : ℕ
  pub environment : Values
  pub around : Option Text
  pub source : Sels
  pub extra : Sels

-- what the whole form sees
abbrev pub as_part : Defs → Both → Part
as_part defs x = record { spreads = x.spreads; environment = x.environment; selections = sels_append (with_additions defs no_place x.around x.source) x.extra }

abbrev pub Entered : Type 0
Entered = Text → List Directive → List (Item Both)

abbrev pub below_field : Defs → (spreads : ℕ) → Values → (around : Option Text) → (name : Text) → List Directive → Sels → Both
below_field defs k env around n ds s = record {
  spreads = k;
  environment = env;
  around = below defs around n;
  source = s;
  extra = field_additions defs around n ds s no_place;
}

-- `enter` gives what a spread collects
abbrev pub gather_with : Entered → Defs → (object : Text) → (spreads : ℕ) → Values → (around : Option Text) → Sels → List (Item Both)
gather_with enter defs T k env around sels.end = []
gather_with enter defs T k env around (sels.field a n xs ds s rest) =
    cond (is_left_out env ds) [] (asked (record { ask = ask_of defs T env a n xs ds; part = below_field defs k env around n ds s }) ∷ [])
    ++ gather_with enter defs T k env around rest
gather_with enter defs T k env around (sels.spread n ds rest) = cond (is_left_out env ds) [] (enter n ds) ++ gather_with enter defs T k env around rest
gather_with enter defs T k env around (sels.inline o ds s rest) =
    cond (is_left_out env ds) [] (cond (applies defs o T) (gather_with enter defs T k env (condition_or around o) s) []) ++ gather_with enter defs T k env around rest

abbrev pub both_inside : (own : Values) → (spreads : ℕ) → Values → List Directive → FragmentAt → Both
both_inside own k env ds f = record { spreads = k; environment = environment_inside own env ds f; around = Some f.on.name; source = f.selections; extra = sels.end }

abbrev pub both_pointer : Setting → (spreads : ℕ) → Values → List Directive → FragmentAt → Pointer Both
both_pointer w k env ds f = record { fragment = f.name.name; scope = scope_inside w env ds f; inline = is_inline f; body = both_inside w.own k env ds f }

abbrev pub both_spread : Setting → (spreads : ℕ) → (inside : Both → List (Item Both)) → Values → List Directive → FragmentAt → List (Item Both)
both_spread w k inside env ds f = cond (w.whole || is_open ds) (inside (both_inside w.own k env ds f)) (pointed (both_pointer w k env ds f) ∷ [])

abbrev pub both_where : (items : FragmentAt → List (Item Both)) → Defs → (object : Text) → Option FragmentAt → List (Item Both)
both_where items defs T None = []
both_where items defs T (Some f) = cond (applies defs (Some f.on.name) T) (items f) []

abbrev pub gather_in : (spreads : ℕ) → Setting → (object : Text) → Values → (around : Option Text) → Sels → List (Item Both)
gather_in zero w T env around s = gather_with (λ n ds. []) w.project.defs T zero env around s
gather_in (suc k) w T env around s =
    gather_with
    (λ n ds. both_where (both_spread w k (λ x. gather_in k w T x.environment x.around x.source) env ds) w.project.defs T (fragment_named w.project.fragments n))
    w.project.defs T (suc k) env around s

-- what a spread gives, where it may be one of so many
abbrev pub at_spread : (spreads : ℕ) → Setting → (object : Text) → Values → Entered
at_spread zero w T env n ds = []
at_spread (suc k) w T env n ds =
    both_where (both_spread w k (λ x. gather_in k w T x.environment x.around x.source) env ds) w.project.defs T (fragment_named w.project.fragments n)

-- ---- what is added

abbrev pub lifted : Part → Both
lifted f = record { spreads = f.spreads; environment = f.environment; around = None; source = sels.end; extra = f.selections }

abbrev pub lifted_item : Item Part → Item Both
lifted_item (asked a) = asked (record { ask = a.ask; part = lifted a.part })
lifted_item (pointed p) = pointed (record { fragment = p.fragment; scope = p.scope; inline = p.inline; body = lifted p.body })

-- ---- the two forms

abbrev pub gather_masked : Project → (own : Values) → Collect Both
gather_masked p own T x = gather_in x.spreads (masked_setting p own) T x.environment x.around x.source

abbrev pub gather_added : Project → (own : Values) → Collect Both
gather_added p own T x = map lifted_item (collect_in x.spreads (whole_setting p no_place own) T x.environment x.extra)

abbrev pub gather_whole : Project → (own : Values) → Collect Both
gather_whole p own T x = gather_in x.spreads (whole_setting p no_place own) T x.environment x.around x.source ++ gather_added p own T x
