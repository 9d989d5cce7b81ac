-- Which steps come of selections as the code goes: with the fragments by their names.
use Rattle.std.specs.Prelude.{◌≡◌, ℕ, zero, suc, Bool, cond, List, codes, Option, Some, None, option_map, bytes_eq}
use Rattle.std.specs.List.{list_any}
use Rattle.plan_ir.specs.gql_ast.Sels.{Sels}
use Rattle.plan_ir.specs.gql_ast.Value.{Val}
use Rattle.plan_ir.specs.gql_ast.declared.directive.Directive.{Directive}
use Rattle.plan_build.specs.Conditions.{conditions_of}
use Rattle.plan_ir.specs.Expansion.{printed_conditions}
use Rattle.plan_ir.specs.Reader.{Reader, done}
use Rattle.plan_ir.specs.Substitution.{Scope, arguments_at_spread, default_named, value_of_local}
use Rattle.plan_read.specs.Steps.{inline_steps, pointer_arguments, pointer_step, steps_with}
use Rattle.plan_ir.specs.relay_marks.Locals.{Local, locals_of}
use Rattle.plan_build.specs.relay_model.Collection.{is_open}
use Rattle.plan_ir.specs.schema_tables.Types.{Text, Defs}
use Rattle.plan_ir.specs.schema_types.NameRules.{fragment_named}
use Rattle.plan_ir.specs.schema_types.Sites.{DirectiveAt, FragmentAt}

-- a fragment, ready to be spread
pub record Ready : Type 0 where
  pub on : Text
  pub selections : Sels
  -- the default of the local variable of a name
  pub locals : Text → Option (Option Val)
  -- the local variables in written order
  pub variables : List Local
  -- whether it is `@inline`
  pub inlined : Bool

abbrev pub Find : Type 0
Find = Text → Option Ready

-- whether an `@inline` is among directives
abbrev pub are_inline : List DirectiveAt → Bool
are_inline ds = list_any (λ (d : DirectiveAt). bytes_eq d.name.name (codes "inline")) ds

-- what stands ready of a fragment
abbrev pub ready_fragment : FragmentAt → Ready
ready_fragment f = record {
  on = f.on.name;
  selections = f.selections;
  locals = default_named (locals_of f.directives);
  variables = locals_of f.directives;
  inlined = are_inline f.directives;
}

-- these fragments are found by their names, and no others
abbrev pub HasFragments : Find → List FragmentAt → Type 0
HasFragments find fs = (n : Text) → find n ≡ option_map ready_fragment (fragment_named fs n)

abbrev pub ready_scope : Scope → List Directive → Ready → Scope
ready_scope scope ds r n = value_of_local (arguments_at_spread scope ds) n (r.locals n)

-- `inside` gives the steps of the fragment's selections
abbrev pub entered_ready : Scope → (name : Text) → List Directive → Ready → (inside : Reader) → Reader
entered_ready scope n ds r inside = cond (is_open ds) inside (pointer_step n (pointer_arguments scope ds r.variables) r.inlined inside)

abbrev pub spread_ready : Defs → List Text → Scope → (name : Text) → List Directive → Option Ready → (inside : Ready → List Text → Reader) → Reader
spread_ready defs ts scope n ds None inside = done
spread_ready defs ts scope n ds (Some r) inside =
    inline_steps defs ts (Some r.on) (conditions_of (printed_conditions scope ds)) (λ us. entered_ready scope n ds r (inside r us))

-- the steps of a spread, where so many spreads may still be entered, one in another
abbrev pub entering : (spreads : ℕ) → Defs → Find → Scope → (types : List Text) → Text → List Directive → Reader
entering zero defs find scope ts n ds = done
entering (suc k) defs find scope ts n ds =
    spread_ready defs ts scope n ds (find n) (λ r us. steps_with (entering k defs find (ready_scope scope ds r)) defs (ready_scope scope ds r) (Some r.on) us r.selections)

abbrev pub reading : (spreads : ℕ) → Defs → Find → Scope → (around : Option Text) → (types : List Text) → Sels → Reader
reading k defs find scope over ts s = steps_with (entering k defs find scope) defs scope over ts s
