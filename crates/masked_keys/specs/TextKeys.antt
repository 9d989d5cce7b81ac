-- The keys of fields that stand in a text: in the selections themselves, in those of a fragment that is spread there with `@relay(mask: false)`, and
-- in those of an `@inline` fragment that is spread there, and so on through these two (this project's own; masks are after Relay). No type, no
-- condition and no record matters here.
use Rattle.std.specs.Prelude.{◌≡◌, ℕ, zero, suc, true, ◌||◌, List, Option, Some, None, option_map, unwrap_or, ◌⊎◌}
use Rattle.plan_ir.specs.gql_ast.Sels as sels
use Rattle.plan_ir.specs.gql_ast.Sels.{Sels}
use Rattle.plan_ir.specs.gql_ast.declared.directive.Directive.{Directive}
use Rattle.plan_ir.specs.Expansion.{Project}
use Rattle.plan_ir.specs.Substitution.{Arguments}
use Rattle.plan_ir.specs.relay_marks.Connections.{connection_among}
use Rattle.plan_ir.specs.schema_tables.Types.{Text}
use Rattle.plan_ir.specs.schema_types.Environments.{Values, arguments_in_environment}
use Rattle.plan_ir.specs.schema_types.NameRules.{fragment_named}
use Rattle.plan_ir.specs.schema_types.Sites.{FragmentAt}
use Rattle.plan_ir.specs.store_record.Keys.{field_key, handle_key}
use Rattle.relay_model.specs.Collection.{is_inline, is_open}
use Rattle.relay_model.specs.plan_collect.Collecting.{environment_inside}

-- the key that a field is read under, in an environment: that of its connection where it has one, else its own
abbrev pub read_key_of : Values → (name : Text) → Arguments → List Directive → Text
read_key_of env n xs ds =
    unwrap_or (option_map (λ c. handle_key c.key c.filters (arguments_in_environment env xs)) (connection_among ds)) (field_key n (arguments_in_environment env xs))

-- some field that stands in selections has the key; `Spread` says the same of what a spread leads to
abbrev pub StandsWith : (Spread : Text → List Directive → Type 0) → Values → Sels → (key : Text) → Type 0
StandsWith Spread env sels.end key = ⊥
StandsWith Spread env (sels.field a n xs ds s rest) key = (key ≡ read_key_of env n xs ds) ⊎ (StandsWith Spread env s key ⊎ StandsWith Spread env rest key)
StandsWith Spread env (sels.spread n ds rest) key = Spread n ds ⊎ StandsWith Spread env rest key
StandsWith Spread env (sels.inline o ds s rest) key = StandsWith Spread env s key ⊎ StandsWith Spread env rest key

-- a spread leads on where it is not masked or its fragment is `@inline`; the fragment's text stands in the environment of its local variables
abbrev pub StandsInFragment : (Inside : Values → FragmentAt → Type 0) → (own around : Values) → List Directive → Option FragmentAt → Type 0
StandsInFragment Inside own around ds None = ⊥
StandsInFragment Inside own around ds (Some f) = ((is_open ds || is_inline f) ≡ true) × Inside (environment_inside own around ds f) f

-- so many spreads may still be entered, one in another; `own` is the environment of the operation
abbrev pub StandsIn : (spreads : ℕ) → Project → (own around : Values) → Sels → (key : Text) → Type 0
StandsIn zero p own around s key = StandsWith (λ n ds. ⊥) around s key
StandsIn (suc k) p own around s key =
    StandsWith (λ n ds. StandsInFragment (λ inside f. StandsIn k p own inside f.selections key) own around ds (fragment_named p.fragments n)) around s key
