-- Which directives are printed, of a spread and of all else.
use Rattle.std.specs.Prelude.{Bool, true, false}
use Rattle.plan_ir.specs.Expansion.{is_printed, is_condition}
use Rattle.plan_ir.specs.schema_tables.Types.{Text}

abbrev pub shows : (is_spread : Bool) → Text → Bool
shows true n = is_condition n
shows false n = is_printed n
