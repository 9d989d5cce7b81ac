-- The object types that the code has around.
use Rattle.std.specs.Prelude.{◌≡◌, true, List}
use Rattle.plan_build.specs.declared.around.Around.{Around}
use Rattle.plan_build.specs.declared.around.Around.TheVariants as A
use Rattle.plan_ir.specs.schema_tables.Types.{Text, Defs, is_composite, possible}

abbrev pub types_of : Defs → Around → List Text
types_of defs (A.Of of) = possible defs of.now
types_of defs (A.Listed ts) = ts.now

-- those of a name are those of a composite type
abbrev pub IsOfComposite : Defs → Around → Type 0
IsOfComposite defs (A.Of of) = is_composite defs of.now ≡ true
IsOfComposite defs (A.Listed ts) = Unit {0}
