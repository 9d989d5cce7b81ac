-- Lines, as the engine writes them.
use Rattle.std.proofs.Common.{◌≡◌, List, [], ◌∷◌, ◌++◌, refl, ap}
use Rattle.relay_engine.specs.Steps.{written}
use Rattle.relay_forms.specs.Artifacts.{text_of_lines}
use Rattle.plan_ir.specs.schema_tables.Types.{Text}

pub as_written : (lines : List Text) → text_of_lines lines ≡ written lines
as_written [] = refl
as_written (line ∷ lines) = ap (λ t. (line ++ 10 ∷ []) ++ t) (as_written lines)
