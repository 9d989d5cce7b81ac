-- What each event leaves as it was.
use Rattle.std.specs.Prelude.{◌≡◌, true, IfOk, OnErr, Result}
use Rattle.line_engine.specs.Kept.{Kept}
use Rattle.line_engine.specs.declared.lines.Lines.{Lines}
use Rattle.plan_ir.specs.gql_plain.declared.memory.NoMemory.{NoMemory}

-- how many released operations are kept at most stays; where the line is refused, and where memory is lacking, all does
pub record Spares (old new : Kept) (result : Result Lines NoMemory) : Type 0 where
  pub buffer : new.buffer ≡ old.buffer
  pub refused : IfOk result (λ lines. lines.refused ≡ true → new ≡ old)
  pub err : OnErr result (new ≡ old)
