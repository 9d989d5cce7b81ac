-- What a step holds is less deep than it.
use Rattle.std.specs.Prelude.{◌≤◌, List, [], ◌∷◌, Some, None, max}
use Rattle.std.proofs.Common.{arith}
use denote.Param.Weighed.{most}
use Rattle.plan_ir.specs.declared.reader.ReaderStep.{ReaderStep}
use Rattle.plan_ir.specs.declared.reader.ReaderStep.TheVariants as N
use Rattle.plan_ir.specs.declared.reader.ReaderList.TheDeep.{deep-ReaderStep}
use Rattle.plan_ir.specs.Reader.{Reader, depth}
use Rattle.plan_ir.specs.ReaderView.{step_before, steps_of}

step_falls : (x : ReaderStep) (t : Reader) → max (deep-ReaderStep x) (depth t) ≤ depth (step_before x t)
step_falls (N.Typename r) t = omega arith
step_falls (N.Leaf r n xs) t = omega arith
step_falls (N.Object r n xs m ts is o c child) t = omega arith
step_falls (N.Guarded g child) t = omega arith
step_falls (N.Pointer f xs None) t = omega arith
step_falls (N.Pointer f xs (Some child)) t = omega arith

pub reader_falls : (xs : List ReaderStep) → max (most deep-ReaderStep xs) 0 ≤ depth (steps_of xs)
reader_falls [] = omega arith
reader_falls (x ∷ xs) = omega (arith, step_falls x (steps_of xs), reader_falls xs)
