-- What a step holds is less deep than it.
use Rattle.std.specs.Prelude.{◌≤◌, List, [], ◌∷◌, max}
use Rattle.std.proofs.Common.{arith}
use denote.Param.Weighed.{most}
use Rattle.plan_ir.specs.declared.normal.NormalStep.{NormalStep}
use Rattle.plan_ir.specs.declared.normal.NormalStep.TheVariants as N
use Rattle.plan_ir.specs.declared.normal.NormalList.TheDeep.{deep-NormalStep}
use Rattle.plan_ir.specs.Normal.{Normal, depth}
use Rattle.plan_ir.specs.NormalView.{step_before, steps_of}

step_falls : (x : NormalStep) (t : Normal) → max (deep-NormalStep x) (depth t) ≤ depth (step_before x t)
step_falls (N.Typename r) t = omega arith
step_falls (N.Leaf r n xs) t = omega arith
step_falls (N.Object r n xs m ts is o c child) t = omega arith
step_falls (N.Guarded g child) t = omega arith

pub normal_falls : (xs : List NormalStep) → max (most deep-NormalStep xs) 0 ≤ depth (steps_of xs)
normal_falls [] = omega arith
normal_falls (x ∷ xs) = omega (arith, step_falls x (steps_of xs), normal_falls xs)
