-- The plans that the steps stand for.
use Rattle.std.specs.Prelude.{List, [], ◌∷◌}
use Rattle.plan_ir.specs.declared.normal.NormalStep.{NormalStep}
use Rattle.plan_ir.specs.declared.normal.NormalStep.TheVariants as N
use Rattle.plan_ir.specs.Normal.{Normal, done, typename, leaf, object, guarded}

-- a step, and then these
abbrev pub step_before : NormalStep → Normal → Normal
step_before (N.Typename r) t = typename r t
step_before (N.Leaf r n xs) t = leaf r n xs t
step_before (N.Object r n xs m ts is o c child) t = object r n xs m ts is o c child.steps t
step_before (N.Guarded g child) t = guarded g child.steps t

-- a step alone
abbrev pub step_of : NormalStep → Normal
step_of x = step_before x done

abbrev pub steps_of : List NormalStep → Normal
steps_of [] = done
steps_of (x ∷ xs) = step_before x (steps_of xs)
