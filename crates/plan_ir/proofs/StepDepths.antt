-- A step is no deeper than the steps among which it stands.
use Rattle.std.proofs.Common.{◌≡◌, ℕ, zero, suc, ◌<◌, ◌≤◌, List, [], ◌∷◌, length, get_or, Some, None, max, ap, arith}
use Rattle.plan_ir.specs.Reader.{depth}
use Rattle.plan_ir.specs.ReaderView.{step_before, step_of, steps_of}
use Rattle.plan_ir.specs.Reader.{Reader}
use Rattle.plan_ir.specs.declared.reader.ReaderStep.{ReaderStep}
use Rattle.plan_ir.specs.declared.reader.ReaderStep.TheVariants as N

depth_step : (x : ReaderStep) (s : Reader) → depth (step_before x s) ≡ max (depth (step_of x)) (depth s)
depth_step (N.Typename n) s = omega arith
depth_step (N.Leaf n name xs) s = omega arith
depth_step (N.Object n name xs m ts is o c child) s = omega arith
depth_step (N.Guarded g child) s = omega arith
depth_step (N.Pointer f xs None) s = omega arith
depth_step (N.Pointer f xs (Some child)) s = omega arith

pub depth_at : (xs : List ReaderStep) (i : ℕ) (d : ReaderStep) → i < length xs → depth (step_of (get_or xs i d)) ≤ depth (steps_of xs)
depth_at [] i d lt = absurd (omega arith)
depth_at (x ∷ xs) zero d lt = omega (arith, depth_step x (steps_of xs))
depth_at (x ∷ xs) (suc i) d lt = omega (arith, depth_step x (steps_of xs), depth_at xs i d (omega arith))

pub step_within : (xs : List ReaderStep) (i : ℕ) (x : ReaderStep) (whole : Reader) → i < length xs → x ≡ get_or xs i x → steps_of xs ≡ whole → depth (step_of x) ≤ depth whole
step_within xs i x whole lt is all = omega (arith, depth_at xs i x lt, ap (λ y. depth (step_of y)) is, ap depth all)
