-- The plans that the steps stand for.
use Rattle.std.specs.Prelude.{List, [], ◌∷◌, Some, None}
use Rattle.plan_ir.specs.declared.reader.ReaderStep.{ReaderStep}
use Rattle.plan_ir.specs.declared.reader.ReaderStep.TheVariants as N
use Rattle.plan_ir.specs.Reader.{Reader, done, typename, leaf, object, guarded, pointer, pointer_inline}

-- a step, and then these
abbrev pub step_before : ReaderStep → Reader → Reader
step_before (N.Typename r) t = typename r t
step_before (N.Leaf r n xs) t = leaf r n xs t
step_before (N.Object r n xs m ts is o c child) t = object r n xs m ts is o c child.steps t
step_before (N.Guarded g child) t = guarded g child.steps t
step_before (N.Pointer f xs None) t = pointer f xs t
step_before (N.Pointer f xs (Some child)) t = pointer_inline f xs child.steps t

-- a step alone
abbrev pub step_of : ReaderStep → Reader
step_of x = step_before x done

abbrev pub steps_of : List ReaderStep → Reader
steps_of [] = done
steps_of (x ∷ xs) = step_before x (steps_of xs)
