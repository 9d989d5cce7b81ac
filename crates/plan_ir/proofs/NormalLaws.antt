-- Laws of plans that normalize.
use Rattle.std.proofs.Common.{◌≡◌, List, [], ◌∷◌, ◌++◌, refl, ap, length, arith}
use Rattle.plan_ir.specs.declared.normal.NormalStep.{NormalStep}
use Rattle.plan_ir.specs.declared.normal.NormalStep.TheVariants as N
use Rattle.plan_ir.specs.Normal.{Normal, done, typename, leaf, object, guarded, normal_append, number_of}
use Rattle.plan_ir.specs.NormalView.{steps_of}

pub steps_of-append : (xs ys : List NormalStep) → steps_of (xs ++ ys) ≡ normal_append (steps_of xs) (steps_of ys)
steps_of-append [] ys = refl
steps_of-append (N.Typename r ∷ zs) ys = ap (λ t. typename r t) (steps_of-append zs ys)
steps_of-append (N.Leaf r n xs ∷ zs) ys = ap (λ t. leaf r n xs t) (steps_of-append zs ys)
steps_of-append (N.Object r n xs m ts is o c s ∷ zs) ys = ap (λ t. object r n xs m ts is o c s.steps t) (steps_of-append zs ys)
steps_of-append (N.Guarded g s ∷ zs) ys = ap (λ t. guarded g s.steps t) (steps_of-append zs ys)

pub number_of-steps_of : (xs : List NormalStep) → number_of (steps_of xs) ≡ length xs
number_of-steps_of [] = refl
number_of-steps_of (N.Typename r ∷ zs) = omega (arith, number_of-steps_of zs)
number_of-steps_of (N.Leaf r n xs ∷ zs) = omega (arith, number_of-steps_of zs)
number_of-steps_of (N.Object r n xs m ts is o c s ∷ zs) = omega (arith, number_of-steps_of zs)
number_of-steps_of (N.Guarded g s ∷ zs) = omega (arith, number_of-steps_of zs)

-- only no steps make the empty list
pub steps_of-done : (xs : List NormalStep) → steps_of xs ≡ done → xs ≡ []
steps_of-done [] e = refl
steps_of-done (N.Typename r ∷ zs) e = absurd (omega (arith, ap number_of e))
steps_of-done (N.Leaf r n xs ∷ zs) e = absurd (omega (arith, ap number_of e))
steps_of-done (N.Object r n xs m ts is o c s ∷ zs) e = absurd (omega (arith, ap number_of e))
steps_of-done (N.Guarded g s ∷ zs) e = absurd (omega (arith, ap number_of e))

-- laws of lists of steps that are put behind one another
pub normal_append_done : (s : Normal) → normal_append s done ≡ s
normal_append_done done = refl
normal_append_done (typename r t) = ap (λ r'. typename r r') (normal_append_done t)
normal_append_done (leaf r n xs t) = ap (λ r'. leaf r n xs r') (normal_append_done t)
normal_append_done (object r n xs m ts is o c s t) = ap (λ r'. object r n xs m ts is o c s r') (normal_append_done t)
normal_append_done (guarded g s t) = ap (λ r'. guarded g s r') (normal_append_done t)

pub normal_append_assoc : (a b d : Normal) → normal_append (normal_append a b) d ≡ normal_append a (normal_append b d)
normal_append_assoc done b d = refl
normal_append_assoc (typename r a) b d = ap (λ q. typename r q) (normal_append_assoc a b d)
normal_append_assoc (leaf r n xs a) b d = ap (λ q. leaf r n xs q) (normal_append_assoc a b d)
normal_append_assoc (object r n xs m ts is o c s a) b d = ap (λ q. object r n xs m ts is o c s q) (normal_append_assoc a b d)
normal_append_assoc (guarded g s a) b d = ap (λ q. guarded g s q) (normal_append_assoc a b d)
