-- Laws of plans that read.
use Rattle.std.proofs.Common.{◌≡◌, List, [], ◌∷◌, ◌++◌, Some, None, refl, ap, length, arith}
use Rattle.plan_ir.specs.declared.reader.ReaderStep.{ReaderStep}
use Rattle.plan_ir.specs.declared.reader.ReaderStep.TheVariants as N
use Rattle.plan_ir.specs.Reader.{Reader, done, typename, leaf, object, guarded, pointer, pointer_inline, reader_append, number_of}
use Rattle.plan_ir.specs.ReaderView.{steps_of}

pub steps_of-append : (xs ys : List ReaderStep) → steps_of (xs ++ ys) ≡ reader_append (steps_of xs) (steps_of ys)
steps_of-append [] ys = refl
steps_of-append (N.Typename r ∷ zs) ys = ap (λ t. typename r t) (steps_of-append zs ys)
steps_of-append (N.Leaf r n xs ∷ zs) ys = ap (λ t. leaf r n xs t) (steps_of-append zs ys)
steps_of-append (N.Object r n xs m ts is o c s ∷ zs) ys = ap (λ t. object r n xs m ts is o c s.steps t) (steps_of-append zs ys)
steps_of-append (N.Guarded g s ∷ zs) ys = ap (λ t. guarded g s.steps t) (steps_of-append zs ys)
steps_of-append (N.Pointer f xs None ∷ zs) ys = ap (λ t. pointer f xs t) (steps_of-append zs ys)
steps_of-append (N.Pointer f xs (Some s) ∷ zs) ys = ap (λ t. pointer_inline f xs s.steps t) (steps_of-append zs ys)

pub number_of-steps_of : (xs : List ReaderStep) → number_of (steps_of xs) ≡ length xs
number_of-steps_of [] = refl
number_of-steps_of (N.Typename r ∷ zs) = omega (arith, number_of-steps_of zs)
number_of-steps_of (N.Leaf r n xs ∷ zs) = omega (arith, number_of-steps_of zs)
number_of-steps_of (N.Object r n xs m ts is o c s ∷ zs) = omega (arith, number_of-steps_of zs)
number_of-steps_of (N.Guarded g s ∷ zs) = omega (arith, number_of-steps_of zs)
number_of-steps_of (N.Pointer f xs None ∷ zs) = omega (arith, number_of-steps_of zs)
number_of-steps_of (N.Pointer f xs (Some s) ∷ zs) = omega (arith, number_of-steps_of zs)

-- only no steps make the empty list
pub steps_of-done : (xs : List ReaderStep) → steps_of xs ≡ done → xs ≡ []
steps_of-done [] e = refl
steps_of-done (N.Typename r ∷ zs) e = absurd (omega (arith, ap number_of e))
steps_of-done (N.Leaf r n xs ∷ zs) e = absurd (omega (arith, ap number_of e))
steps_of-done (N.Object r n xs m ts is o c s ∷ zs) e = absurd (omega (arith, ap number_of e))
steps_of-done (N.Guarded g s ∷ zs) e = absurd (omega (arith, ap number_of e))
steps_of-done (N.Pointer f xs None ∷ zs) e = absurd (omega (arith, ap number_of e))
steps_of-done (N.Pointer f xs (Some s) ∷ zs) e = absurd (omega (arith, ap number_of e))

-- laws of lists of steps that are put behind one another
pub reader_append_done : (s : Reader) → reader_append s done ≡ s
reader_append_done done = refl
reader_append_done (typename r t) = ap (λ r'. typename r r') (reader_append_done t)
reader_append_done (leaf r n xs t) = ap (λ r'. leaf r n xs r') (reader_append_done t)
reader_append_done (object r n xs m ts is o c s t) = ap (λ r'. object r n xs m ts is o c s r') (reader_append_done t)
reader_append_done (guarded g s t) = ap (λ r'. guarded g s r') (reader_append_done t)
reader_append_done (pointer f xs t) = ap (λ r'. pointer f xs r') (reader_append_done t)
reader_append_done (pointer_inline f xs s t) = ap (λ r'. pointer_inline f xs s r') (reader_append_done t)

pub reader_append_assoc : (a b d : Reader) → reader_append (reader_append a b) d ≡ reader_append a (reader_append b d)
reader_append_assoc done b d = refl
reader_append_assoc (typename r a) b d = ap (λ q. typename r q) (reader_append_assoc a b d)
reader_append_assoc (leaf r n xs a) b d = ap (λ q. leaf r n xs q) (reader_append_assoc a b d)
reader_append_assoc (object r n xs m ts is o c s a) b d = ap (λ q. object r n xs m ts is o c s q) (reader_append_assoc a b d)
reader_append_assoc (guarded g s a) b d = ap (λ q. guarded g s q) (reader_append_assoc a b d)
reader_append_assoc (pointer f xs a) b d = ap (λ q. pointer f xs q) (reader_append_assoc a b d)
reader_append_assoc (pointer_inline f xs s a) b d = ap (λ q. pointer_inline f xs s q) (reader_append_assoc a b d)
