-- The keys of steps that are put behind one another, and those of each step.
use Rattle.std.proofs.Common.{◌≡◌, ℕ, zero, suc, ◌<◌, List, [], ◌∷◌, ◌++◌, length, get_or, Option, None, refl, ap, sym, ◌∙◌, arith}
use Rattle.plan_ir.specs.FieldKeys.{constant_key}
use Rattle.plan_ir.proofs.NormalLaws.{steps_of-append}
use Rattle.plan_ir.specs.Normal.{Normal, done, typename, leaf, object, guarded, normal_append}
use Rattle.plan_ir.specs.NormalKeys.{keys_of}
use Rattle.plan_ir.specs.NormalView.{step_before, step_of, steps_of}
use Rattle.plan_ir.specs.declared.normal.NormalStep.{NormalStep}
use Rattle.plan_ir.specs.declared.normal.NormalStep.TheVariants as N
use Rattle.relay_marks.specs.schema_tables.Types.{Text}

pub keys_of-append : (s t : Normal) → keys_of (normal_append s t) ≡ keys_of s ++ keys_of t
keys_of-append done t = refl
keys_of-append (typename r s) t = ap (λ ks. None ∷ ks) (keys_of-append s t)
keys_of-append (leaf r n xs s) t = ap (λ ks. constant_key n xs ∷ ks) (keys_of-append s t)
keys_of-append (object r n xs m ts is o c child s) t = ap (λ ks. constant_key n xs ∷ ks) (keys_of-append s t)
keys_of-append (guarded g child s) t = ap (λ ks. None ∷ ks) (keys_of-append s t)

-- ---- each step has its key

pub keys_counted : (xs : List NormalStep) → length (keys_of (steps_of xs)) ≡ length xs
keys_counted [] = refl
keys_counted (N.Typename r ∷ zs) = ap suc (keys_counted zs)
keys_counted (N.Leaf r n xs ∷ zs) = ap suc (keys_counted zs)
keys_counted (N.Object r n xs m ts is o c child ∷ zs) = ap suc (keys_counted zs)
keys_counted (N.Guarded g child ∷ zs) = ap suc (keys_counted zs)

key_first : (x : NormalStep) (t : Normal) (k : Option Text) → k ≡ get_or (keys_of (step_before x t)) 0 k → k ∷ [] ≡ keys_of (step_of x)
key_first (N.Typename r) t k = λ e. ap (λ j. j ∷ []) e
key_first (N.Leaf r n xs) t k = λ e. ap (λ j. j ∷ []) e
key_first (N.Object r n xs m ts is o c child) t k = λ e. ap (λ j. j ∷ []) e
key_first (N.Guarded g child) t k = λ e. ap (λ j. j ∷ []) e

key_later : (x : NormalStep) (t : Normal) (i : ℕ) (k : Option Text) → get_or (keys_of (step_before x t)) (suc i) k ≡ get_or (keys_of t) i k
key_later (N.Typename r) t i k = refl
key_later (N.Leaf r n xs) t i k = refl
key_later (N.Object r n xs m ts is o c child) t i k = refl
key_later (N.Guarded g child) t i k = refl

at_place : (xs : List NormalStep) (i : ℕ) (x : NormalStep) (k : Option Text) → i < length xs → k ≡ get_or (keys_of (steps_of xs)) i k → k ∷ [] ≡ keys_of (step_of (get_or xs i x))
at_place [] i x k h e = absurd (omega arith)
at_place (y ∷ xs) zero x k h e = key_first y (steps_of xs) k e
at_place (y ∷ xs) (suc i) x k h e = at_place xs i x k (omega arith) (e ∙ key_later y (steps_of xs) i k)

-- the key at the place of a step is that of its field
pub key_at : (xs : List NormalStep) (ks : List (Option Text)) (i : ℕ) (x : NormalStep) (k : Option Text) → i < length xs → x ≡ get_or xs i x → ks ≡ keys_of (steps_of xs) → k ≡ get_or ks i k
    → k ∷ [] ≡ keys_of (step_of x)
key_at xs ks i x k h is keys e = at_place xs i x k h (e ∙ ap (λ js. get_or js i k) keys) ∙ sym (ap (λ (y : NormalStep). keys_of (step_of y)) is)

-- one more step, and its key
pub keys_pushed : (xs ys : List NormalStep) (x : NormalStep) (ks js : List (Option Text)) (k : Option Text) → ks ≡ keys_of (steps_of xs) → k ∷ [] ≡ keys_of (step_of x) → js ≡ ks ++ k ∷ [] → ys ≡ xs ++ x ∷ []
    → js ≡ keys_of (steps_of ys)
keys_pushed xs ys x ks js k kept key pushed grown =
    pushed
    ∙ (λ i. kept i ++ key i)
    ∙ sym (keys_of-append (steps_of xs) (step_of x))
    ∙ ap keys_of (sym (steps_of-append xs (x ∷ [])))
    ∙ ap (λ (zs : List NormalStep). keys_of (steps_of zs)) (sym grown)
