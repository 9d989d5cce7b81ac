-- How many records a walk stands at one below another, by steps that are put behind one another.
use Rattle.std.proofs.Common.{◌≡◌, ℕ, ◌+◌, List, [], ◌∷◌, ◌++◌, max, ap, sym, ◌∙◌, arith}
use Rattle.plan_ir.specs.Normal.{Normal, done, typename, leaf, object, guarded, normal_append}
use Rattle.plan_ir.specs.NormalReach.{records_below}
use Rattle.plan_ir.specs.NormalView.{step_of, steps_of}
use Rattle.plan_ir.specs.declared.normal.NormalStep.{NormalStep}
use Rattle.plan_ir.proofs.NormalLaws.{steps_of-append}

max_assoc : (a b c : ℕ) → max a (max b c) ≡ max (max a b) c
max_assoc a b c = omega arith

pub below-append : (s t : Normal) → records_below (normal_append s t) ≡ max (records_below s) (records_below t)
below-append done t = omega arith
below-append (typename r s) t = below-append s t
below-append (leaf r n xs s) t = below-append s t
below-append (object r n xs m ts is o c child s) t =
    ap (max (records_below child + 1)) (below-append s t) ∙ max_assoc (records_below child + 1) (records_below s) (records_below t)
below-append (guarded g child s) t = ap (max (records_below child)) (below-append s t) ∙ max_assoc (records_below child) (records_below s) (records_below t)

one_more : (a b : ℕ) → max (a + 1) (b + 1) ≡ max a b + 1
one_more a b = omega arith

-- one more step
pub levels_pushed : (xs ys : List NormalStep) (x : NormalStep) (n m : ℕ) → n ≡ records_below (steps_of xs) + 1 → m ≡ max n (records_below (step_of x) + 1) → ys ≡ xs ++ x ∷ []
    → m ≡ records_below (steps_of ys) + 1
levels_pushed xs ys x n m kept more grown =
    more
    ∙ ap (λ k. max k (records_below (step_of x) + 1)) kept
    ∙ one_more (records_below (steps_of xs)) (records_below (step_of x))
    ∙ ap (λ k. k + 1) (sym (below-append (steps_of xs) (step_of x)) ∙ ap records_below (sym (steps_of-append xs (x ∷ []))))
    ∙ ap (λ (zs : List NormalStep). records_below (steps_of zs) + 1) (sym grown)
