-- What steps lead to that are put behind one another, and which lead to the same as the one before.
use Rattle.std.proofs.Common.{◌≡◌, ℕ, zero, suc, ◌<◌, Bool, true, false, true≢false, List, [], ◌∷◌, ◌++◌, length, get_or, Option, Some, None, refl, ap, sym, ◌∙◌, subst, arith}
use Rattle.plan_ir.specs.Normal.{Normal, done, typename, leaf, object, guarded, normal_append}
use Rattle.plan_ir.specs.NormalLeads.{only, leads_of, lead_of, last_of, last_lead, AreAgain}
use Rattle.plan_ir.specs.NormalView.{step_before, step_of, steps_of}
use Rattle.plan_ir.specs.declared.normal.NormalStep.{NormalStep}
use Rattle.plan_ir.specs.declared.normal.NormalStep.TheVariants as N
use Rattle.plan_ir.proofs.NormalLaws.{steps_of-append}

pub leads_of-append : (s t : Normal) → leads_of (normal_append s t) ≡ leads_of s ++ leads_of t
leads_of-append done t = refl
leads_of-append (typename r s) t = ap (λ xs. None ∷ xs) (leads_of-append s t)
leads_of-append (leaf r n xs s) t = ap (λ ys. None ∷ ys) (leads_of-append s t)
leads_of-append (object r n xs m ts is o c child s) t = ap (λ ys. Some child ∷ ys) (leads_of-append s t)
leads_of-append (guarded g child s) t = ap (λ ys. only (leads_of child) ∷ ys) (leads_of-append s t)

-- a step alone leads to what it leads to
pub leads_of_step : (x : NormalStep) → leads_of (step_of x) ≡ lead_of (step_of x) ∷ []
leads_of_step (N.Typename r) = refl
leads_of_step (N.Leaf r n xs) = refl
leads_of_step (N.Object r n xs m ts is o c child) = refl
leads_of_step (N.Guarded g child) = refl

leads_before : (x : NormalStep) (t : Normal) → leads_of (step_before x t) ≡ lead_of (step_of x) ∷ leads_of t
leads_before (N.Typename r) t = refl
leads_before (N.Leaf r n xs) t = refl
leads_before (N.Object r n xs m ts is o c child) t = refl
leads_before (N.Guarded g child) t = refl

-- ---- one more step

last_pushed : (before x : Option Normal) (xs : List (Option Normal)) → last_of before (xs ++ x ∷ []) ≡ x
last_pushed before x [] = refl
last_pushed before x (y ∷ xs) = last_pushed y x xs

-- the last step leads to what was put last
pub last_lead_put : (s t : Normal) (x : NormalStep) → t ≡ normal_append s (step_of x) → last_lead t ≡ lead_of (step_of x)
last_lead_put s t x e =
    ap last_lead e ∙ ap (last_of None) (leads_of-append s (step_of x) ∙ ap (λ ys. leads_of s ++ ys) (leads_of_step x)) ∙ last_pushed None (lead_of (step_of x)) (leads_of s)

again_more : (before x : Option Normal) (b : Bool) (bs : List Bool) (xs : List (Option Normal)) → AreAgain before bs xs → (b ≡ true → last_of before xs ≡ x)
    → AreAgain before (bs ++ b ∷ []) (xs ++ x ∷ [])
again_more before x b [] [] h e = (e, tt)
again_more before x b [] (y ∷ xs) h e = absurd h
again_more before x b (d ∷ bs) [] h e = absurd h
again_more before x b (d ∷ bs) (y ∷ xs) h e = (h.0, again_more y x b bs xs h.1 e)

pub again_pushed : (xs ys : List NormalStep) (x : NormalStep) (b : Bool) (bs cs : List Bool) → AreAgain None bs (leads_of (steps_of xs)) → (b ≡ true → last_lead (steps_of xs) ≡ lead_of (step_of x))
    → cs ≡ bs ++ b ∷ [] → ys ≡ xs ++ x ∷ [] → AreAgain None cs (leads_of (steps_of ys))
again_pushed xs ys x b bs cs kept same more grown =
    let leads : leads_of (steps_of ys) ≡ leads_of (steps_of xs) ++ lead_of (step_of x) ∷ [] =
    ap (λ (zs : List NormalStep). leads_of (steps_of zs)) grown
    ∙ ap leads_of (steps_of-append xs (x ∷ []))
    ∙ leads_of-append (steps_of xs) (step_of x)
    ∙ ap (λ ls. leads_of (steps_of xs) ++ ls) (leads_of_step x) in
    subst (λ ls. AreAgain None cs ls) (sym leads)
    (subst (λ ds. AreAgain None ds (leads_of (steps_of xs) ++ lead_of (step_of x) ∷ [])) (sym more)
    (again_more None (lead_of (step_of x)) b bs (leads_of (steps_of xs)) kept same))

-- ---- at a place

-- what the step at a place leads to, and the one before it
pub lead_at : (xs : List NormalStep) (i : ℕ) (d : NormalStep) → i < length xs → get_or (leads_of (steps_of xs)) i None ≡ lead_of (step_of (get_or xs i d))
lead_at [] i d h = absurd (omega arith)
lead_at (x ∷ xs) zero d h = ap (λ ls. get_or ls 0 None) (leads_before x (steps_of xs))
lead_at (x ∷ xs) (suc i) d h = ap (λ ls. get_or ls (suc i) None) (leads_before x (steps_of xs)) ∙ lead_at xs i d (omega arith)

pub again_at : (before : Option Normal) (bs : List Bool) (ls : List (Option Normal)) (i : ℕ) → AreAgain before bs ls → get_or bs i false ≡ true
    → get_or (before ∷ ls) i None ≡ get_or ls i None
again_at before [] ls i h e = absurd (true≢false (sym e))
again_at before (b ∷ bs) [] i h e = absurd h
again_at before (b ∷ bs) (l ∷ ls) zero h e = h.0 e
again_at before (b ∷ bs) (l ∷ ls) (suc i) h e = again_at l bs ls i h.1 e

again_counted : (before : Option Normal) (bs : List Bool) (ls : List (Option Normal)) → AreAgain before bs ls → length bs ≡ length ls
again_counted before [] [] h = refl
again_counted before [] (l ∷ ls) h = absurd h
again_counted before (b ∷ bs) [] h = absurd h
again_counted before (b ∷ bs) (l ∷ ls) h = ap suc (again_counted l bs ls h.1)

leads_counted : (xs : List NormalStep) → length (leads_of (steps_of xs)) ≡ length xs
leads_counted [] = refl
leads_counted (x ∷ xs) = ap length (leads_before x (steps_of xs)) ∙ ap suc (leads_counted xs)

-- there is a mark for each step
pub marks_counted : (bs : List Bool) (xs : List NormalStep) (whole : Normal) → AreAgain None bs (leads_of whole) → steps_of xs ≡ whole → length bs ≡ length xs
marks_counted bs xs whole h e = again_counted None bs (leads_of whole) h ∙ ap (λ (s : Normal). length (leads_of s)) (sym e) ∙ leads_counted xs
