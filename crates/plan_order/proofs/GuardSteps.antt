-- Whether guards stand around steps, one step after another.
use Rattle.std.proofs.Common.{◌≡◌, ℕ, ◌+◌, ◌<◌, ◌≤◌, Bool, true, false, ◌&&◌, List, Some, None, drop, length, get_or, refl, ap, sym, ◌∙◌}
use Rattle.std.proofs.lemmas.List.{drop_all, drop_more}
use Rattle.plan_ir.specs.Reader as r
use Rattle.plan_ir.specs.Reader.{Reader}
use Rattle.plan_ir.specs.ReaderView.{step_before, step_of, steps_of}
use Rattle.plan_ir.specs.declared.reader.ReaderStep.{ReaderStep}
use Rattle.plan_ir.specs.declared.reader.ReaderStep.TheVariants as N
use Rattle.plan_order.specs.HasOrder.{has_single_guards, is_unguarded}

and_swap : (a b : Bool) → (a && b) ≡ (b && a)
and_swap true true = refl
and_swap true false = refl
and_swap false true = refl
and_swap false false = refl

pub single_step : (x : ReaderStep) (s : Reader) → has_single_guards (step_before x s) ≡ (has_single_guards (step_of x) && has_single_guards s)
single_step (N.Typename n) s = refl
single_step (N.Leaf n name xs) s = refl
single_step (N.Object n name xs m ts is o c child) s = refl
single_step (N.Guarded g child) s = and_swap (has_single_guards s) (is_unguarded child.steps)
single_step (N.Pointer f xs None) s = refl
single_step (N.Pointer f xs (Some child)) s = refl

pub unguarded_step : (x : ReaderStep) (s : Reader) → is_unguarded (step_before x s) ≡ (is_unguarded (step_of x) && is_unguarded s)
unguarded_step (N.Typename n) s = refl
unguarded_step (N.Leaf n name xs) s = refl
unguarded_step (N.Object n name xs m ts is o c child) s = refl
unguarded_step (N.Guarded g child) s = refl
unguarded_step (N.Pointer f xs None) s = refl
unguarded_step (N.Pointer f xs (Some child)) s = refl

-- what holds of steps where it holds of each
module _ (p : Reader → Bool) (law : (x : ReaderStep) (s : Reader) → p (step_before x s) ≡ (p (step_of x) && p s)) where
  here : (xs : List ReaderStep) (i : ℕ) (x : ReaderStep) (b : Bool) → i < length xs → x ≡ get_or xs i x → p (step_of x) ≡ b → p (steps_of (drop i xs)) ≡ (b && p (steps_of (drop (i + 1) xs)))
  here xs i x b h is e =
      let rest : Reader = steps_of (drop (i + 1) xs) in
      ap (λ (ys : List ReaderStep). p (steps_of ys)) (drop_more xs i x h)
      ∙ sym (ap (λ (y : ReaderStep). p (step_before y rest)) is)
      ∙ law x rest
      ∙ ap (λ (c : Bool). c && p rest) e

  -- a step of which it holds: what is left decides
  pub left_next : (xs : List ReaderStep) (i : ℕ) (x : ReaderStep) (whole : Bool) → i < length xs → x ≡ get_or xs i x → p (step_of x) ≡ true → p (steps_of (drop i xs)) ≡ whole → p (steps_of (drop (i + 1) xs)) ≡ whole
  left_next xs i x whole h is e w = sym (here xs i x true h is e) ∙ w

  -- a step of which it does not
  pub left_here : (xs : List ReaderStep) (i : ℕ) (x : ReaderStep) (whole : Bool) → i < length xs → x ≡ get_or xs i x → p (step_of x) ≡ false → p (steps_of (drop i xs)) ≡ whole → false ≡ whole
  left_here xs i x whole h is e w = sym (here xs i x false h is e) ∙ w

  -- no step is left
  pub left_end : (xs : List ReaderStep) (i : ℕ) (whole : Bool) → length xs ≤ i → p r.done ≡ true → p (steps_of (drop i xs)) ≡ whole → true ≡ whole
  left_end xs i whole h nothing w = sym (ap (λ (ys : List ReaderStep). p (steps_of ys)) (drop_all i xs h) ∙ nothing) ∙ w
