-- Whether steps have or give a pointer, one step after another.
use Rattle.std.proofs.Common.{◌≡◌, ℕ, ◌+◌, ◌<◌, Bool, true, false, ◌&&◌, ◌||◌, List, [], ◌∷◌, ◌++◌, Some, None, drop, length, get_or, append-nil, refl, sym, ap, ◌∙◌}
use Rattle.plan_ir.specs.Reader.{Reader}
use Rattle.plan_ir.specs.ReaderMeaning.{ReaderPart, collect_reading}
use Rattle.plan_ir.specs.ReaderView.{step_before, step_of, steps_of}
use Rattle.plan_ir.specs.declared.guard.Guard.{Guard}
use Rattle.plan_ir.specs.declared.reader.ReaderPlan.{ReaderPlan}
use Rattle.plan_ir.specs.declared.reader.ReaderStep.{ReaderStep}
use Rattle.plan_ir.specs.declared.reader.ReaderStep.TheVariants as N
use Rattle.plan_order.specs.Responses.{fragments}
use Rattle.plan_order.specs.Walk.{is_none}
use Rattle.plan_ir.specs.schema_types.Environments.{Values}
use Rattle.plan_ir.specs.store_model.Items.{Item, asked, pointed}
use Rattle.store_read.proofs.GatherSteps.{steps_left}
use Rattle.store_read.proofs.LoopSteps.{drop_at}
use Rattle.store_show.specs.Showing.{has_pointed}
use Rattle.plan_ir.specs.store_record.Keys.{Text}

-- ---- whether no step is a pointer

none_append : (xs ys : List Text) → is_none (xs ++ ys) ≡ (is_none xs && is_none ys)
none_append [] ys = refl
none_append (x ∷ xs) ys = refl

none_before : (x : ReaderStep) (t : Reader) → is_none (fragments (step_before x t)) ≡ (is_none (fragments (step_of x)) && is_none (fragments t))
none_before (N.Typename r) t = refl
none_before (N.Leaf r n xs) t = refl
none_before (N.Object r n xs m ts is o c child) t = refl
none_before (N.Guarded g child) t =
    none_append (fragments child.steps) (fragments t) ∙ ap (λ (fs : List Text). is_none fs && is_none (fragments t)) (sym (append-nil (fragments child.steps)))
none_before (N.Pointer f xs None) t = refl
none_before (N.Pointer f xs (Some child)) t = refl

-- what stands behind a guard
pub none_guarded : (x : ReaderStep) (g : Guard) (child : ReaderPlan) → x ≡ N.Guarded g child → is_none (fragments child.steps) ≡ is_none (fragments (step_of x))
none_guarded x g child is = ap is_none (sym (append-nil (fragments child.steps))) ∙ ap (λ (y : ReaderStep). is_none (fragments (step_of y))) (sym is)

module _ (xs : List ReaderStep) (i : ℕ) (x : ReaderStep) (within : i < length xs) (is : x ≡ get_or xs i x) where
  none_both : (is_none (fragments (step_of x)) && is_none (fragments (steps_of (drop (i + 1) xs)))) ≡ is_none (fragments (steps_of (drop i xs)))
  none_both = sym (none_before x (steps_of (drop (i + 1) xs))) ∙ sym (ap (λ (ys : List ReaderStep). is_none (fragments (steps_of ys))) (drop_at xs i x within is))

  pub none_next : (whole : Bool) → is_none (fragments (step_of x)) ≡ true → is_none (fragments (steps_of (drop i xs))) ≡ whole → is_none (fragments (steps_of (drop (i + 1) xs))) ≡ whole
  none_next whole here w = sym (ap (λ b. b && is_none (fragments (steps_of (drop (i + 1) xs)))) here) ∙ none_both ∙ w

  pub none_here : (whole : Bool) → is_none (fragments (step_of x)) ≡ false → is_none (fragments (steps_of (drop i xs))) ≡ whole → false ≡ whole
  none_here whole here w = sym (ap (λ b. b && is_none (fragments (steps_of (drop (i + 1) xs)))) here) ∙ none_both ∙ w

-- ---- whether a step gives a pointer

pointed_append : (xs ys : List (Item ReaderPart)) → has_pointed (xs ++ ys) ≡ (has_pointed xs || has_pointed ys)
pointed_append [] ys = refl
pointed_append (asked a ∷ xs) ys = pointed_append xs ys
pointed_append (pointed p ∷ xs) ys = refl

module _ (env : Values) (T : Text) (xs : List ReaderStep) (i : ℕ) (x : ReaderStep) (within : i < length xs) (is : x ≡ get_or xs i x) where
  abbrev left : Bool
  left = has_pointed (collect_reading env T (steps_of (drop (i + 1) xs)))

  pointed_both : (has_pointed (collect_reading env T (step_of x)) || left) ≡ has_pointed (collect_reading env T (steps_of (drop i xs)))
  pointed_both = sym (pointed_append (collect_reading env T (step_of x)) (collect_reading env T (steps_of (drop (i + 1) xs)))) ∙ ap has_pointed (steps_left env T xs i x within is)

  pub pointed_next : (whole : Bool) → has_pointed (collect_reading env T (step_of x)) ≡ false → has_pointed (collect_reading env T (steps_of (drop i xs))) ≡ whole → left ≡ whole
  pointed_next whole here w = sym (ap (λ b. b || left) here) ∙ pointed_both ∙ w

  pub pointed_here : (whole : Bool) → has_pointed (collect_reading env T (step_of x)) ≡ true → has_pointed (collect_reading env T (steps_of (drop i xs))) ≡ whole → true ≡ whole
  pointed_here whole here w = sym (ap (λ b. b || left) here) ∙ pointed_both ∙ w
