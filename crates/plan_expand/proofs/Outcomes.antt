-- Verdicts and faults are handed on.
use Rattle.std.proofs.Common.{◌≡◌, Bool, true, false, true≢false, refl, ap, sym, subst, ◌∙◌}
use Rattle.std.specs.Prelude.{Result, Ok, Err}
use Rattle.plan_expand.specs.Verdicts.{Enough, IsEnough, IsOutcome, IsVerdict, are_too_many}
use Rattle.plan_expand.specs.declared.extent.Extent.{Extent}
use Rattle.plan_expand.specs.declared.fault.ExpandFault.{ExpandFault}
use Rattle.plan_expand.specs.declared.fault.ExpandFault.TheVariants as F

pub fault_as : {A B : Type 0} (P : A → Type 0) (Q : B → Type 0) (e : Extent) (f : ExpandFault) → IsOutcome e P (Err f) → IsOutcome e Q (Err f)
fault_as P Q e F.TooManyNodes h = h
fault_as P Q e F.TooDeep h = h
fault_as P Q e F.NoMemory h = tt

-- ---- what is measured until there are too many nodes

pub enough_many : (whole found : Extent) → are_too_many found ≡ true → are_too_many whole ≡ true → IsEnough whole found
enough_many whole found e h = subst (λ (b : Bool). Enough b whole found) (sym e) h

pub enough_all : (whole found : Extent) → found ≡ whole → IsEnough whole found
enough_all whole found e = on (are_too_many found) refl where
  on : (b : Bool) → are_too_many found ≡ b → Enough b whole found
  on true h = ap are_too_many (sym e) ∙ h
  on false h = e

-- it has the same verdict
many_verdict : {A : Type 0} (whole found : Extent) → are_too_many found ≡ true → are_too_many whole ≡ true → (r : Result A ExpandFault) → IsVerdict found r → IsVerdict whole r
many_verdict whole found e g (Ok a) u = absurd (true≢false (sym e ∙ u.1))
many_verdict whole found e g (Err F.TooManyNodes) u = g
many_verdict whole found e g (Err F.TooDeep) u = absurd (true≢false (sym e ∙ u.0))
many_verdict whole found e g (Err F.NoMemory) u = tt

verdict_by : {A : Type 0} (whole found : Extent) (b : Bool) → are_too_many found ≡ b → Enough b whole found → (r : Result A ExpandFault) → IsVerdict found r → IsVerdict whole r
verdict_by whole found true e g r u = many_verdict whole found e g r u
verdict_by {A = A} whole found false e g r u = subst (λ (x : Extent). IsVerdict {A = A} x r) g u

pub enough_verdict : {A : Type 0} (whole found : Extent) → IsEnough whole found → (r : Result A ExpandFault) → IsVerdict found r → IsVerdict whole r
enough_verdict whole found h r v = verdict_by whole found (are_too_many found) refl h r v
