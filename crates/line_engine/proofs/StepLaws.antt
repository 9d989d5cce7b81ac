-- The answer of a line is the machine's.
use Rattle.std.proofs.Common.{◌≡◌, ℕ, Bool, true, false, [], ◌∷◌, ◌++◌, Option, Some, Result, append-nil, sym, ap, subst, ◌∙◌}
use Rattle.std.proofs.lemmas.Result.{IfOk-weaker}
use Rattle.std.specs.Result.{IfOk}
use Rattle.line_engine.specs.Answered.{AreLines, Gives, IsRefusalOf}
use Rattle.line_engine.specs.Kept.{Kept}
use Rattle.line_engine.specs.Stands.{StandsFor}
use Rattle.line_engine.specs.Steps.{AreSingle, HasStepped, IsOneLine, IsStep, written}
use Rattle.line_engine.specs.declared.lines.Lines.{Lines}
use Rattle.line_engine.specs.declared.taking.Taken.{Taken}
use Rattle.line_engine.specs.declared.taking.Taken.TheVariants as T
use Rattle.relay_machine.specs.Machine.{Project, State, Step, accept, refuse, step_line, unless, unless_failure}
use Rattle.relay_machine.specs.Printed.{refusal_line}
use Rattle.relay_machine.specs.Refusals.{Refusal, variables}
use Rattle.plan_ir.specs.schema_tables.Types.{Text}
use Rattle.plan_ir.specs.schema_types.Environments.{Failure}
use Rattle.schema_values.specs.Failures.{Tells}
use Rattle.schema_values.specs.declared.fault.VarFault.{VarFault}
use Rattle.plan_ir.specs.store_model.Events.{Line}
use Rattle.plan_ir.specs.store_model.declared.entry.Entry.{Entry}

-- an answer of one text
pub one_text : (lines : Lines) (text : Text) (refused : Bool) → lines.texts.items ≡ text ∷ [] → lines.refused ≡ refused → IsOneLine text → AreLines (text ++ 10 ∷ []) refused lines
one_text lines text refused is same one = record {
  text = ap written is ∙ append-nil (text ++ 10 ∷ []);
  single = subst AreSingle (sym is) (one, tt);
  refused = same;
}

-- a refused line changes nothing
pub refusing : (k : Kept) (p : Project) (s : State) (n : ℕ) (why : Refusal) (lines : Lines) → StandsFor k p s → AreLines (refusal_line n why) true lines
    → IsStep p (refuse s n why) lines k
refusing k p s n why lines stands are = record { text = are.text; single = are.single; refused = are.refused; stands = stands }

pub accepting : (k : Kept) (p : Project) (s : State) (text : Text) (lines : Lines) → StandsFor k p s → AreLines text false lines → IsStep p (accept text s) lines k
accepting k p s text lines stands are = record { text = are.text; single = are.single; refused = are.refused; stands = stands }

-- values of variables are refused
pub failing : (k : Kept) (p : Project) (s : State) (n : ℕ) (found : Option Failure) (fault : VarFault) (lines : Lines) (last : Step) → StandsFor k p s → Tells found fault → IsRefusalOf n fault lines
    → IsStep p (unless_failure s n found last) lines k
failing k p s n found fault lines last stands tells told =
    let f : (f : Failure) × (found ≡ Some f) × AreLines (refusal_line n (variables f)) true lines = told found tells in
    subst (λ t. IsStep p t lines k) (sym (ap (λ o. unless_failure s n o last) f.1)) (refusing k p s n (variables f.0) lines stands f.2)

-- the same step, written otherwise
pub same_step : (k : Kept) (p : Project) (now other : Step) (lines : Lines) → other ≡ now → IsStep p now lines k → IsStep p other lines k
same_step k p now other lines e is = subst (λ t. IsStep p t lines k) (sym e) is

-- the same step, of another engine that keeps the same
pub same_kept : (k other : Kept) (p : Project) (step : Step) (lines : Lines) → other ≡ k → IsStep p step lines k → IsStep p step lines other
same_kept k other p step lines e is = subst (IsStep p step lines) (sym e) is

-- ---- calls that give lines

module _ {E : Type 0} (r : Result Lines E) where
  -- the call refuses the line
  pub on_refusal : (k : Kept) (n : ℕ) (why : Refusal) (step : Project → State → Step) → IfOk r (AreLines (refusal_line n why) true)
      → ((p : Project) (s : State) → StandsFor k p s → step p s ≡ refuse s n why) → IfOk r (λ lines. HasStepped k k lines step)
  on_refusal k n why step h e =
      IfOk-weaker r (AreLines (refusal_line n why) true) (λ lines. HasStepped k k lines step)
      (λ lines are p s stands. same_step k p (refuse s n why) (step p s) lines (e p s stands) (refusing k p s n why lines stands are)) h

  -- the call takes the step, written otherwise
  pub on_step : (old new : Kept) (step other : Project → State → Step) → IfOk r (λ lines. HasStepped old new lines step)
      → ((p : Project) (s : State) → StandsFor old p s → other p s ≡ step p s) → IfOk r (λ lines. HasStepped old new lines other)
  on_step old new step other h e =
      IfOk-weaker r (λ lines. HasStepped old new lines step) (λ lines. HasStepped old new lines other)
      (λ lines has p s stands. same_step new p (step p s) (other p s) lines (e p s stands) (has p s stands)) h

  -- values of variables are refused for this failure
  pub on_failure : (n : ℕ) (failure : Failure) → IfOk r (AreLines (refusal_line n (variables failure)) true)
      → IfOk r (λ lines. (found : Option Failure) → found ≡ Some failure → (f : Failure) × (found ≡ Some f) × AreLines (refusal_line n (variables f)) true lines)
  on_failure n failure h =
      IfOk-weaker r (AreLines (refusal_line n (variables failure)) true)
      (λ lines. (found : Option Failure) → found ≡ Some failure → (f : Failure) × (found ≡ Some f) × AreLines (refusal_line n (variables f)) true lines)
      (λ lines are found e. (failure, e, are)) h

  -- a line that gives no event is refused
  pub on_fault : (n : ℕ) (line : Line) (why : Refusal) → IfOk r (AreLines (refusal_line n why) true) → ((p : Project) (b : ℕ) (s : State) → step_line p b s n line ≡ refuse s n why)
      → IfOk r (λ lines. (l : Line) → l ≡ line → (k : Kept) → HasStepped k k lines (λ p s. step_line p k.buffer s n l))
  on_fault n line why h e =
      IfOk-weaker r (AreLines (refusal_line n why) true) (λ lines. (l : Line) → l ≡ line → (k : Kept) → HasStepped k k lines (λ p s. step_line p k.buffer s n l))
      (λ lines are l same k p s stands. same_step k p (refuse s n why) (step_line p k.buffer s n l) lines (ap (step_line p k.buffer s n) same ∙ e p k.buffer s) (refusing k p s n why lines stands are)) h

-- ---- what an event gives

module _ (k : Kept) (step : Project → State → (Entry → Step) → Step) (taken : Taken)
    (gives : (p : Project) (s : State) → StandsFor k p s → (take : Entry → Step) → Gives k p (step p s take) take taken) where
  -- it is refused
  pub is_refused : (take : State → Entry → Step) (lines : Lines) → taken ≡ T.Refused lines → HasStepped k k lines (λ p s. step p s (take s))
  is_refused take lines is p s stands = subst (Gives k p (step p s (take s)) (take s)) is (gives p s stands (take s))

  -- the step is what is made of the entry
  pub is_entry : (take : State → Entry → Step) (e : Entry) → taken ≡ T.Entry e → (p : Project) (s : State) → StandsFor k p s → step p s (take s) ≡ take s e
  is_entry take e is p s stands = subst (Gives k p (step p s (take s)) (take s)) is (gives p s stands (take s))

-- ---- the first refusal

pub unless-true : (s : State) (n : ℕ) (b : Bool) (why : Refusal) (step : Step) → b ≡ true → unless s n b why step ≡ refuse s n why
unless-true s n b why step h = ap (λ c. unless s n c why step) h

pub unless-false : (s : State) (n : ℕ) (b : Bool) (why : Refusal) (step : Step) → b ≡ false → unless s n b why step ≡ step
unless-false s n b why step h = ap (λ c. unless s n c why step) h
