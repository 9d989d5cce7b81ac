-- The last steps decide where those before them are equal; the longer path is greater where it goes on from the other.
use Rattle.std.proofs.Common.{◌≡◌, ◌≤◌, ◌+◌, [], ◌∷◌, ◌++◌, length, Less, Greater, ap, sym, subst, ◌∙◌, arith}
use Rattle.std.specs.Ordering.{ordering_then}
use Rattle.store_model.specs.Verdicts.{path_cmp, step_cmp}
use Rattle.store_report.proofs.LastSteps.{both_longer, first_longer, second_longer, some_none, length_push, unequal_then}
use Rattle.store_report.proofs.path.Path.+compare.Goals as goal
use Rattle.store_report.specs.Paths.{steps_to, IsCounted}
use Rattle.store_report.specs.Steps.{step_of}
use Rattle.store_report.specs.declared.path.Reached.{Reached}

pub returns-in-Some-None : goal.returns-in-Some-None
returns-in-Some-None t c =
    let one = c.in-Some-None.field-0-0.value in
    sym (some_none step_cmp one.before (step_of one.step))
    ∙ (λ i. path_cmp (steps_to (sym c.in-Some-None.is-0 i)) (steps_to (sym c.in-Some-None.is-1 i)))
    ∙ (λ i. path_cmp (c.self.view_is i) (c.other.view_is i))

pub returns-then-deref : goal.returns-then-deref
returns-then-deref t c =
    let one = c.in-Some-Some.one.value in
    let two = c.in-Some-Some.two.value in
    let first : one.before ++ step_of one.step ∷ [] ≡ c.args.self.now = ap (λ l. steps_to l) (sym c.in-Some-Some.is-0) ∙ c.self.view_is in
    let second : two.before ++ step_of two.step ∷ [] ≡ c.args.other.now = ap (λ l. steps_to l) (sym c.in-Some-Some.is-1) ∙ c.other.view_is in
    let one_counted : one.len ≡ length one.before + 1 = subst (λ l. IsCounted l) c.in-Some-Some.is-0 c.self.invariant in
    let two_counted : two.len ≡ length two.before + 1 = subst (λ l. IsCounted l) c.in-Some-Some.is-1 c.other.invariant in
    let one_len = ap (λ (r : Reached). r.len) c.deref.ensures in
    let two_len = ap (λ (r : Reached). r.len) c.deref-in-Some-Some.ensures in
    let other_len : length c.args.other.now ≡ length two.before + 1 = sym (ap length second) ∙ length_push two.before (step_of two.step) in
    let le : length c.args.other.now ≤ length one.before = omega (arith, one_counted, two_counted, one_len, two_len, other_len, c.if-deref.true) in
    c.then.ensures
    ∙ ap (λ r. ordering_then r Greater) (c.compare.ensures ∙ ap (λ (r : Reached). path_cmp r.before c.args.other.now) c.deref-then-deref.ensures)
    ∙ sym (first_longer step_cmp one.before c.args.other.now (step_of one.step) le)
    ∙ ap (λ steps. path_cmp steps c.args.other.now) first

pub returns-then-deref-2 : goal.returns-then-deref-2
returns-then-deref-2 t c =
    let one = c.in-Some-Some.one.value in
    let two = c.in-Some-Some.two.value in
    let first : one.before ++ step_of one.step ∷ [] ≡ c.args.self.now = ap (λ l. steps_to l) (sym c.in-Some-Some.is-0) ∙ c.self.view_is in
    let second : two.before ++ step_of two.step ∷ [] ≡ c.args.other.now = ap (λ l. steps_to l) (sym c.in-Some-Some.is-1) ∙ c.other.view_is in
    let one_counted : one.len ≡ length one.before + 1 = subst (λ l. IsCounted l) c.in-Some-Some.is-0 c.self.invariant in
    let two_counted : two.len ≡ length two.before + 1 = subst (λ l. IsCounted l) c.in-Some-Some.is-1 c.other.invariant in
    let one_len = ap (λ (r : Reached). r.len) c.deref-else-deref.ensures in
    let two_len = ap (λ (r : Reached). r.len) c.deref-else-deref-2.ensures in
    let self_len : length c.args.self.now ≡ length one.before + 1 = sym (ap length first) ∙ length_push one.before (step_of one.step) in
    let le : length c.args.self.now ≤ length two.before = omega (arith, one_counted, two_counted, one_len, two_len, self_len, c.if-deref-2.true) in
    c.then-then-deref-2.ensures
    ∙ ap (λ r. ordering_then r Less) (c.compare-then-deref-2.ensures ∙ ap (λ (r : Reached). path_cmp c.args.self.now r.before) c.deref-then-deref-2.ensures)
    ∙ sym (second_longer step_cmp c.args.self.now two.before (step_of two.step) le)
    ∙ ap (λ steps. path_cmp c.args.self.now steps) second

pub returns-in-Equal : goal.returns-in-Equal
returns-in-Equal t c =
    let one = c.in-Some-Some.one.value in
    let two = c.in-Some-Some.two.value in
    let first : one.before ++ step_of one.step ∷ [] ≡ c.args.self.now = ap (λ l. steps_to l) (sym c.in-Some-Some.is-0) ∙ c.self.view_is in
    let second : two.before ++ step_of two.step ∷ [] ≡ c.args.other.now = ap (λ l. steps_to l) (sym c.in-Some-Some.is-1) ∙ c.other.view_is in
    let one_counted : one.len ≡ length one.before + 1 = subst (λ l. IsCounted l) c.in-Some-Some.is-0 c.self.invariant in
    let two_counted : two.len ≡ length two.before + 1 = subst (λ l. IsCounted l) c.in-Some-Some.is-1 c.other.invariant in
    let one_len = ap (λ (r : Reached). r.len) c.deref.ensures in
    let two_len = ap (λ (r : Reached). r.len) c.deref-in-Some-Some.ensures in
    let one_again = ap (λ (r : Reached). r.len) c.deref-else-deref.ensures in
    let two_again = ap (λ (r : Reached). r.len) c.deref-else-deref-2.ensures in
    let same : length one.before ≡ length two.before = omega (arith, one_counted, two_counted, one_len, two_len, one_again, two_again, c.if-deref.false, c.if-deref-2.false) in
    let before : c.compare-else-deref-2.result ≡ path_cmp one.before two.before
    = c.compare-else-deref-2.ensures ∙ (λ i. path_cmp (c.deref-else-deref-2-2.ensures i).before (c.deref-else-deref-2-3.ensures i).before) in
    c.compare_steps.ensures
    ∙ (λ i. step_cmp (step_of (c.deref-in-Equal.ensures i).step) (step_of (c.deref-in-Equal-2.ensures i).step))
    ∙ ap (λ r. ordering_then r (step_cmp (step_of one.step) (step_of two.step))) (sym c.in-Equal.is ∙ before)
    ∙ sym (both_longer step_cmp one.before two.before (step_of one.step) (step_of two.step) same)
    ∙ (λ i. path_cmp (first i) (second i))

pub returns-in_default : goal.returns-in_default
returns-in_default t c =
    let one = c.in-Some-Some.one.value in
    let two = c.in-Some-Some.two.value in
    let first : one.before ++ step_of one.step ∷ [] ≡ c.args.self.now = ap (λ l. steps_to l) (sym c.in-Some-Some.is-0) ∙ c.self.view_is in
    let second : two.before ++ step_of two.step ∷ [] ≡ c.args.other.now = ap (λ l. steps_to l) (sym c.in-Some-Some.is-1) ∙ c.other.view_is in
    let one_counted : one.len ≡ length one.before + 1 = subst (λ l. IsCounted l) c.in-Some-Some.is-0 c.self.invariant in
    let two_counted : two.len ≡ length two.before + 1 = subst (λ l. IsCounted l) c.in-Some-Some.is-1 c.other.invariant in
    let one_len = ap (λ (r : Reached). r.len) c.deref.ensures in
    let two_len = ap (λ (r : Reached). r.len) c.deref-in-Some-Some.ensures in
    let one_again = ap (λ (r : Reached). r.len) c.deref-else-deref.ensures in
    let two_again = ap (λ (r : Reached). r.len) c.deref-else-deref-2.ensures in
    let same : length one.before ≡ length two.before = omega (arith, one_counted, two_counted, one_len, two_len, one_again, two_again, c.if-deref.false, c.if-deref-2.false) in
    let before : c.compare-else-deref-2.result ≡ path_cmp one.before two.before
    = c.compare-else-deref-2.ensures ∙ (λ i. path_cmp (c.deref-else-deref-2-2.ensures i).before (c.deref-else-deref-2-3.ensures i).before) in
    before
    ∙ unequal_then (path_cmp one.before two.before) (step_cmp (step_of one.step) (step_of two.step)) (λ e. c.in_default.not-Equal (before ∙ e))
    ∙ sym (both_longer step_cmp one.before two.before (step_of one.step) (step_of two.step) same)
    ∙ (λ i. path_cmp (first i) (second i))
