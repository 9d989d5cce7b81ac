-- A row is put to the one that is begun, or that one is done.
use Rattle.std.proofs.Common.{◌≡◌, false, [], ◌∷◌, ◌++◌, map, Some, bytes_eq, rules, sym, subst}
use Rattle.std.proofs.lemmas.Result.{err_from_is_err_and}
use Rattle.store_model.specs.FactRows.{facts_of, facts_of_row}
use Rattle.store_report.proofs.JoinOrder.{first_order, next_order}
use Rattle.store_report.proofs.JoinSteps.{done_clash, first_same, next_same, put_clash, put_same}
use Rattle.store_report.proofs.joining.take.Goals as goal
use Rattle.store_report.specs.Joining.{begun_facts, row_id}
use Rattle.store_report.specs.ObjectRows.{HoldSame, IsUnjoined}
use Rattle.store_report.specs.declared.object_row.BegunRow.{BegunRow}

pub returns-then-eq-clause-facts : goal.returns-then-eq-clause-facts
returns-then-eq-clause-facts c =
    put_same c.args.whole.now.items c.args.begun.now c.in-Some.before c.put.new.before c.args.row c.in-Some.is c.in_ok-put-in-Some.ensures.facts

pub returns-in_err-put-in-Some-clause-clash : goal.returns-in_err-put-in-Some-clause-clash
returns-in_err-put-in-Some-clause-clash c =
    let e = err_from_is_err_and c.from_residual.result c.from_residual.ensures.1 in
    rw (e.1, e.2) (put_clash c.args.whole.now.items c.args.begun.now c.in-Some.before c.args.row c.in_err-put-in-Some.field-0.0 c.in-Some.is c.in_err-put-in-Some.ensures.clash)

pub returns-in_err-close-in-Some-clause-clash : goal.returns-in_err-close-in-Some-clause-clash
returns-in_err-close-in-Some-clause-clash c =
    let e = err_from_is_err_and c.from_residual-in_err-close-in-Some.result c.from_residual-in_err-close-in-Some.ensures.1 in
    let cause = c.in_err-close-in-Some.field-0.0 in
    let clash : IsUnjoined (begun_facts (Some c.in-Some.before)) cause
    = subst (λ b. IsUnjoined (begun_facts (Some b)) cause) c.replace-done.ensures.value c.in_err-close-in-Some.ensures.clash in
    rw (e.1, e.2) (done_clash c.args.whole.now.items c.args.begun.now c.in-Some.before c.args.row cause c.in-Some.is clash)

pub returns-in_ok-close-in-Some-clause-order : goal.returns-in_ok-close-in-Some-clause-order
returns-in_ok-close-in-Some-clause-order c =
    let whole = c.args.whole.now.items in
    let more = c.close.new.whole.items in
    let done = c.in-Some.before in
    let next = c.replace-done.new.dest in
    let differ : bytes_eq done.id c.args.row.id ≡ false = search rules in
    let ids : map row_id more ≡ map row_id whole ++ done.id ∷ []
    = subst (λ (b : BegunRow). map row_id more ≡ map row_id whole ++ b.id ∷ []) c.replace-done.ensures.value c.in_ok-close-in-Some.ensures.ids in
    let same : next.id ≡ c.args.row.id = subst (λ (b : BegunRow). b.id ≡ c.args.row.id) (sym c.replace-done.ensures.after) c.in_ok-next-in-Some.ensures.id in
    next_order whole more c.args.begun.now done next c.args.row.id c.in-Some.is c.requires.order differ ids same

pub returns-in_ok-first-in-None-clause-order : goal.returns-in_ok-first-in-None-clause-order
returns-in_ok-first-in-None-clause-order c =
    first_order c.args.whole.now.items c.args.begun.now c.in_ok-first-in-None.first c.args.row.id c.in-None.is c.requires.order c.in_ok-first-in-None.ensures.id

pub returns-in_ok-close-in-Some-clause-facts : goal.returns-in_ok-close-in-Some-clause-facts
returns-in_ok-close-in-Some-clause-facts c =
    let done = c.in-Some.before in
    let closed : HoldSame (facts_of c.close.new.whole.items) (facts_of c.args.whole.now.items ++ begun_facts (Some done))
    = subst (λ b. HoldSame (facts_of c.close.new.whole.items) (facts_of c.args.whole.now.items ++ begun_facts (Some b))) c.replace-done.ensures.value c.in_ok-close-in-Some.ensures.facts in
    let begun : HoldSame (begun_facts (Some c.replace-done.new.dest)) (facts_of_row c.args.row)
    = subst (λ b. HoldSame (begun_facts (Some b)) (facts_of_row c.args.row)) (sym c.replace-done.ensures.after) c.in_ok-next-in-Some.ensures.facts in
    next_same c.args.whole.now.items c.close.new.whole.items c.args.begun.now done c.replace-done.new.dest c.args.row c.in-Some.is closed begun

pub returns-in_ok-first-in-None-clause-facts : goal.returns-in_ok-first-in-None-clause-facts
returns-in_ok-first-in-None-clause-facts c =
    first_same c.args.whole.now.items c.args.begun.now c.in_ok-first-in-None.first c.args.row c.in-None.is c.in_ok-first-in-None.ensures.facts
