-- Rows are taken one after another; the last one that is begun is done at the end.
use Rattle.std.proofs.Common.{◌≡◌, List, [], ◌∷◌, Some, None, sym, subst, ◌∙◌}
use Rattle.std.proofs.lemmas.Result.{err_from_is_err_and}
use Rattle.store_model.specs.declared.facts.FactRow.{FactRow}
use Rattle.store_report.proofs.JoinOrder.{placed_below, placed_last, placed_none}
use Rattle.store_report.proofs.JoinSteps.{Merging, are_rows, fields_rise, last_clash, merged_last, merged_none, merging_clash, merging_gone, merging_next, merging_start}
use Rattle.store_report.proofs.RowLoop.{no_items}
use Rattle.store_report.proofs.joining.merged.Goals as goal
use Rattle.store_report.specs.Joining.{IsBegunApart}

pub rows-init : goal.rows-init
rows-init c =
    merging_start c.args.rows.items c.new-whole.result.items c.into_iter-row-iterator.result.rest.items c.new-whole.ensures.items c.into_iter-row-iterator.ensures.into_iter_gives.0 c.requires.whole c.requires.order

pub take-requires-clause-rows : goal.take-requires-clause-rows
take-requires-clause-rows c = c.rows.invariant.whole_rows

pub take-requires-clause-row : goal.take-requires-clause-row
take-requires-clause-row c =
    let all = c.args.rows.items in
    let m : Merging all c.rows.whole.items c.rows.begun (c.in-Some.row ∷ c.next.new.self.rest.items)
    = subst (λ (rs : List FactRow). Merging all c.rows.whole.items c.rows.begun rs) c.in-Some.ensures.steps.0 c.rows.invariant in
    m.left.0

pub take-requires-clause-apart : goal.take-requires-clause-apart
take-requires-clause-apart c = c.rows.invariant.apart

pub take-requires-clause-order : goal.take-requires-clause-order
take-requires-clause-order c =
    let all = c.args.rows.items in
    let rest = c.next.new.self.rest.items in
    let m : Merging all c.rows.whole.items c.rows.begun (c.in-Some.row ∷ rest)
    = subst (λ (rs : List FactRow). Merging all c.rows.whole.items c.rows.begun rs) c.in-Some.ensures.steps.0 c.rows.invariant in
    placed_below c.rows.whole.items c.rows.begun c.in-Some.row rest m.placed

pub returns-in_err-take-clause-clash : goal.returns-in_err-take-clause-clash
returns-in_err-take-clause-clash c =
    let all = c.args.rows.items in
    let rest = c.next.new.self.rest.items in
    let m : Merging all c.rows.whole.items c.rows.begun (c.in-Some.row ∷ rest)
    = subst (λ (rs : List FactRow). Merging all c.rows.whole.items c.rows.begun rs) c.in-Some.ensures.steps.0 c.rows.invariant in
    let e = err_from_is_err_and c.from_residual.result c.from_residual.ensures.1 in
    rw (e.1, e.2) (merging_clash all c.rows.whole.items c.rows.begun c.in-Some.row rest c.in_err-take.field-0.0 m c.in_err-take.ensures.clash)

pub rows-preserved : goal.rows-preserved
rows-preserved c =
    let all = c.args.rows.items in
    let rest = c.next.new.self.rest.items in
    let m : Merging all c.rows.whole.items c.rows.begun (c.in-Some.row ∷ rest)
    = subst (λ (rs : List FactRow). Merging all c.rows.whole.items c.rows.begun rs) c.in-Some.ensures.steps.0 c.rows.invariant in
    merging_next all c.rows.whole.items c.take.new.whole.items c.rows.begun c.take.new.begun c.in-Some.row rest m c.in_ok-take.ensures.rows c.in_ok-take.ensures.apart c.in_ok-take.ensures.order c.in_ok-take.ensures.facts

pub close-requires-clause-rows : goal.close-requires-clause-rows
close-requires-clause-rows c = c.rows.invariant.whole_rows

pub close-requires-clause-apart : goal.close-requires-clause-apart
close-requires-clause-apart c = subst IsBegunApart c.in-Some-begun.is c.rows.invariant.apart

pub returns-in_err-close-in-Some-begun-clause-clash : goal.returns-in_err-close-in-Some-begun-clause-clash
returns-in_err-close-in-Some-begun-clause-clash c =
    let all = c.args.rows.items in
    let left = c.rows.row-iterator.rest in
    let last = c.in-Some-begun.row in
    let gone : left.items ≡ [] = no_items left.items (sym left.ok.0 ∙ c.in-None.ensures.steps.0) in
    let m : Merging all c.rows.whole.items (Some last) [] = merging_gone all c.rows.whole.items c.rows.begun (Some last) left.items gone c.in-Some-begun.is c.rows.invariant in
    let e = err_from_is_err_and c.from_residual-in_err-close-in-Some-begun.result c.from_residual-in_err-close-in-Some-begun.ensures.1 in
    rw (e.1, e.2) (last_clash all c.rows.whole.items last c.in_err-close-in-Some-begun.field-0.0 m c.in_err-close-in-Some-begun.ensures.clash)

pub returns-in_ok-close-in-Some-begun-clause-rows : goal.returns-in_ok-close-in-Some-begun-clause-rows
returns-in_ok-close-in-Some-begun-clause-rows c =
    let all = c.args.rows.items in
    let left = c.rows.row-iterator.rest in
    let last = c.in-Some-begun.row in
    let more = c.close.new.whole.items in
    let gone : left.items ≡ [] = no_items left.items (sym left.ok.0 ∙ c.in-None.ensures.steps.0) in
    let m : Merging all c.rows.whole.items (Some last) [] = merging_gone all c.rows.whole.items c.rows.begun (Some last) left.items gone c.in-Some-begun.is c.rows.invariant in
    are_rows more (placed_last c.rows.whole.items more last m.placed c.in_ok-close-in-Some-begun.ensures.ids) c.in_ok-close-in-Some-begun.ensures.rows

pub returns-in_ok-close-in-Some-begun-clause-fields : goal.returns-in_ok-close-in-Some-begun-clause-fields
returns-in_ok-close-in-Some-begun-clause-fields c = fields_rise c.close.new.whole.items c.in_ok-close-in-Some-begun.ensures.rows

pub returns-in_ok-close-in-Some-begun-clause-same : goal.returns-in_ok-close-in-Some-begun-clause-same
returns-in_ok-close-in-Some-begun-clause-same c =
    let all = c.args.rows.items in
    let left = c.rows.row-iterator.rest in
    let last = c.in-Some-begun.row in
    let gone : left.items ≡ [] = no_items left.items (sym left.ok.0 ∙ c.in-None.ensures.steps.0) in
    let m : Merging all c.rows.whole.items (Some last) [] = merging_gone all c.rows.whole.items c.rows.begun (Some last) left.items gone c.in-Some-begun.is c.rows.invariant in
    merged_last all c.rows.whole.items c.close.new.whole.items last m c.in_ok-close-in-Some-begun.ensures.facts

pub returns-in-None-begun-clause-rows : goal.returns-in-None-begun-clause-rows
returns-in-None-begun-clause-rows c =
    let all = c.args.rows.items in
    let left = c.rows.row-iterator.rest in
    let gone : left.items ≡ [] = no_items left.items (sym left.ok.0 ∙ c.in-None.ensures.steps.0) in
    let m : Merging all c.rows.whole.items None [] = merging_gone all c.rows.whole.items c.rows.begun None left.items gone c.in-None-begun.is c.rows.invariant in
    are_rows c.rows.whole.items (placed_none c.rows.whole.items m.placed) c.rows.invariant.whole_rows

pub returns-in-None-begun-clause-fields : goal.returns-in-None-begun-clause-fields
returns-in-None-begun-clause-fields c = fields_rise c.rows.whole.items c.rows.invariant.whole_rows

pub returns-in-None-begun-clause-same : goal.returns-in-None-begun-clause-same
returns-in-None-begun-clause-same c =
    let all = c.args.rows.items in
    let left = c.rows.row-iterator.rest in
    let gone : left.items ≡ [] = no_items left.items (sym left.ok.0 ∙ c.in-None.ensures.steps.0) in
    let m : Merging all c.rows.whole.items None [] = merging_gone all c.rows.whole.items c.rows.begun None left.items gone c.in-None-begun.is c.rows.invariant in
    merged_none all c.rows.whole.items m
