-- Rows that do not rise are put in order, and joined.
use Rattle.std.proofs.Common.{subst}
use Rattle.std.proofs.lemmas.Result.{IfErr-weaker, IfOk-weaker}
use Rattle.std.specs.List.Sorted.{IsStrictlySortedBy}
use Rattle.store_model.specs.FactOrder.{text_cmp}
use Rattle.store_model.specs.FactRows.{facts_of}
use Rattle.store_model.specs.declared.facts.FactRow.{FactRow}
use Rattle.store_report.proofs.ClashSteps.{unjoined_more}
use Rattle.store_report.proofs.JoinSteps.{are_rows, fields_rise}
use Rattle.store_report.proofs.RowMembers.{each_same, same_facts}
use Rattle.store_report.proofs.SameMembers.{same_trans}
use Rattle.store_report.proofs.joining.joined.Goals as goal
use Rattle.store_report.specs.ObjectRows.{HoldSame, IsUnjoined, IsWhole}

pub returns-then-do_rise-2-clause-rows : goal.returns-then-do_rise-2-clause-rows
returns-then-do_rise-2-clause-rows c =
    are_rows c.in_ok-sorted.sorted.items
    (subst (IsStrictlySortedBy (λ (a b : FactRow). text_cmp a.id b.id)) c.deref-2.ensures.value (c.do_rise-2.ensures c.if-do_rise-2.true))
    (each_same IsWhole c.in_ok-sorted.sorted.items c.args.rows.items c.in_ok-sorted.ensures.same c.requires)

pub returns-then-do_rise-2-clause-fields : goal.returns-then-do_rise-2-clause-fields
returns-then-do_rise-2-clause-fields c = fields_rise c.in_ok-sorted.sorted.items (each_same IsWhole c.in_ok-sorted.sorted.items c.args.rows.items c.in_ok-sorted.ensures.same c.requires)

pub returns-then-do_rise-2-clause-same : goal.returns-then-do_rise-2-clause-same
returns-then-do_rise-2-clause-same c = same_facts c.in_ok-sorted.sorted.items c.args.rows.items c.in_ok-sorted.ensures.same

pub merged-requires-clause-whole : goal.merged-requires-clause-whole
merged-requires-clause-whole c = each_same IsWhole c.in_ok-sorted.sorted.items c.args.rows.items c.in_ok-sorted.ensures.same c.requires

pub returns-clause-same : goal.returns-clause-same
returns-clause-same c =
    let given = c.args.rows.items in
    let sorted = c.in_ok-sorted.sorted.items in
    let same : HoldSame (facts_of sorted) (facts_of given) = same_facts sorted given c.in_ok-sorted.ensures.same in
    IfOk-weaker c.merged.result (λ whole. HoldSame (facts_of whole.items) (facts_of sorted)) (λ whole. HoldSame (facts_of whole.items) (facts_of given))
    (λ whole h. same_trans (facts_of whole.items) (facts_of sorted) (facts_of given) h same) c.merged.ensures.same

pub returns-clause-clash : goal.returns-clause-clash
returns-clause-clash c =
    let given = c.args.rows.items in
    let sorted = c.in_ok-sorted.sorted.items in
    let same : HoldSame (facts_of sorted) (facts_of given) = same_facts sorted given c.in_ok-sorted.ensures.same in
    IfErr-weaker c.merged.result (IsUnjoined (facts_of sorted)) (IsUnjoined (facts_of given)) (unjoined_more (facts_of sorted) (facts_of given) (λ f. (same f).0)) c.merged.ensures.clash
