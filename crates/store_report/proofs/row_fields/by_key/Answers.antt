-- A list that is moved has the same members.
use Rattle.std.proofs.Common.{rules, sym, subst}
use Rattle.std.proofs.lemmas.Result.{IfOk-weaker}
use Rattle.std.specs.Map.{keys_of}
use Rattle.gql_order.specs.gql_plain.Order.{AreInOrder}
use Rattle.store_report.proofs.RowMembers.{same_moved}
use Rattle.store_report.proofs.SameMembers.{same_trans}
use Rattle.store_report.proofs.row_fields.by_key.Goals as goal
use Rattle.store_report.specs.ObjectRows.{HoldSame}
use Rattle.store_report.specs.RowFields.{entries_of}

pub returns-then-moved-clause-same : goal.returns-then-moved-clause-same
returns-then-moved-clause-same c =
    let given = c.args.fields.items in
    let moved = c.in_ok-moved.moved.items.items in
    subst (λ es. HoldSame es given) (sym c.from_entries-then-moved.ensures) (same_moved given moved c.in_ok-moved.ensures.moved)

pub returns-then-moved-clause-order : goal.returns-then-moved-clause-order
returns-then-moved-clause-order c =
    subst (λ es. AreInOrder (keys_of es)) (sym c.from_entries-then-moved.ensures)
    (c.in_ok-moved.ensures.rising (search rules) (λ field. field.0) (λ x text called. search rules))

pub returns-clause-same : goal.returns-clause-same
returns-clause-same c =
    let given = c.args.fields.items in
    let moved = c.in_ok-moved.moved.items.items in
    IfOk-weaker c.settled.result (λ ordered. HoldSame (entries_of ordered) moved) (λ ordered. HoldSame (entries_of ordered) given)
    (λ ordered same. same_trans (entries_of ordered) moved given same (same_moved given moved c.in_ok-moved.ensures.moved)) c.settled.ensures.same
