-- A field without a set, a connection, and any other field.
use Rattle.plan_expand.proofs.AdditionSteps.{additions_none, record_only, with_connection}
use Rattle.plan_expand.proofs.additions.put_additions.Goals as goal

pub returns-then-is_empty : goal.returns-then-is_empty
returns-then-is_empty c =
    additions_none c.args.adding.now.schema.now c.args.is_connection c.args.of.now c.args.selections.now c.args.place c.is_empty.result c.args.nodes.now c.is_empty.ensures c.if-is_empty.true

pub returns-then-is_connection : goal.returns-then-is_connection
returns-then-is_connection c =
    with_connection c.args.adding.now.schema.now c.args.is_connection c.args.of.now c.args.selections.now c.args.place c.is_empty.result c.args.nodes.now _ _ c.is_empty.ensures c.if-is_empty.false
    c.if-is_connection.true c.in_ok-put_connection.ensures c.in_ok-put_record.ensures

pub returns : goal.returns
returns c =
    record_only c.args.adding.now.schema.now c.args.is_connection c.args.of.now c.args.selections.now c.args.place c.is_empty.result c.args.nodes.now _ c.is_empty.ensures c.if-is_empty.false
    c.if-is_connection.false c.in_ok-put_record-2.ensures
