use Rattle.std.proofs.Common.{◌∙◌}
use Rattle.store_conn.proofs.Steps.{fields_next}
use Rattle.store_conn.proofs.connection.copied_over.Goals as goal

pub fields-preserved : goal.fields-preserved
fields-preserved c =
    fields_next c.args.fields.now c.fields.field-index c.field-item.result c.fields.copy _ c.fields-test.true c.field-item.is c.in_ok-put_unless_own.ensures ∙ c.fields.invariant
