use Rattle.std.proofs.Common.{codes, ap, ◌∙◌}
use Rattle.store_model.specs.store_record.declared.field.Field.TheVariants.{Links}
use Rattle.store_model.specs.Merge.{copied_over, with_counter}
use Rattle.store_model.specs.Records.{with_field}
use Rattle.store_conn.proofs.made.with_list.Goals as goal
use Rattle.store_conn.specs.Connections.{kept_of}

pub returns : goal.returns
returns c = λ new is.
    let kept = kept_of c.args.connection.now in
    let fields = c.in_ok-row.ensures ∙ ap (λ fs. copied_over fs c.get.result.now) c.as_slice.ensures.items ∙ ap (copied_over c.args.server.now.fields) c.get.ensures in
    c.in_ok-counted.ensures kept new is
    ∙ ap (with_counter kept.next new) (c.in_ok-put_field.ensures ∙ ap (with_field (codes "edges") (Links c.args.list)) fields)
