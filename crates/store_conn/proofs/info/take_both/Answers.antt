use Rattle.std.proofs.Common.{ap, ◌∙◌}
use Rattle.store_model.specs.Merge.{take_field}
use Rattle.store_conn.proofs.info.take_both.Goals as goal

pub returns : goal.returns
returns c =
    let server = c.args.server.now in
    c.in_ok-take_field-2.ensures ∙ ap (take_field c.args.other.now server) (c.in_ok-take_field.ensures ∙ ap (take_field c.args.key.now server) c.in_ok-taken.ensures)
