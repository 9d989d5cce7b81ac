use Rattle.std.proofs.Common.{option_map, option_and_then, ap, ◌∙◌}
use Rattle.store_model.specs.Merge.{below, kept_connection}
use Rattle.store_model.specs.Records.{live}
use Rattle.store_conn.proofs.edit.connection_of.Goals as goal

pub returns-clause-found : goal.returns-clause-found
returns-clause-found g c =
    let m = g.S.RecordSource.records c.args.source.now in
    let key = c.as_str-2.ensures ∙ c.in_ok-key.ensures in
    let parent = c.live-parent.ensures.found ∙ ap (λ id. live id m) c.as_str.ensures in
    c.in_ok-found.ensures.found ∙ (λ i. option_map kept_connection (option_and_then (λ row. below (key i) row m) (parent i)))
