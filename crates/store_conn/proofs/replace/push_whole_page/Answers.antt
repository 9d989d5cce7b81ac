use Rattle.std.proofs.Common.{codes, ap, ◌∙◌}
use Rattle.store_model.specs.store_record.declared.field.Field.TheVariants.{Link}
use Rattle.store_model.specs.Merge.{info_id}
use Rattle.store_model.specs.Records.{with_field}
use Rattle.store_conn.proofs.Looks.{page_more}
use Rattle.store_conn.proofs.Merges.{page_put}
use Rattle.store_conn.proofs.replace.push_whole_page.Goals as goal
use Rattle.store_conn.specs.Connections.{kept_of, with_list}

pub returns-clause-records : goal.returns-clause-records
returns-clause-records c = λ new onto is.
    let kept = kept_of c.args.connection.now in
    let right = c.in_ok-put_field.ensures ∙ ap (λ id. with_field (codes "pageInfo") (Link id) c.in_ok-row.row) c.in_ok-info.ensures
    ∙ ap (with_field (codes "pageInfo") (Link (info_id kept.id))) (c.in_ok-row.ensures new is) in
    page_put kept new c.args.page.made is _ _ c.args.changes.now.items _ onto right c.in_ok-push_connection.ensures

pub returns-clause-few : goal.returns-clause-few
returns-clause-few c = page_more _ _ _ _ c.in_ok-push_connection.ensures
