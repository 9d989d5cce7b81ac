use Rattle.std.proofs.Common.{◌≤◌, ◌-◌, ◌^◌, pos, codes, ap, ◌∙◌, arith}
use Rattle.store_model.specs.gql_plain.declared.plain.Plain.TheVariants.{Int}
use Rattle.store_model.specs.store_record.declared.field.Field.TheVariants.{Leaf, Links}
use Rattle.store_model.specs.Merge.{next_edge}
use Rattle.store_model.specs.Records.{with_field}
use Rattle.store_conn.proofs.edit.row_with.Goals as goal

pub returns : goal.returns
returns c =
    let small : c.next_edge.result ≤ 2 ^ 63 - 1 = omega (arith, c.next_edge.ensures) in
    c.in_ok-put_counter.ensures small
    ∙ ap (λ n. with_field (codes "__next") (Leaf (Int (pos n))) c.put_field.new.row) c.next_edge.ensures
    ∙ ap (with_field (codes "__next") (Leaf (Int (pos (next_edge c.args.connection.now.next)))))
    (c.in_ok-put_field.ensures ∙ ap (with_field (codes "edges") (Links c.args.list)) (c.in_ok-row.ensures ∙ c.get.ensures))
