use Rattle.std.proofs.Common.{◌≡◌, codes, map, ap, ◌∙◌}
use Rattle.plan_ir.specs.gql_plain.Tree.{truth, text, list, trees_of}
use Rattle.plan_ir.specs.ReaderMeaning.{plan_reads}
use Rattle.relay_lines.proofs.LineLaws.{begun, more, read_shown}
use Rattle.relay_lines.proofs.lines.line_of_read.Goals as goal
use Rattle.relay_machine.specs.Printed.{number}
use Rattle.plan_ir.specs.store_model.Walks.{Reading, reading, type_of_record}
use Rattle.store_show.specs.store_read.Reading.{slots}

pub returns-clause-line : goal.returns-clause-line
returns-clause-line g c =
    let met : Reading = reading (plan_reads (type_of_record c.args.env.now.root) c.args.owner.now (slots (g.S.RecordSource.records c.args.source.now)) c.args.env.now.values c.args.plan.now.steps c.args.types.now c.args.id.now) in
    let t0 = begun c.in_ok-line.ensures in
    let t1 = more (codes "data") met.value t0 c.in_ok-met.ensures.shown in
    let t2 = more (codes "missing") (truth c.in_ok-met.met.missing) t1 c.in_ok-put_truth.ensures in
    let t3 = more (codes "n") (number c.args.n) t2 c.in_ok-put_number.ensures in
    let t4 = more (codes "ok") (text (codes "read")) t3 c.in_ok-put_text.ensures in
    let t5 = more (codes "seen") (list (trees_of (map (λ t. text t.now) c.deref.result.now))) t4 c.in_ok-put_borrowed.ensures in
    let seen : map (λ t. t.now) c.deref.result.now ≡ met.seen = ap (λ ids. map (λ id. id.now) ids) c.deref.ensures.value ∙ c.in_ok-met.ensures.seen in
    read_shown c.finish.result c.args.n met c.deref.result.now c.in_ok-met.ensures.missing seen t5 c.finish.ensures
