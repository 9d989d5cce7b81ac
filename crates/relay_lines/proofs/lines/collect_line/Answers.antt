use Rattle.std.proofs.Common.{codes, [], ◌∷◌, false, refl}
use Rattle.plan_ir.specs.gql_plain.Tree.{truth, text}
use Rattle.relay_lines.proofs.LineLaws.{begun, more, printed}
use Rattle.relay_lines.proofs.lines.collect_line.Goals as goal
use Rattle.relay_machine.specs.Printed.{number}

pub returns : goal.returns
returns c =
    let t0 = begun c.in_ok-line.ensures in
    let t1 = more (codes "dropped") (number c.args.dropped) t0 c.in_ok-put_number.ensures in
    let t2 = more (codes "n") (number c.args.n) t1 c.in_ok-put_number-2.ensures in
    let t3 = more (codes "ok") (text (codes "collect")) t2 c.in_ok-put_text.ensures in
    let t4 = more (codes "waiting") (truth false) t3 c.in_ok-put_truth.ensures in
    printed
    ((codes "dropped", number c.args.dropped)
    ∷ (codes "n", number c.args.n)
    ∷ (codes "ok", text (codes "collect"))
    ∷ (codes "waiting", truth false) ∷ [])
    c.finish.result t4 refl c.finish.ensures
