use Rattle.std.proofs.Common.{codes, [], ◌∷◌, refl}
use Rattle.plan_ir.specs.gql_plain.Tree.{text}
use Rattle.relay_lines.proofs.LineLaws.{begun, more, printed}
use Rattle.relay_lines.proofs.lines.event_line.Goals as goal
use Rattle.relay_machine.specs.Printed.{number}

pub returns : goal.returns
returns c =
    let t0 = begun c.in_ok-line.ensures in
    let t1 = more (codes "n") (number c.args.n) t0 c.in_ok-put_number.ensures in
    let t2 = more (codes "ok") (text c.args.name.now) t1 c.in_ok-put_text.ensures in
    printed
    ((codes "n", number c.args.n)
    ∷ (codes "ok", text c.args.name.now) ∷ [])
    c.finish.result t2 refl c.finish.ensures
