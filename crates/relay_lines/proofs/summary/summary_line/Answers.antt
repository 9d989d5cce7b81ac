use Rattle.std.proofs.Common.{codes, [], ◌∷◌, refl}
use Rattle.relay_lines.proofs.LineLaws.{begun, more, printed}
use Rattle.relay_lines.proofs.summary.summary_line.Goals as goal
use Rattle.relay_machine.specs.Printed.{number}

pub returns : goal.returns
returns c =
    let t0 = begun c.in_ok-summary.ensures in
    let t1 = more (codes "bytes") (number c.args.bytes) t0 c.in_ok-put_number.ensures in
    let t2 = more (codes "lines") (number c.args.lines) t1 c.in_ok-put_number-2.ensures in
    let t3 = more (codes "notices") (number c.args.notices) t2 c.in_ok-put_number-3.ensures in
    let t4 = more (codes "refused") (number c.args.refused) t3 c.in_ok-put_number-4.ensures in
    printed
    ((codes "bytes", number c.args.bytes) ∷ (codes "lines", number c.args.lines) ∷ (codes "notices", number c.args.notices) ∷ (codes "refused", number c.args.refused) ∷ [])
    c.finish.result t4 refl c.finish.ensures
