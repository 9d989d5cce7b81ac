use Rattle.std.proofs.Common.{codes, [], ◌∷◌, refl}
use Rattle.plan_ir.specs.gql_plain.Tree.{text}
use Rattle.relay_lines.proofs.LineLaws.{begun, more, printed}
use Rattle.relay_lines.proofs.lines.fault_line.Goals as goal
use Rattle.relay_machine.specs.Printed.{number}

pub returns : goal.returns
returns c =
    let t0 = begun c.in_ok-fault.ensures in
    let t1 = more (codes "column") (number c.args.column) t0 c.in_ok-put_number.ensures in
    let t2 = more (codes "file") (text c.args.file.now) t1 c.in_ok-put_text.ensures in
    let t3 = more (codes "line") (number c.args.line) t2 c.in_ok-put_number-2.ensures in
    let t4 = more (codes "rule") (text c.args.rule.now) t3 c.in_ok-put_text-2.ensures in
    printed
    ((codes "column", number c.args.column)
    ∷ (codes "file", text c.args.file.now)
    ∷ (codes "line", number c.args.line)
    ∷ (codes "rule", text c.args.rule.now) ∷ [])
    c.finish.result t4 refl c.finish.ensures
