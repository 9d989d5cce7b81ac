use Rattle.std.proofs.Common.{codes, map}
use Rattle.plan_ir.specs.gql_plain.Shown.{tree_of}
use Rattle.plan_ir.specs.gql_plain.Tree.{truth, text, list, trees_of}
use Rattle.relay_lines.proofs.LineLaws.{begun, more, ordered}
use Rattle.relay_lines.proofs.lines.shown_line.Goals as goal
use Rattle.relay_machine.specs.Printed.{number}

pub returns : goal.returns
returns c =
    let shown = c.args.snapshot.now in
    let t0 = begun c.in_ok-line.ensures in
    let t1 = more (codes "data") (tree_of shown.shown) t0 c.in_ok-put_plain.ensures in
    let t2 = more (codes "missing") (truth shown.missing) t1 c.in_ok-put_truth.ensures in
    let t3 = more (codes "n") (number c.args.n) t2 c.in_ok-put_number.ensures in
    let t4 = more c.args.key.now (text c.args.name.now) t3 c.in_ok-put_text.ensures in
    let t5 = more (codes "seen") (list (trees_of (map text shown.seen))) t4 c.in_ok-put_texts.ensures in
    ordered c.finish.result t5 c.finish.ensures
