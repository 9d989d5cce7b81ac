use Rattle.std.proofs.Common.{codes, [], ◌∷◌}
use Rattle.plan_ir.specs.gql_plain.Tree.{text}
use Rattle.relay_lines.proofs.LineLaws.{begun, more, printed}
use Rattle.relay_lines.proofs.refused.named_line.Goals as goal
use Rattle.relay_lines.specs.RefusalShown.{refusal_shown}
use Rattle.relay_machine.specs.Printed.{number}
use Rattle.relay_machine.specs.Refusals.{code_of, name_of}

pub returns : goal.returns
returns c =
    let r = refusal_shown c.args.refusal in
    let t0 = begun c.in_ok-line.ensures in
    let t1 = more (codes "code") (number c.code.result) t0 c.in_ok-put_number.ensures in
    let t2 = more (codes "error") (text c.name.result.now) t1 c.in_ok-put_text.ensures in
    let t3 = more (codes "n") (number c.args.n) t2 c.in_ok-put_number-2.ensures in
    let t4 = more (codes "name") (text c.args.name.now) t3 c.in_ok-put_text-2.ensures in
    printed
    ((codes "code", number (code_of r))
    ∷ (codes "error", text (name_of r))
    ∷ (codes "n", number c.args.n)
    ∷ (codes "name", text c.args.name.now) ∷ [])
    c.finish.result t4
    (λ i. (codes "code", number (c.code.ensures i)) ∷ (codes "error", text (c.name.ensures i)) ∷ (codes "n", number c.args.n) ∷ (codes "name", text c.args.name.now) ∷ [])
    c.finish.ensures
