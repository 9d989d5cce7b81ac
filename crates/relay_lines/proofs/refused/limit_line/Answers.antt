use Rattle.std.proofs.Common.{codes, [], ◌∷◌}
use Rattle.plan_ir.specs.gql_plain.Tree.{text}
use Rattle.relay_lines.proofs.LineLaws.{begun, more, printed}
use Rattle.relay_lines.proofs.refused.limit_line.Goals as goal
use Rattle.relay_lines.specs.RefusalShown.{limited_shown, refusal_shown}
use Rattle.relay_machine.specs.Printed.{number}
use Rattle.relay_machine.specs.Refusals.{code_of, limited_name, most, name_of}

pub returns : goal.returns
returns c =
    let r = refusal_shown c.args.refusal in
    let t0 = begun c.in_ok-line.ensures in
    let t1 = more (codes "code") (number c.code.result) t0 c.in_ok-put_number.ensures in
    let t2 = more (codes "error") (text c.name.result.now) t1 c.in_ok-put_text.ensures in
    let t3 = more (codes "kind") (text c.kind.result.now) t2 c.in_ok-put_text-2.ensures in
    let t4 = more (codes "limit") (number c.most.result) t3 c.in_ok-put_number-2.ensures in
    let t5 = more (codes "n") (number c.args.n) t4 c.in_ok-put_number-3.ensures in
    printed
    ((codes "code", number (code_of r))
    ∷ (codes "error", text (name_of r))
    ∷ (codes "n", number c.args.n)
    ∷ (codes "kind", text (limited_name (limited_shown c.args.what)))
    ∷ (codes "limit", number (most (limited_shown c.args.what))) ∷ [])
    c.finish.result t5
    (λ i. (codes "code", number (c.code.ensures i)) ∷ (codes "error", text (c.name.ensures i)) ∷ (codes "kind", text (c.kind.ensures i)) ∷ (codes "limit", number (c.most.ensures i)) ∷ (codes "n", number c.args.n) ∷ [])
    c.finish.ensures
