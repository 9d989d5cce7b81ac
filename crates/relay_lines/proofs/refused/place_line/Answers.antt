use Rattle.std.proofs.Common.{codes, [], ◌∷◌, map}
use Rattle.plan_ir.specs.gql_plain.Tree.{text, list, trees_of}
use Rattle.relay_lines.proofs.LineLaws.{begun, more, printed}
use Rattle.relay_lines.proofs.refused.place_line.Goals as goal
use Rattle.relay_lines.specs.RefusalShown.{refusal_shown}
use Rattle.relay_machine.specs.Printed.{number}
use Rattle.relay_machine.specs.Refusals.{code_of, name_of, shown_step}

pub returns : goal.returns
returns c =
    let r = refusal_shown c.args.refusal in
    let t0 = begun c.in_ok-line.ensures in
    let t1 = more (codes "cause") (text c.args.cause.now) t0 c.in_ok-put_text.ensures in
    let t2 = more (codes "code") (number c.code.result) t1 c.in_ok-put_number.ensures in
    let t3 = more (codes "error") (text c.name.result.now) t2 c.in_ok-put_text-2.ensures in
    let t4 = more (codes "n") (number c.args.n) t3 c.in_ok-put_number-2.ensures in
    let t5 = more (codes "path") (list (trees_of (map shown_step c.args.path.now))) t4 c.in_ok-put_path.ensures in
    printed
    ((codes "code", number (code_of r))
    ∷ (codes "error", text (name_of r))
    ∷ (codes "n", number c.args.n)
    ∷ (codes "cause", text c.args.cause.now)
    ∷ (codes "path", list (trees_of (map shown_step c.args.path.now))) ∷ [])
    c.finish.result t5
    (λ i. (codes "cause", text c.args.cause.now) ∷ (codes "code", number (c.code.ensures i)) ∷ (codes "error", text (c.name.ensures i)) ∷ (codes "n", number c.args.n) ∷ (codes "path", list (trees_of (map shown_step c.args.path.now))) ∷ [])
    c.finish.ensures
