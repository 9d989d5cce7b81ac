use Rattle.std.proofs.Common.{codes, [], ◌∷◌, map}
use Rattle.plan_ir.specs.gql_plain.Tree.{text, list, trees_of}
use Rattle.relay_lines.proofs.LineLaws.{begun, more, printed}
use Rattle.relay_lines.proofs.refused.conflict_line.Goals as goal
use Rattle.relay_lines.specs.RefusalShown.{refusal_shown}
use Rattle.relay_machine.specs.Printed.{number}
use Rattle.relay_machine.specs.Refusals.{code_of, name_of, shown_field, shown_step}

pub returns : goal.returns
returns c =
    let r = refusal_shown c.args.refusal in
    let t0 = begun c.in_ok-line.ensures in
    let t1 = more (codes "cause") (text (codes "Conflict")) t0 c.in_ok-put_text.ensures in
    let t2 = more (codes "code") (number c.code.result) t1 c.in_ok-put_number.ensures in
    let t3 = more (codes "error") (text c.name.result.now) t2 c.in_ok-put_text-2.ensures in
    let t4 = more (codes "first") (shown_field c.args.conflict.first.now) t3 c.in_ok-put_field.ensures in
    let t5 = more (codes "id") (text c.args.conflict.id.now) t4 c.in_ok-put_text-3.ensures in
    let t6 = more (codes "key") (text c.args.conflict.key.now) t5 c.in_ok-put_text-4.ensures in
    let t7 = more (codes "n") (number c.args.n) t6 c.in_ok-put_number-2.ensures in
    let t8 = more (codes "path") (list (trees_of (map shown_step c.args.path.now))) t7 c.in_ok-put_path.ensures in
    let t9 = more (codes "second") (shown_field c.args.conflict.second.now) t8 c.in_ok-put_field-2.ensures in
    printed
    ((codes "code", number (code_of r))
    ∷ (codes "error", text (name_of r))
    ∷ (codes "n", number c.args.n)
    ∷ (codes "cause", text (codes "Conflict"))
    ∷ (codes "path", list (trees_of (map shown_step c.args.path.now)))
    ∷ (codes "id", text c.args.conflict.id.now)
    ∷ (codes "key", text c.args.conflict.key.now)
    ∷ (codes "first", shown_field c.args.conflict.first.now)
    ∷ (codes "second", shown_field c.args.conflict.second.now) ∷ [])
    c.finish.result t9
    (λ i. (codes "cause", text (codes "Conflict")) ∷ (codes "code", number (c.code.ensures i)) ∷ (codes "error", text (c.name.ensures i)) ∷ (codes "first", shown_field c.args.conflict.first.now) ∷ (codes "id", text c.args.conflict.id.now) ∷ (codes "key", text c.args.conflict.key.now) ∷ (codes "n", number c.args.n) ∷ (codes "path", list (trees_of (map shown_step c.args.path.now))) ∷ (codes "second", shown_field c.args.conflict.second.now) ∷ [])
    c.finish.ensures
