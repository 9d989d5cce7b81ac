use Rattle.std.proofs.Common.{drop, length-drop, sym, ◌∙◌, arith}
use Rattle.plan_ir.specs.gql_ast.Value.{members_of, vals_of}
use Rattle.doc_merge.proofs.ListEnds.{lists_end, lists_lengths, pairs_end, pairs_lengths}
use Rattle.doc_merge.proofs.signature.+same.Goals as goal
use Rattle.doc_merge.specs.Signatures.{same_members, same_values}

pub same_values-returns : goal.same_values-returns
same_values-returns t c =
    let xs = c.a.inside.items.items in
    let ys = c.b.inside.items.items in
    let at = c.items.at in
    lists_end (drop at xs) (drop at ys) (omega (arith, length-drop at xs)) (omega (arith, length-drop at ys))
    ∙ sym c.items.invariant.left ∙ (λ i. same_values (vals_of (c.a.view_is i)) (vals_of (c.b.view_is i)))

pub same_values-returns-then-len : goal.same_values-returns-then-len
same_values-returns-then-len t c =
    let xs = c.a.inside.items.items in
    let ys = c.b.inside.items.items in
    sym (lists_lengths xs ys (λ e. c.if-len.true (omega arith))) ∙ (λ i. same_values (vals_of (c.a.view_is i)) (vals_of (c.b.view_is i)))

pub same_members-returns : goal.same_members-returns
same_members-returns t c =
    let xs = c.a.inside.items.items in
    let ys = c.b.inside.items.items in
    let at = c.items.at in
    pairs_end (drop at xs) (drop at ys) (omega (arith, length-drop at xs)) (omega (arith, length-drop at ys))
    ∙ sym c.items.invariant.left ∙ (λ i. same_members (members_of (c.a.view_is i)) (members_of (c.b.view_is i)))

pub same_members-returns-then-len : goal.same_members-returns-then-len
same_members-returns-then-len t c =
    let xs = c.a.inside.items.items in
    let ys = c.b.inside.items.items in
    sym (pairs_lengths xs ys (λ e. c.if-len.true (omega arith))) ∙ (λ i. same_members (members_of (c.a.view_is i)) (members_of (c.b.view_is i)))
