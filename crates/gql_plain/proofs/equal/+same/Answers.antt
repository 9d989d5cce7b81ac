use Rattle.std.proofs.Common.{drop, length-drop, sym, ◌∙◌, arith}
use Rattle.gql_plain.proofs.EndOfLists.{list_eq-end, list_eq-lengths, object_eq-end, object_eq-lengths}
use Rattle.gql_plain.proofs.equal.+same.Goals as goal
use Rattle.gql_plain.specs.Equal.{list_eq, object_eq}

pub same_lists-returns : goal.same_lists-returns
same_lists-returns t c =
    let xs = c.a.inside.items.items in
    let ys = c.b.inside.items.items in
    let at = c.items.at in
    list_eq-end (drop at xs) (drop at ys) (omega (arith, length-drop at xs)) (omega (arith, length-drop at ys))
    ∙ sym c.items.invariant.left ∙ (λ i. list_eq (c.a.view_is i) (c.b.view_is i))

pub same_lists-returns-then-len : goal.same_lists-returns-then-len
same_lists-returns-then-len t c =
    let xs = c.a.inside.items.items in
    let ys = c.b.inside.items.items in
    sym (list_eq-lengths xs ys (λ e. c.if-len.true (omega arith))) ∙ (λ i. list_eq (c.a.view_is i) (c.b.view_is i))

pub same_objects-returns : goal.same_objects-returns
same_objects-returns t c =
    let xs = c.a.inside.entries.items in
    let ys = c.b.inside.entries.items in
    let at = c.entries.at in
    object_eq-end (drop at xs) (drop at ys) (omega (arith, length-drop at xs)) (omega (arith, length-drop at ys))
    ∙ sym c.entries.invariant.left ∙ (λ i. object_eq (c.a.view_is i) (c.b.view_is i))

pub same_objects-returns-then-len : goal.same_objects-returns-then-len
same_objects-returns-then-len t c =
    let xs = c.a.inside.entries.items in
    let ys = c.b.inside.entries.items in
    sym (object_eq-lengths xs ys (λ e. c.if-len.true (omega arith))) ∙ (λ i. object_eq (c.a.view_is i) (c.b.view_is i))
