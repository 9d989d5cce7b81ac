use Rattle.std.proofs.Common.{◌≡◌, ◌≤◌, length, ap, ◌∙◌, arith}
use Rattle.std.specs.Prelude.{not}
use Rattle.std.specs.Ordering.{eq_by_cmp}
use Rattle.store_tree.specs.Contents.{without_tied}
use Rattle.store_tree.specs.KeyOrder.{key_cmp}
use Rattle.store_tree.specs.Place.{HasUpTo}
use Rattle.store_tree.specs.declared.leaf.TheConstants.{MOST}
use Rattle.store_tree.proofs.Order.{length-where_key}
use Rattle.store_tree.proofs.leaves.take_from_leaf.Goals as goal

pub branch_of-requires : goal.branch_of-requires
branch_of-requires g c =
    let few : HasUpTo MOST c.args.leaf.value = assumption c.requires in
    let fewer : length (without_tied key_cmp c.args.key.now c.args.leaf.value) ≤ length c.args.leaf.value = length-where_key key_cmp (λ other. not (eq_by_cmp key_cmp c.args.key.now other)) c.args.leaf.value in
    let made : c.in_ok-rest.rest ≡ without_tied key_cmp c.args.key.now c.args.leaf.value = cc (c.in_ok-rest.ensures, c.deref.ensures) in
    rw made (omega (arith, few.1, fewer))

pub invariant_of-result : goal.invariant_of-result
invariant_of-result g c =
    let whole = c.args.leaf.value in
    let few : HasUpTo MOST whole = assumption c.requires in
    let fewer : length (without_tied key_cmp c.args.key.now whole) ≤ length whole = length-where_key key_cmp (λ other. not (eq_by_cmp key_cmp c.args.key.now other)) whole in
    let made : c.take.new.self ≡ without_tied key_cmp c.args.key.now whole = c.take.ensures ∙ ap (without_tied key_cmp c.args.key.now) c.in-Some.ensures.value in
    let left : length c.take.new.self ≤ MOST = rw made (omega (arith, few.1, fewer)) in
    (omega (arith, c.len.ensures, c.if-len-eq0.false), left)
