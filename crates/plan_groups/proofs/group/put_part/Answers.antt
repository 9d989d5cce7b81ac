-- What stands below the first field comes first.
use Rattle.std.proofs.Common.{◌≡◌, [], length, ap, arith}
use Rattle.std.proofs.lemmas.List.{nil_from_length}
use Rattle.plan_groups.proofs.GroupSteps.{part_first, part_more}
use Rattle.plan_groups.proofs.group.put_part.Goals as goal

pub returns-then-is_empty : goal.returns-then-is_empty
returns-then-is_empty c =
    part_first c.args.parts.now.items _ _ c.args.first c.args.part (nil_from_length c.args.parts.now.items (grind (arith, c.is_empty.ensures))) c.push_reserved.ensures.items c.push_reserved-then-is_empty.ensures.items

pub returns : goal.returns
returns c =
    let some : c.args.parts.now.items ≡ [] → ⊥ = λ none. let zero : length c.args.parts.now.items ≡ 0 = ap length none in grind (arith, c.is_empty.ensures, zero) in
    part_more c.args.parts.now.items _ c.args.first c.args.part some c.push_reserved-2.ensures.items
