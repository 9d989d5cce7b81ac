use Rattle.std.proofs.Common.{◌≡◌, ◌++◌, map, take}
use Rattle.image_text.specs.Images.{whole_mark}
use Rattle.image_text.specs.declared.image.ImageMark.{ImageMark}
use Rattle.image_rules.proofs.lists.last_marks.Given as goal

abbrev pub invariant-marked : goal.invariant-marked
invariant-marked l = l.numbers.items ≡ whole_mark l.whole ++ map (λ (m : ImageMark). m.at) (take l.mark-index l.marked)
