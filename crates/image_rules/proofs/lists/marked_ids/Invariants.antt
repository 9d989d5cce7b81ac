use Rattle.std.proofs.Common.{◌≡◌, map, take}
use Rattle.image_text.specs.declared.image.ImageMark.{ImageMark}
use Rattle.image_rules.proofs.lists.marked_ids.Given as goal

abbrev pub invariant-marked : goal.invariant-marked
invariant-marked l = map (λ t. t.now) l.ids.items ≡ map (λ (x : ImageMark). x.id) (take l.mark-index l.marked)
