use Rattle.std.proofs.Common.{map}
use Rattle.image_text.specs.declared.image.ImageMark.{ImageMark}
use Rattle.image_text.proofs.RowLaws.{Continues}
use Rattle.image_text.specs.Lines.{mark_row}
use Rattle.image_text.proofs.write.write_marked.Given as goal

abbrev pub invariant-marked : goal.invariant-marked
invariant-marked l =
    Continues {X = ImageMark} (λ ms. map mark_row ms) l.mark-items l.mark-index l.initial.out.items l.out.items
