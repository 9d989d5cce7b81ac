use Rattle.std.proofs.Common.{map}
use Rattle.image_text.specs.declared.image.ImageWatch.{ImageWatch}
use Rattle.image_text.proofs.RowLaws.{Carries, Continues}
use Rattle.image_text.specs.Lines.{watch_row}
use Rattle.image_text.specs.Made.{IsPartMade}
use Rattle.image_text.proofs.write.write_watches.Given as goal

abbrev pub invariant-watches : goal.invariant-watches
invariant-watches l = record {
  rows : Continues {X = ImageWatch} (λ ws. map watch_row ws) l.watch-items l.watch-index l.initial.out.items l.out.items;
  made : Carries (λ (w : ImageWatch). IsPartMade w.part) l.watch-items l.watch-index;
}
