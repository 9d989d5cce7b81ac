use Rattle.std.proofs.Common.{map}
use Rattle.image_text.specs.declared.image.ImageHandle.{ImageHandle}
use Rattle.image_text.proofs.RowLaws.{Carries, Continues}
use Rattle.image_text.specs.Lines.{handle_row}
use Rattle.image_text.specs.Made.{ArePairsMade}
use Rattle.image_text.proofs.write.write_handles.Given as goal

abbrev pub invariant-handles : goal.invariant-handles
invariant-handles l = record {
  rows : Continues {X = ImageHandle} (λ hs. map handle_row hs) l.handle-items l.handle-index l.initial.out.items l.out.items;
  made : Carries (λ (h : ImageHandle). ArePairsMade h.vars) l.handle-items l.handle-index;
}
