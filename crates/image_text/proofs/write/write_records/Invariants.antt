use Rattle.image_text.specs.declared.image.ImageRecord.{ImageRecord}
use Rattle.image_text.proofs.RowLaws.{Carries, Continues}
use Rattle.image_text.specs.Lines.{record_rows, joined}
use Rattle.image_text.specs.Made.{IsSlotMade}
use Rattle.image_text.proofs.write.write_records.Given as goal

abbrev pub invariant-records : goal.invariant-records
invariant-records l = record {
  rows : Continues {X = ImageRecord} (λ rs. joined record_rows rs) l.record-items l.record-index l.initial.out.items l.out.items;
  made : Carries (λ (r : ImageRecord). IsSlotMade r.slot) l.record-items l.record-index;
}
