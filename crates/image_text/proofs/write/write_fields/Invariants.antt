use Rattle.std.proofs.Common.{map}
use Rattle.image_marks.specs.store_record.Keys.{Text}
use Rattle.image_marks.specs.store_record.declared.field.Field.{Field}
use Rattle.image_text.proofs.RowLaws.{Carries, Continues}
use Rattle.image_text.specs.Lines.{field_row}
use Rattle.image_text.specs.Made.{IsFieldMade}
use Rattle.image_text.proofs.write.write_fields.Given as goal

abbrev pub invariant-fields : goal.invariant-fields
invariant-fields l = record {
  rows : Continues {X = Text × Field} (λ es. map field_row es) l.entry-items l.entry-index l.initial.out.items l.out.items;
  made : Carries (λ (f : Text × Field). IsFieldMade f.1) l.entry-items l.entry-index;
}
