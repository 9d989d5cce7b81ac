use Rattle.std.proofs.Common.{map}
use Rattle.image_marks.specs.store_record.Keys.{Text}
use Rattle.image_marks.specs.store_record.declared.field.Field.{Field}
use Rattle.store_model.specs.FactRows.{fact_at}
use Rattle.image_text.proofs.RowLaws.{Carries, Continues}
use Rattle.image_text.specs.Lines.{fact_row}
use Rattle.image_text.specs.Made.{IsFieldMade}
use Rattle.image_text.proofs.entry.write_facts_at.Given as goal

abbrev pub invariant-fields : goal.invariant-fields
invariant-fields l = record {
  rows : Continues {X = Text × Field} (λ es. map fact_row (map (fact_at l.fn.id) es)) l.entry-items l.entry-index l.initial.out.items l.out.items;
  made : Carries (λ (f : Text × Field). IsFieldMade f.1) l.entry-items l.entry-index;
}
