use Rattle.std.proofs.Common.{map}
use Rattle.std.specs.List.{AllByRecursion}
use Rattle.std.specs.Map.{keys_of}
use Rattle.store_model.specs.gql_plain.Order.{AreInOrder}
use Rattle.store_model.specs.FactRows.{facts_of, facts_of_row}
use Rattle.store_model.specs.declared.facts.Fact.{Fact}
use Rattle.store_model.specs.declared.facts.FactRow.{FactRow}
use Rattle.image_text.proofs.RowLaws.{Carries, Continues}
use Rattle.image_text.specs.Lines.{fact_row}
use Rattle.image_text.specs.Made.{IsFieldMade}
use Rattle.image_text.proofs.entry.write_facts.Given as goal

abbrev pub invariant-rows : goal.invariant-rows
invariant-rows l = record {
  rows : Continues {X = FactRow} (λ rs. map fact_row (facts_of rs)) l.row-items l.row-index l.initial.out.items l.out.items;
  made : Carries (λ (r : FactRow). AllByRecursion (λ (f : Fact). IsFieldMade f.value) (facts_of_row r)) l.row-items l.row-index;
  order : Carries (λ (r : FactRow). AreInOrder (keys_of r.fields)) l.row-items l.row-index;
}
