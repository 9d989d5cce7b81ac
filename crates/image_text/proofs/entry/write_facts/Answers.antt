use Rattle.std.proofs.Common.{◌≡◌, ◌≤◌, List, ◌∷◌, ◌++◌, length, map, refl, subst, arith}
use Rattle.std.specs.List.{AllByRecursion}
use Rattle.std.specs.Map.{keys_of}
use Rattle.store_model.specs.gql_plain.Order.{AreInOrder}
use Rattle.store_model.specs.FactRows.{facts_of, facts_of_row}
use Rattle.store_model.specs.declared.facts.Fact.{Fact}
use Rattle.store_model.specs.declared.facts.FactRow.{FactRow}
use Rattle.image_text.proofs.RowLaws.{all_carried, carried, going, gone, joined_facts, mapped_both, one_left}
use Rattle.image_text.specs.Lines.{Row, fact_row}
use Rattle.image_text.specs.Made.{IsFieldMade}
use Rattle.image_text.specs.Rows.{Adds}
use Rattle.image_text.proofs.entry.write_facts.Goals as goal

abbrev AreMade : FactRow → Type 0
AreMade r = AllByRecursion (λ (f : Fact). IsFieldMade f.value) (facts_of_row r)

abbrev HasOrder : FactRow → Type 0
HasOrder r = AreInOrder (keys_of r.fields)

abbrev rows_of_row : FactRow → List Row
rows_of_row r = map fact_row (facts_of_row r)

abbrev rows_of_rows : List FactRow → List Row
rows_of_rows rs = map fact_row (facts_of rs)

one_row : (r : FactRow) (rs : List FactRow) → rows_of_rows (r ∷ rs) ≡ rows_of_row r ++ rows_of_rows rs
one_row r rs = mapped_both fact_row (facts_of_row r) (facts_of rs)

pub rows-preserved : goal.rows-preserved
rows-preserved c =
    let xs = c.rows-row-items.result.now in
    let i = c.rows.row-index in
    let x = c.row-item.result in
    let here = one_left xs i x c.rows-test.true c.row-item.is in
    record {
      rows = going {X = FactRow} rows_of_row rows_of_rows refl one_row xs i x c.args.out.items c.rows.out.items c.in_ok-out.out.items here c.rows.invariant.rows c.in_ok-out.ensures.rows;
      made = carried AreMade xs i x here c.rows.invariant.made c.in_ok-out.ensures.made;
      order = carried HasOrder xs i x here c.rows.invariant.order c.in_ok-out.ensures.order;
    }

pub returns-clause-rows : goal.returns-clause-rows
returns-clause-rows c =
    let xs = c.rows-row-items.result.now in
    let all = gone {X = FactRow} rows_of_row rows_of_rows refl one_row xs c.rows.row-index c.args.out.items c.rows.out.items (omega (arith, c.rows-test.false)) c.rows.invariant.rows in
    subst (λ (fs : List Fact). Adds (map fact_row fs) c.args.out.items c.rows.out.items) c.rows-row-items.ensures.facts all

pub returns-clause-made : goal.returns-clause-made
returns-clause-made c =
    let xs = c.rows-row-items.result.now in
    let end : length xs ≤ c.rows.row-index = omega (arith, c.rows-test.false) in
    record {
      rows = xs;
      are = c.rows-row-items.ensures.facts;
      order = c.rows-row-items.ensures.order;
      fields = all_carried HasOrder xs c.rows.row-index end c.rows.invariant.order;
      values =
          subst (AllByRecursion (λ (f : Fact). IsFieldMade f.value)) c.rows-row-items.ensures.facts
          (joined_facts (λ f. IsFieldMade f.value) xs (all_carried AreMade xs c.rows.row-index end c.rows.invariant.made));
    }
