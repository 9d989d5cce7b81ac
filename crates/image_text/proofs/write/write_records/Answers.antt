use Rattle.std.proofs.Common.{◌∙◌, List, refl, subst, arith}
use Rattle.image_text.specs.Lines.{joined, record_rows}
use Rattle.image_text.specs.Made.{IsSlotMade}
use Rattle.image_text.specs.declared.image.ImageRecord.{ImageRecord}
use Rattle.image_text.proofs.RowLaws.{carried, going, gone, one_left}
use Rattle.image_text.specs.Lines.{Row}
use Rattle.image_text.specs.Rows.{Adds}
use Rattle.image_text.proofs.write.write_records.Goals as goal

pub records-preserved : goal.records-preserved
records-preserved c =
    let xs = c.deref-record-items.result.now in
    let i = c.records.record-index in
    let x = c.record-item.result in
    let here = one_left xs i x c.records-test.true c.record-item.is in
    record {
      rows = going {X = ImageRecord} (λ r. record_rows r) (λ rs. joined record_rows rs) refl (λ x xs. refl) xs i x c.args.out.items c.records.out.items c.in_ok-out.out.items here c.records.invariant.rows c.in_ok-out.ensures.rows;
      made = carried (λ (r : ImageRecord). IsSlotMade r.slot) xs i x here c.records.invariant.made c.in_ok-out.ensures.made;
    }

pub returns-clause-rows : goal.returns-clause-rows
returns-clause-rows c =
    let xs = c.deref-record-items.result.now in
    let all = gone {X = ImageRecord} (λ r. record_rows r) (λ rs. joined record_rows rs) refl (λ x xs. refl) xs c.records.record-index c.args.out.items c.records.out.items (omega (arith, c.records-test.false)) c.records.invariant.rows in
    let shown : List (ImageRecord) → List Row = λ rs. joined record_rows rs in
    subst (λ (ys : List (ImageRecord)). Adds (shown ys) c.args.out.items c.records.out.items) (c.deref-record-items.ensures.value ∙ c.records-2.view_is) all
