use Rattle.std.proofs.Common.{◌≡◌, List, [], ◌∷◌, map, refl, subst, arith}
use Rattle.image_marks.specs.store_record.Keys.{Text}
use Rattle.image_marks.specs.store_record.declared.field.Field.{Field}
use Rattle.image_text.proofs.RowLaws.{carried, going, gone, one_left}
use Rattle.image_text.specs.Lines.{Row, field_row}
use Rattle.image_text.specs.Made.{IsFieldMade}
use Rattle.image_text.specs.Rows.{Adds}
use Rattle.image_text.proofs.write.write_fields.Goals as goal

pub fields-preserved : goal.fields-preserved
fields-preserved c =
    let xs = c.as_slice-entry-items.result.now in
    let i = c.fields.entry-index in
    let x = c.entry-item.result in
    let here = one_left xs i x c.fields-test.true c.entry-item.is in
    let same : (c.key.result.now, c.field.result.now) ≡ (x.0, x.1) = λ k. (c.key.ensures k, c.field.ensures k) in
    let put : Adds (field_row x ∷ []) c.fields.out.items c.in_ok-out.out.items =
    subst (λ (x : Text × Field). Adds (field_row x ∷ []) c.fields.out.items c.in_ok-out.out.items) same c.in_ok-out.ensures.row in
    let made : IsFieldMade x.1 = subst IsFieldMade c.field.ensures c.in_ok-out.ensures.made in
    record {
      rows = going {X = Text × Field} (λ x. field_row x ∷ []) (λ es. map field_row es) refl (λ x xs. refl) xs i x c.args.out.items c.fields.out.items c.in_ok-out.out.items here c.fields.invariant.rows put;
      made = carried (λ (f : Text × Field). IsFieldMade f.1) xs i x here c.fields.invariant.made made;
    }

pub returns-clause-rows : goal.returns-clause-rows
returns-clause-rows c =
    let xs = c.as_slice-entry-items.result.now in
    let shown : List (Text × Field) → List Row = λ es. map field_row es in
    let all = gone {X = Text × Field} (λ x. field_row x ∷ []) (λ es. map field_row es) refl (λ x xs. refl) xs c.fields.entry-index c.args.out.items c.fields.out.items (omega (arith, c.fields-test.false)) c.fields.invariant.rows in
    subst (λ (ys : List (Text × Field)). Adds (shown ys) c.args.out.items c.fields.out.items) c.as_slice-entry-items.ensures.items all
