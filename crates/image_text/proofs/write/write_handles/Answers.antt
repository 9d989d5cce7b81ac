use Rattle.std.proofs.Common.{◌∙◌, List, [], ◌∷◌, map, refl, subst, arith}
use Rattle.image_text.specs.Lines.{handle_row}
use Rattle.image_text.specs.Made.{ArePairsMade}
use Rattle.image_text.specs.declared.image.ImageHandle.{ImageHandle}
use Rattle.image_text.proofs.RowLaws.{carried, going, gone, one_left}
use Rattle.image_text.specs.Lines.{Row}
use Rattle.image_text.specs.Rows.{Adds}
use Rattle.image_text.proofs.write.write_handles.Goals as goal

pub handles-preserved : goal.handles-preserved
handles-preserved c =
    let xs = c.deref-handle-items.result.now in
    let i = c.handles.handle-index in
    let x = c.handle-item.result in
    let here = one_left xs i x c.handles-test.true c.handle-item.is in
    record {
      rows = going {X = ImageHandle} (λ h. handle_row h ∷ []) (λ hs. map handle_row hs) refl (λ x xs. refl) xs i x c.args.out.items c.handles.out.items c.in_ok-out.out.items here c.handles.invariant.rows c.in_ok-out.ensures.row;
      made = carried (λ (h : ImageHandle). ArePairsMade h.vars) xs i x here c.handles.invariant.made c.in_ok-out.ensures.made;
    }

pub returns-clause-rows : goal.returns-clause-rows
returns-clause-rows c =
    let xs = c.deref-handle-items.result.now in
    let all = gone {X = ImageHandle} (λ h. handle_row h ∷ []) (λ hs. map handle_row hs) refl (λ x xs. refl) xs c.handles.handle-index c.args.out.items c.handles.out.items (omega (arith, c.handles-test.false)) c.handles.invariant.rows in
    let shown : List (ImageHandle) → List Row = λ hs. map handle_row hs in
    subst (λ (ys : List (ImageHandle)). Adds (shown ys) c.args.out.items c.handles.out.items) (c.deref-handle-items.ensures.value ∙ c.handles-2.view_is) all
