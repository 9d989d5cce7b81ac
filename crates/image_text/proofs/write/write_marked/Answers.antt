use Rattle.std.proofs.Common.{◌∙◌, List, [], ◌∷◌, map, refl, subst, arith}
use Rattle.image_text.specs.Lines.{mark_row}
use Rattle.image_text.specs.declared.image.ImageMark.{ImageMark}
use Rattle.image_text.proofs.RowLaws.{going, gone, one_left}
use Rattle.image_text.specs.Lines.{Row}
use Rattle.image_text.specs.Rows.{Adds}
use Rattle.image_text.proofs.write.write_marked.Goals as goal

pub marked-preserved : goal.marked-preserved
marked-preserved c =
    let xs = c.deref-mark-items.result.now in
    let i = c.marked.mark-index in
    let x = c.mark-item.result in
    let here = one_left xs i x c.marked-test.true c.mark-item.is in
    going {X = ImageMark} (λ m. mark_row m ∷ []) (λ ms. map mark_row ms) refl (λ x xs. refl) xs i x c.args.out.items c.marked.out.items c.in_ok-out.out.items here c.marked.invariant c.in_ok-out.ensures

pub returns : goal.returns
returns c =
    let xs = c.deref-mark-items.result.now in
    let all = gone {X = ImageMark} (λ m. mark_row m ∷ []) (λ ms. map mark_row ms) refl (λ x xs. refl) xs c.marked.mark-index c.args.out.items c.marked.out.items (omega (arith, c.marked-test.false)) c.marked.invariant in
    let shown : List (ImageMark) → List Row = λ ms. map mark_row ms in
    subst (λ (ys : List (ImageMark)). Adds (shown ys) c.args.out.items c.marked.out.items) (c.deref-mark-items.ensures.value ∙ c.marked-2.view_is) all
