use Rattle.std.proofs.Common.{◌∙◌, List, refl, subst, arith}
use Rattle.image_text.specs.Lines.{joined, layer_rows}
use Rattle.image_text.specs.Made.{IsLayerMade}
use Rattle.image_text.specs.declared.image.ImageLayer.{ImageLayer}
use Rattle.image_text.proofs.RowLaws.{carried, going, gone, one_left}
use Rattle.image_text.specs.Lines.{Row}
use Rattle.image_text.specs.Rows.{Adds}
use Rattle.image_text.proofs.entry.write_layers.Goals as goal

pub layers-preserved : goal.layers-preserved
layers-preserved c =
    let xs = c.deref-layer-items.result.now in
    let i = c.layers.layer-index in
    let x = c.layer-item.result in
    let here = one_left xs i x c.layers-test.true c.layer-item.is in
    record {
      rows = going {X = ImageLayer} (λ l. layer_rows l) (λ ls. joined layer_rows ls) refl (λ x xs. refl) xs i x c.args.out.items c.layers.out.items c.in_ok-out.out.items here c.layers.invariant.rows c.in_ok-out.ensures.rows;
      made = carried (IsLayerMade) xs i x here c.layers.invariant.made c.in_ok-out.ensures.made;
    }

pub returns-clause-rows : goal.returns-clause-rows
returns-clause-rows c =
    let xs = c.deref-layer-items.result.now in
    let all = gone {X = ImageLayer} (λ l. layer_rows l) (λ ls. joined layer_rows ls) refl (λ x xs. refl) xs c.layers.layer-index c.args.out.items c.layers.out.items (omega (arith, c.layers-test.false)) c.layers.invariant.rows in
    let shown : List (ImageLayer) → List Row = λ ls. joined layer_rows ls in
    subst (λ (ys : List (ImageLayer)). Adds (shown ys) c.args.out.items c.layers.out.items) (c.deref-layer-items.ensures.value ∙ c.layers-2.view_is) all
