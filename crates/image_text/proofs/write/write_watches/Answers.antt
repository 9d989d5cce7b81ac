use Rattle.std.proofs.Common.{◌∙◌, List, [], ◌∷◌, map, refl, subst, arith}
use Rattle.image_text.specs.Lines.{watch_row}
use Rattle.image_text.specs.Made.{IsPartMade}
use Rattle.image_text.specs.declared.image.ImageWatch.{ImageWatch}
use Rattle.image_text.proofs.RowLaws.{carried, going, gone, one_left}
use Rattle.image_text.specs.Lines.{Row}
use Rattle.image_text.specs.Rows.{Adds}
use Rattle.image_text.proofs.write.write_watches.Goals as goal

pub watches-preserved : goal.watches-preserved
watches-preserved c =
    let xs = c.deref-watch-items.result.now in
    let i = c.watches.watch-index in
    let x = c.watch-item.result in
    let here = one_left xs i x c.watches-test.true c.watch-item.is in
    record {
      rows = going {X = ImageWatch} (λ w. watch_row w ∷ []) (λ ws. map watch_row ws) refl (λ x xs. refl) xs i x c.args.out.items c.watches.out.items c.in_ok-out.out.items here c.watches.invariant.rows c.in_ok-out.ensures.row;
      made = carried (λ (w : ImageWatch). IsPartMade w.part) xs i x here c.watches.invariant.made c.in_ok-out.ensures.made;
    }

pub returns-clause-rows : goal.returns-clause-rows
returns-clause-rows c =
    let xs = c.deref-watch-items.result.now in
    let all = gone {X = ImageWatch} (λ w. watch_row w ∷ []) (λ ws. map watch_row ws) refl (λ x xs. refl) xs c.watches.watch-index c.args.out.items c.watches.out.items (omega (arith, c.watches-test.false)) c.watches.invariant.rows in
    let shown : List (ImageWatch) → List Row = λ ws. map watch_row ws in
    subst (λ (ys : List (ImageWatch)). Adds (shown ys) c.args.out.items c.watches.out.items) (c.deref-watch-items.ensures.value ∙ c.watches-2.view_is) all
