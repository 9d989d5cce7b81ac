use Rattle.std.proofs.Common.{◌∙◌, List, [], ◌∷◌, map, refl, subst, arith}
use Rattle.image_text.specs.Lines.{released_row}
use Rattle.image_text.specs.Made.{ArePairsMade}
use Rattle.image_text.specs.declared.image.ImageRelease.{ImageRelease}
use Rattle.image_text.proofs.RowLaws.{carried, going, gone, one_left}
use Rattle.image_text.specs.Lines.{Row}
use Rattle.image_text.specs.Rows.{Adds}
use Rattle.image_text.proofs.write.write_releases.Goals as goal

pub released-preserved : goal.released-preserved
released-preserved c =
    let xs = c.deref-release-items.result.now in
    let i = c.released.release-index in
    let x = c.release-item.result in
    let here = one_left xs i x c.released-test.true c.release-item.is in
    record {
      rows = going {X = ImageRelease} (λ r. released_row r ∷ []) (λ rs. map released_row rs) refl (λ x xs. refl) xs i x c.args.out.items c.released.out.items c.in_ok-out.out.items here c.released.invariant.rows c.in_ok-out.ensures.row;
      made = carried (λ (r : ImageRelease). ArePairsMade r.vars) xs i x here c.released.invariant.made c.in_ok-out.ensures.made;
    }

pub returns-clause-rows : goal.returns-clause-rows
returns-clause-rows c =
    let xs = c.deref-release-items.result.now in
    let all = gone {X = ImageRelease} (λ r. released_row r ∷ []) (λ rs. map released_row rs) refl (λ x xs. refl) xs c.released.release-index c.args.out.items c.released.out.items (omega (arith, c.released-test.false)) c.released.invariant.rows in
    let shown : List (ImageRelease) → List Row = λ rs. map released_row rs in
    subst (λ (ys : List (ImageRelease)). Adds (shown ys) c.args.out.items c.released.out.items) (c.deref-release-items.ensures.value ∙ c.released-2.view_is) all
