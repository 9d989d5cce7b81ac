use Rattle.std.proofs.Common.{◌∙◌, List, [], ◌∷◌, map, refl, subst, arith}
use Rattle.image_text.specs.Lines.{page_row}
use Rattle.image_text.specs.Made.{IsPageMade}
use Rattle.store_model.specs.declared.facts.HandleFact.{HandleFact}
use Rattle.image_text.proofs.RowLaws.{carried, going, gone, one_left}
use Rattle.image_text.specs.Lines.{Row}
use Rattle.image_text.specs.Rows.{Adds}
use Rattle.image_text.proofs.entry.write_pages.Goals as goal

pub pages-preserved : goal.pages-preserved
pages-preserved c =
    let xs = c.deref-page-items.result.now in
    let i = c.pages.page-index in
    let x = c.page-item.result in
    let here = one_left xs i x c.pages-test.true c.page-item.is in
    record {
      rows = going {X = HandleFact} (λ h. page_row h ∷ []) (λ hs. map page_row hs) refl (λ x xs. refl) xs i x c.args.out.items c.pages.out.items c.in_ok-out.out.items here c.pages.invariant.rows c.in_ok-out.ensures.row;
      made = carried (IsPageMade) xs i x here c.pages.invariant.made c.in_ok-out.ensures.made;
    }

pub returns-clause-rows : goal.returns-clause-rows
returns-clause-rows c =
    let xs = c.deref-page-items.result.now in
    let all = gone {X = HandleFact} (λ h. page_row h ∷ []) (λ hs. map page_row hs) refl (λ x xs. refl) xs c.pages.page-index c.args.out.items c.pages.out.items (omega (arith, c.pages-test.false)) c.pages.invariant.rows in
    let shown : List (HandleFact) → List Row = λ hs. map page_row hs in
    subst (λ (ys : List (HandleFact)). Adds (shown ys) c.args.out.items c.pages.out.items) (c.deref-page-items.ensures.value ∙ c.pages-2.view_is) all
