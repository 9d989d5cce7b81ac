use Rattle.std.proofs.Common.{map}
use Rattle.store_model.specs.declared.facts.HandleFact.{HandleFact}
use Rattle.image_text.proofs.RowLaws.{Carries, Continues}
use Rattle.image_text.specs.Lines.{page_row}
use Rattle.image_text.specs.Made.{IsPageMade}
use Rattle.image_text.proofs.entry.write_pages.Given as goal

abbrev pub invariant-pages : goal.invariant-pages
invariant-pages l = record {
  rows : Continues {X = HandleFact} (λ hs. map page_row hs) l.page-items l.page-index l.initial.out.items l.out.items;
  made : Carries (IsPageMade) l.page-items l.page-index;
}
