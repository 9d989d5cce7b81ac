use Rattle.std.proofs.Common.{◌≡◌, drop}
use Rattle.std.specs.List.{list_all}
use Rattle.image_text.specs.Images.{is_page}
use Rattle.image_rules.proofs.entries.are_pages.Given as goal

abbrev pub invariant-pages : goal.invariant-pages
invariant-pages l = list_all (is_page l.facts) l.pages ≡ list_all (is_page l.facts) (drop l.page-index l.pages)
