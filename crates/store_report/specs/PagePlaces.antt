-- Whether two pages are of one place.
use Rattle.std.specs.Prelude.{Bool}
use Rattle.std.specs.Ordering.{is_eq}
use Rattle.store_model.specs.FactOrder.{handle_cmp}
use Rattle.store_model.specs.declared.facts.HandleFact.{HandleFact}

abbrev pub is_same_page : HandleFact → HandleFact → Bool
is_same_page a b = is_eq (handle_cmp a b)
