use Rattle.std.proofs.Common.{◌≡◌, ◌++◌, drop, map}
use Rattle.store_model.specs.declared.facts.HandleFact.{HandleFact}
use Rattle.store_sweeps.proofs.naming.put_parents.Given as goal

abbrev pub invariant-pages : goal.invariant-pages
invariant-pages l = l.ids.items ++ map (λ (h : HandleFact). h.parent) (drop l.page-index l.pages) ≡ l.fn.ids.items ++ map (λ (h : HandleFact). h.parent) l.pages
