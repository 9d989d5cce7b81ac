use Rattle.std.proofs.Common.{refl, arith, [], ◌∷◌, map}
use Rattle.store_model.specs.declared.facts.HandleFact.{HandleFact}
use Rattle.store_sweeps.proofs.Written.{written_next, written_end}
use Rattle.store_sweeps.proofs.naming.put_parents.Goals as goal

pub pages-preserved : goal.pages-preserved
pages-preserved c = written_next (λ (h : HandleFact). h.parent ∷ []) (map (λ (h : HandleFact). h.parent)) (λ h hs. refl) c.args.pages.now c.pages.page-index c.page-item.result c.pages.ids.items _ _ (omega arith) c.page-item.is c.in_ok-put_id.ensures c.pages.invariant

pub returns : goal.returns
returns c = written_end (λ (h : HandleFact). h.parent ∷ []) (map (λ (h : HandleFact). h.parent)) (λ h hs. refl) refl c.args.pages.now c.pages.page-index c.pages.ids.items _ (omega arith) c.pages.invariant
