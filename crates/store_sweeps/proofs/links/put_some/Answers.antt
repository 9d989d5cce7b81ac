use Rattle.std.proofs.Common.{◌++◌, refl, ap, ◌∙◌, arith}
use Rattle.store_model.specs.Entries.{some_id, some_ids}
use Rattle.store_sweeps.proofs.NamedIds.{some_cons}
use Rattle.store_sweeps.proofs.Written.{written_next, written_end}
use Rattle.store_sweeps.proofs.links.put_some.Goals as goal

pub links-preserved : goal.links-preserved
links-preserved c = written_next (some_id) (some_ids) (some_cons) c.as_slice-link-items.result.now c.links.link-index c.link-item.result c.links.ids.items _ _ (omega arith) c.link-item.is c.in_ok-put_any.ensures c.links.invariant

pub returns : goal.returns
returns c = written_end (some_id) (some_ids) (some_cons) refl c.as_slice-link-items.result.now c.links.link-index c.links.ids.items _ (omega arith) c.links.invariant ∙ ap (λ links. c.args.ids.now.items ++ some_ids links) c.as_slice-link-items.ensures
