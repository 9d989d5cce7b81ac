use Rattle.std.proofs.Common.{◌≡◌, ◌+◌, ◌<◌, ◌++◌, ◌∷◌, [], length, sym, ap, ◌∙◌, subst, arith}
use Rattle.std.specs.List.{AllByRecursion}
use Rattle.store_update.proofs.store_model_laws.Least.{each_append}
use Rattle.store_update.specs.store_model.Said.{HaveHandleKeys}
use Rattle.store_update.specs.store_model.declared.entry.Entry.{Entry}
use Rattle.store_layers.proofs.Rebuilt.{within_all}
use Rattle.store_layers.proofs.Steps.{within_more}
use Rattle.store_layers.proofs.fold.look_at_keys.Goals as goal
use Rattle.store_layers.specs.Versions.{entries_within}

abbrev Keyed : Entry → Type 0
Keyed e = HaveHandleKeys e.facts.handles

pub layers-preserved : goal.layers-preserved
layers-preserved c =
    let named = c.args.entries.now.entries in
    let at = c.layers.at in
    let lt : at < length named = omega (arith, c.layers-test.true, c.len-end.ensures.len) in
    let more : entries_within 0 (at + 1) named ≡ entries_within 0 at named ++ c.deref.result.now ∷ [] =
    within_more named 0 at c.index.result.now (omega arith) lt c.index.ensures ∙ ap (λ e. entries_within 0 at named ++ e ∷ []) (sym c.deref.ensures) in
    record {
      order = omega arith;
      keys = subst (AllByRecursion Keyed) (sym more) (each_append Keyed (entries_within 0 at named) (c.deref.result.now ∷ []) c.layers.invariant.keys (c.look_at_key.ensures, tt));
    }

pub returns : goal.returns
returns c =
    let named = c.args.entries.now.entries in
    let past : c.layers.at ≡ length named = omega (arith, c.layers-test.false, c.layers.invariant.order, c.len-end.ensures.len) in
    subst (AllByRecursion Keyed) (within_all named c.layers.at past) c.layers.invariant.keys
