use Rattle.std.proofs.Common.{◌≡◌, ◌+◌, ◌<◌, ◌||◌, ◌++◌, ◌∷◌, [], length, sym, ap, ◌∙◌, arith}
use Rattle.std.proofs.lemmas.Result.{IfOk-weaker}
use Rattle.store_update.specs.gql_plain.Order.{AreSortedOf, has_text}
use Rattle.store_update.specs.store_model.Entries.{all_named, ids_named}
use Rattle.store_sweeps.proofs.Written.{sorted_has}
use Rattle.store_layers.proofs.Rebuilt.{named_more, within_all}
use Rattle.store_layers.proofs.Steps.{within_more}
use Rattle.store_layers.proofs.naming.ids_named.Goals as goal
use Rattle.store_layers.specs.Layered.{entries_of}
use Rattle.store_layers.specs.Versions.{entries_within, layers_of}

pub layers-preserved : goal.layers-preserved
layers-preserved c =
    let named = c.args.entries.now.entries in
    let at = c.layers.at in
    let entry = c.deref.result.now in
    let lt : at < length named = omega (arith, c.layers-test.true, c.len-end.ensures.len) in
    let more : entries_within 0 (at + 1) named ≡ entries_within 0 at named ++ entry ∷ [] =
    within_more named 0 at c.index.result.now (omega arith) lt c.index.ensures ∙ ap (λ e. entries_within 0 at named ++ e ∷ []) (sym c.deref.ensures) in
    record {
      order = omega arith;
      named = λ j.
          c.in_ok-put_named.ensures j
          ∙ ap (λ b. b || has_text (ids_named entry) j) (c.layers.invariant.named j)
          ∙ sym (named_more (entries_within 0 at named) entry j)
          ∙ ap (λ es. has_text (all_named es) j) (sym more);
    }

pub returns : goal.returns
returns c = λ j.
    let named = c.args.entries.now.entries in
    let words = c.layers.named.items in
    IfOk-weaker c.sort.result (AreSortedOf words) (λ ids. has_text ids j ≡ has_text (all_named (entries_of (layers_of named))) j)
    (λ ids sorted. sorted_has words ids j sorted ∙ c.layers.invariant.named j ∙ ap (λ es. has_text (all_named es) j) (within_all named c.layers.at (omega (arith, c.layers.invariant.order, c.layers-test.false, c.len-end.ensures.len))))
    c.sort.ensures
