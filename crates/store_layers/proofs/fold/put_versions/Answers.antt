use Rattle.std.proofs.Common.{◌≡◌, suc, ◌+◌, ◌-◌, ◌≤◌, ◌<◌, length, ◌++◌, ◌∷◌, [], append_assoc, sym, ap, ◌∙◌, subst, arith}
use Rattle.store_update.specs.gql_plain.Counted.{next_count}
use Rattle.store_update.specs.store_model.Entries.{fold_entries}
use Rattle.store_layers.proofs.Steps.{within_more, step_weighs, within_weighs, next_le}
use Rattle.store_layers.proofs.fold.put_versions.Goals as goal
use Rattle.store_layers.specs.Versions.{shown, AreVersions, entries_within}
use Rattle.store_layers.specs.Work.{counted}

pub returns-in_err-put_version-clause-looks : goal.returns-in_err-put_version-clause-looks
returns-in_err-put_version-clause-looks g c = λ before h.
    let named = c.args.entries.now.entries in
    let m = g.S.RecordSource.records c.args.base.now in
    let lt : c.layers.at < length named = omega (arith, c.layers-test.true, c.requires.within) in
    let one = step_weighs before named c.args.from c.layers.at c.index.result.now c.deref.result.now m c.layers.invariant.order lt c.index.ensures c.deref.ensures in
    let most = within_weighs named c.args.from c.layers.at c.args.end (fold_entries before m) c.layers-test.true in
    let now = c.put_version.ensures.looks (before ++ entries_within c.args.from c.layers.at named) (c.layers.invariant.versions before h) in
    let past = c.layers.invariant.looks before h in
    omega (arith, one, most, now, past)

pub layers-preserved : goal.layers-preserved
layers-preserved g c =
    let named = c.args.entries.now.entries in
    let m = g.S.RecordSource.records c.args.base.now in
    let from = c.args.from in
    let at = c.layers.at in
    let le : from ≤ at = c.layers.invariant.order in
    let lt : at < length named = omega (arith, c.layers-test.true, c.requires.within) in
    let more : entries_within from (at + 1) named ≡ entries_within from at named ++ c.deref.result.now ∷ [] =
    within_more named from at c.index.result.now le lt c.index.ensures ∙ ap (λ e. entries_within from at named ++ e ∷ []) (sym c.deref.ensures) in
    let next : suc (at - from) ≡ at + 1 - from = omega (arith, le) in
    record {
      order = omega (arith, le);
      versions = λ before h. subst (λ es. AreVersions m es (shown g.S.RecordSource.records c.put_version.new.versions.items))
          (append_assoc before (entries_within from at named) (c.deref.result.now ∷ []) ∙ ap (λ es. before ++ es) (sym more))
          (c.in_ok-put_version.ensures.versions (before ++ entries_within from at named) (c.layers.invariant.versions before h));
      exact = c.put_version.ensures.applies ∙ ap next_count c.layers.invariant.exact ∙ ap (λ n. counted n (g.S.Count.Steps.applies c.args.steps.now)) next;
      applies = omega (arith, le, c.put_version.ensures.applies, next_le (g.S.Count.Steps.applies c.layers.steps), c.layers.invariant.applies);
      looks = λ before h.
          let one = step_weighs before named from at c.index.result.now c.deref.result.now m le lt c.index.ensures c.deref.ensures in
          let now = c.put_version.ensures.looks (before ++ entries_within from at named) (c.layers.invariant.versions before h) in
          let past = c.layers.invariant.looks before h in
          omega (arith, one, now, past);
    }
