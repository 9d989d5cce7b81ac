use Rattle.std.proofs.Common.{◌≡◌, ◌+◌, [], ◌||◌, take, drop, sym, ap, ◌∙◌, subst, arith}
use Rattle.store_update.specs.store_model.Entries.{fold_entries}
use Rattle.store_layers.proofs.Drafted.{below_is, seen_above, within_layers}
use Rattle.store_layers.proofs.Rebuilt.{reverted_ids, revert_weighs, shown-drop, kept_length, within_rest}
use Rattle.store_layers.proofs.VersionSteps.{newest_is}
use Rattle.store_layers.proofs.rebuild.revert.Goals as goal
use Rattle.store_layers.specs.Layered.{entries_of}
use Rattle.store_layers.specs.Versions.{shown, newest, AreVersions, is_noted, layers_of, entries_within}
use Rattle.store_layers.specs.Work.{weights}

pub split_at-parts-requires : goal.split_at-parts-requires
split_at-parts-requires g c =
    let r = g.S.RecordSource.records in
    let m = r c.args.base.now in
    let named = c.args.entries.now.entries in
    let at = c.args.at in
    let n = c.len-count.result in
    let es = entries_of (layers_of named) in
    omega (arith, c.requires.place, kept_length r m named c.args.versions.now c.requires.kept.versions)

pub returns-in_err-put_versions-clause-looks : goal.returns-in_err-put_versions-clause-looks
returns-in_err-put_versions-clause-looks g c =
    let r = g.S.RecordSource.records in
    let m = r c.args.base.now in
    let named = c.args.entries.now.entries in
    let at = c.args.at in
    let n = c.len-count.result in
    let es = entries_of (layers_of named) in
    let below : r c.newest-below.result.now ≡ fold_entries (take at es) m =
    c.newest-below.ensures ∙ ap (λ xs. newest m (shown r xs)) c.split_at-parts.ensures.front ∙ below_is r m named at c.args.versions.now c.requires.kept.versions in
    let h0 : AreVersions (r c.newest-below.result.now) [] (shown r c.new-after.result.items) =
    subst (λ xs. AreVersions (r c.newest-below.result.now) [] (shown r xs)) (sym c.new-after.ensures.items) tt in
    let later = c.put_versions.ensures.looks [] h0 in
    let weighs = ap (weights (entries_within (at + 1) n named)) below ∙ revert_weighs m named at n c.len-count.ensures.len in
    omega (arith, later, weighs)

pub returns-in_err-touched-clause-looks : goal.returns-in_err-touched-clause-looks
returns-in_err-touched-clause-looks g c =
    let r = g.S.RecordSource.records in
    let m = r c.args.base.now in
    let named = c.args.entries.now.entries in
    let at = c.args.at in
    let n = c.len-count.result in
    let es = entries_of (layers_of named) in
    let below : r c.newest-below.result.now ≡ fold_entries (take at es) m =
    c.newest-below.ensures ∙ ap (λ xs. newest m (shown r xs)) c.split_at-parts.ensures.front ∙ below_is r m named at c.args.versions.now c.requires.kept.versions in
    let h0 : AreVersions (r c.newest-below.result.now) [] (shown r c.new-after.result.items) =
    subst (λ xs. AreVersions (r c.newest-below.result.now) [] (shown r xs)) (sym c.new-after.ensures.items) tt in
    let later = c.put_versions.ensures.looks [] h0 in
    let weighs = ap (weights (entries_within (at + 1) n named)) below ∙ revert_weighs m named at n c.len-count.ensures.len in
    omega (arith, later, weighs)

pub returns-in_err-view-clause-looks : goal.returns-in_err-view-clause-looks
returns-in_err-view-clause-looks g c =
    let r = g.S.RecordSource.records in
    let m = r c.args.base.now in
    let named = c.args.entries.now.entries in
    let at = c.args.at in
    let n = c.len-count.result in
    let es = entries_of (layers_of named) in
    let below : r c.newest-below.result.now ≡ fold_entries (take at es) m =
    c.newest-below.ensures ∙ ap (λ xs. newest m (shown r xs)) c.split_at-parts.ensures.front ∙ below_is r m named at c.args.versions.now c.requires.kept.versions in
    let h0 : AreVersions (r c.newest-below.result.now) [] (shown r c.new-after.result.items) =
    subst (λ xs. AreVersions (r c.newest-below.result.now) [] (shown r xs)) (sym c.new-after.ensures.items) tt in
    let later = c.put_versions.ensures.looks [] h0 in
    let weighs = ap (weights (entries_within (at + 1) n named)) below ∙ revert_weighs m named at n c.len-count.ensures.len in
    omega (arith, later, weighs)

pub returns-clause-looks : goal.returns-clause-looks
returns-clause-looks g c =
    let r = g.S.RecordSource.records in
    let m = r c.args.base.now in
    let named = c.args.entries.now.entries in
    let at = c.args.at in
    let n = c.len-count.result in
    let es = entries_of (layers_of named) in
    let below : r c.newest-below.result.now ≡ fold_entries (take at es) m =
    c.newest-below.ensures ∙ ap (λ xs. newest m (shown r xs)) c.split_at-parts.ensures.front ∙ below_is r m named at c.args.versions.now c.requires.kept.versions in
    let h0 : AreVersions (r c.newest-below.result.now) [] (shown r c.new-after.result.items) =
    subst (λ xs. AreVersions (r c.newest-below.result.now) [] (shown r xs)) (sym c.new-after.ensures.items) tt in
    let later = c.put_versions.ensures.looks [] h0 in
    let weighs = ap (weights (entries_within (at + 1) n named)) below ∙ revert_weighs m named at n c.len-count.ensures.len in
    omega (arith, later, weighs)

pub returns-clause-fits : goal.returns-clause-fits
returns-clause-fits g c =
    let r = g.S.RecordSource.records in
    let m = r c.args.base.now in
    let named = c.args.entries.now.entries in
    let at = c.args.at in
    let n = c.len-count.result in
    let es = entries_of (layers_of named) in
    let low = r c.newest-below.result.now in
    let below : low ≡ fold_entries (take at es) m =
    c.newest-below.ensures ∙ ap (λ xs. newest m (shown r xs)) c.split_at-parts.ensures.front ∙ below_is r m named at c.args.versions.now c.requires.kept.versions in
    let news = shown r c.put_versions.new.versions.items in
    let put : AreVersions low (entries_within (at + 1) n named) news =
    c.in_ok-put_versions.ensures.versions [] (subst (λ xs. AreVersions low [] (shown r xs)) (sym c.new-after.ensures.items) tt) in
    let new : AreVersions (fold_entries (take at es) m) (drop (at + 1) es) news =
    subst (λ x. AreVersions x (drop (at + 1) es) news) below (subst (λ fs. AreVersions low fs news) (within_rest named (at + 1) n c.len-count.ensures.len) put) in
    record {
      suits = (within_layers named at c.requires.place, new);
      view = c.in_ok-view.ensures ∙ c.newest.ensures ∙ ap (λ xs. newest low (shown r xs)) c.deref-2.ensures.value ∙ ap (λ x. newest x news) below
          ∙ newest_is (fold_entries (take at es) m) (drop (at + 1) es) news new ∙ sym (seen_above m named at);
    }

pub returns-clause-ids : goal.returns-clause-ids
returns-clause-ids g c =
    let r = g.S.RecordSource.records in
    let m = r c.args.base.now in
    let named = c.args.entries.now.entries in
    let at = c.args.at in
    let n = c.len-count.result in
    let es = entries_of (layers_of named) in
    let low = r c.newest-below.result.now in
    let below : low ≡ fold_entries (take at es) m =
    c.newest-below.ensures ∙ ap (λ xs. newest m (shown r xs)) c.split_at-parts.ensures.front ∙ below_is r m named at c.args.versions.now c.requires.kept.versions in
    let news = shown r c.put_versions.new.versions.items in
    let put : AreVersions low (entries_within (at + 1) n named) news =
    c.in_ok-put_versions.ensures.versions [] (subst (λ xs. AreVersions low [] (shown r xs)) (sym c.new-after.ensures.items) tt) in
    let new : AreVersions (fold_entries (take at es) m) (drop (at + 1) es) news =
    subst (λ x. AreVersions x (drop (at + 1) es) news) below (subst (λ fs. AreVersions low fs news) (within_rest named (at + 1) n c.len-count.ensures.len) put) in
    let olds = shown r c.args.versions.now in
    let dropped = ap (shown r) c.split_at-parts.ensures.back ∙ shown-drop r at c.args.versions.now in
    reverted_ids m named at olds news c.in_ok-touched.touched c.requires.kept.versions new
    (λ id. c.in_ok-touched.ensures id ∙ (λ i. is_noted (dropped i) id || is_noted (shown r (c.deref.ensures.value i)) id))
