use Rattle.std.proofs.Common.{◌≡◌, ◌+◌, ◌*◌, ◌≤◌, drop, sym, ◌∙◌, subst}
use Rattle.store_update.specs.store_model.Entries.{fold_entries}
use Rattle.store_layers.proofs.Removed.{below_entries, from_on_entries, above_entries}
use Rattle.store_layers.proofs.layers.Layers.draft_revert.Goals as goal
use Rattle.store_layers.specs.Changed.{AreChanged}
use Rattle.store_layers.specs.Drafts.{Fits, placed}
use Rattle.store_layers.specs.Layered.{Layered, entries_of, below, from_on, above, reverted}
use Rattle.store_layers.specs.Versions.{layers_of, layered_of, IsPlaceOf}
use Rattle.store_layers.specs.Work.{weights}

pub returns-in_err-draft-clause-looks : goal.returns-in_err-draft-clause-looks
returns-in_err-draft-clause-looks g c =
    let r = g.S.RecordSource.records in
    let named = c.self.inside.entries.entries in
    let m = r c.self.inside.base in
    let name = c.args.name.now in
    let at = c.place_of-at.result in
    let place : IsPlaceOf name (layers_of named) at = subst (λ t. IsPlaceOf t (layers_of named) at) c.as_str.ensures c.place_of-at.ensures in
    let new = c.revert.new.steps in
    let old = g.S.Count.Steps.looks c.args.steps.now in
    subst (λ (s : Layered). g.S.Count.Steps.looks new ≤ old + 8 * weights (entries_of (above name s.live)) (fold_entries (entries_of (below name s.live)) s.base)) c.self.view_is
    (subst (λ es. g.S.Count.Steps.looks new ≤ old + 8 * weights es (fold_entries (entries_of (below name (layers_of named))) m)) (sym (above_entries name named at place))
    (subst (λ bs. g.S.Count.Steps.looks new ≤ old + 8 * weights (drop (at + 1) (entries_of (layers_of named))) (fold_entries bs m)) (sym (below_entries name named at place)) c.revert.ensures.looks))

pub returns-clause-looks : goal.returns-clause-looks
returns-clause-looks g c =
    let r = g.S.RecordSource.records in
    let named = c.self.inside.entries.entries in
    let m = r c.self.inside.base in
    let name = c.args.name.now in
    let at = c.place_of-at.result in
    let place : IsPlaceOf name (layers_of named) at = subst (λ t. IsPlaceOf t (layers_of named) at) c.as_str.ensures c.place_of-at.ensures in
    let new = c.revert.new.steps in
    let old = g.S.Count.Steps.looks c.args.steps.now in
    subst (λ (s : Layered). g.S.Count.Steps.looks new ≤ old + 8 * weights (entries_of (above name s.live)) (fold_entries (entries_of (below name s.live)) s.base)) c.self.view_is
    (subst (λ es. g.S.Count.Steps.looks new ≤ old + 8 * weights es (fold_entries (entries_of (below name (layers_of named))) m)) (sym (above_entries name named at place))
    (subst (λ bs. g.S.Count.Steps.looks new ≤ old + 8 * weights (drop (at + 1) (entries_of (layers_of named))) (fold_entries bs m)) (sym (below_entries name named at place)) c.revert.ensures.looks))

pub returns-clause-fits : goal.returns-clause-fits
returns-clause-fits g c = subst (λ (s : Layered). Fits g.S.RecordSource.records s c.in_ok-draft.draft) c.self.view_is c.in_ok-draft.ensures.fits

pub returns-clause-placed : goal.returns-clause-placed
returns-clause-placed g c =
    let r = g.S.RecordSource.records in
    let named = c.self.inside.entries.entries in
    let m = r c.self.inside.base in
    let name = c.args.name.now in
    let at = c.place_of-at.result in
    let place : IsPlaceOf name (layers_of named) at = subst (λ t. IsPlaceOf t (layers_of named) at) c.as_str.ensures c.place_of-at.ensures in
    let left : placed r (layered_of m named) c.in_ok-draft.draft ≡ reverted name (layered_of m named) =
    c.in_ok-draft.ensures.placed ∙ (λ i. record { base = m; live = sym place.without i }) in
    subst (λ (s : Layered). placed r s c.in_ok-draft.draft ≡ reverted name s) c.self.view_is left

pub returns-clause-changed : goal.returns-clause-changed
returns-clause-changed g c =
    let r = g.S.RecordSource.records in
    let named = c.self.inside.entries.entries in
    let m = r c.self.inside.base in
    let name = c.args.name.now in
    let at = c.place_of-at.result in
    let place : IsPlaceOf name (layers_of named) at = subst (λ t. IsPlaceOf t (layers_of named) at) c.as_str.ensures c.place_of-at.ensures in
    let ids = c.in_ok-draft.draft.touched in
    subst (λ (s : Layered). AreChanged (fold_entries (entries_of (below name s.live)) s.base) (entries_of (from_on name s.live)) (entries_of (above name s.live)) ids) c.self.view_is
    (subst (λ es. AreChanged (fold_entries (entries_of (below name (layers_of named))) m) (entries_of (from_on name (layers_of named))) es ids) (sym (above_entries name named at place))
    (subst (λ es. AreChanged (fold_entries (entries_of (below name (layers_of named))) m) es (drop (at + 1) (entries_of (layers_of named))) ids) (sym (from_on_entries name named at place))
    (subst (λ bs. AreChanged (fold_entries bs m) (drop at (entries_of (layers_of named))) (drop (at + 1) (entries_of (layers_of named))) ids) (sym (below_entries name named at place)) c.in_ok-draft.ensures.ids)))
