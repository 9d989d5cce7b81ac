use Rattle.std.proofs.Common.{◌≡◌, ◌+◌, ◌*◌, ◌≤◌, ◌∷◌, sym, ◌∙◌, subst}
use Rattle.store_update.specs.store_model.Entries.{apply}
use Rattle.store_layers.proofs.Removed.{without_entries}
use Rattle.store_layers.proofs.layers.Layers.draft_finish.Goals as goal
use Rattle.store_layers.specs.Changed.{AreChanged}
use Rattle.store_layers.specs.Drafts.{Fits, placed}
use Rattle.store_layers.specs.Layered.{Layered, entries_of, without, finished}
use Rattle.store_layers.specs.Versions.{layers_of, layered_of, IsPlaceOf}
use Rattle.store_layers.specs.Work.{weights}

pub returns-in_err-draft-clause-looks : goal.returns-in_err-draft-clause-looks
returns-in_err-draft-clause-looks g c =
    let r = g.S.RecordSource.records in
    let named = c.self.inside.entries.entries in
    let m = r c.self.inside.base in
    let name = c.args.name.now in
    let at = c.place_of-at.result in
    let place : IsPlaceOf name (layers_of named) at = subst (λ t. IsPlaceOf t (layers_of named) at) c.as_str.ensures c.place_of-at.ensures in
    let e = c.args.entry.now in
    subst (λ (s : Layered). g.S.Count.Steps.looks c.finish.new.steps ≤ g.S.Count.Steps.looks c.args.steps.now + 8 * weights (e ∷ entries_of (without name s.live)) s.base) c.self.view_is
    (subst (λ es. g.S.Count.Steps.looks c.finish.new.steps ≤ g.S.Count.Steps.looks c.args.steps.now + 8 * weights (e ∷ es) m) (sym (without_entries name named at place)) c.finish.ensures.looks)

pub returns-clause-looks : goal.returns-clause-looks
returns-clause-looks g c =
    let r = g.S.RecordSource.records in
    let named = c.self.inside.entries.entries in
    let m = r c.self.inside.base in
    let name = c.args.name.now in
    let at = c.place_of-at.result in
    let place : IsPlaceOf name (layers_of named) at = subst (λ t. IsPlaceOf t (layers_of named) at) c.as_str.ensures c.place_of-at.ensures in
    let e = c.args.entry.now in
    subst (λ (s : Layered). g.S.Count.Steps.looks c.finish.new.steps ≤ g.S.Count.Steps.looks c.args.steps.now + 8 * weights (e ∷ entries_of (without name s.live)) s.base) c.self.view_is
    (subst (λ es. g.S.Count.Steps.looks c.finish.new.steps ≤ g.S.Count.Steps.looks c.args.steps.now + 8 * weights (e ∷ es) m) (sym (without_entries name named at place)) c.finish.ensures.looks)

pub returns-clause-fits : goal.returns-clause-fits
returns-clause-fits g c = subst (λ (s : Layered). Fits g.S.RecordSource.records s c.in_ok-draft.draft) c.self.view_is c.in_ok-draft.ensures.fits

pub returns-clause-placed : goal.returns-clause-placed
returns-clause-placed g c =
    let r = g.S.RecordSource.records in
    let named = c.self.inside.entries.entries in
    let m = r c.self.inside.base in
    let name = c.args.name.now in
    let at = c.place_of-at.result in
    let place : IsPlaceOf name (layers_of named) at = subst (λ t. IsPlaceOf t (layers_of named) at) c.as_str.ensures c.place_of-at.ensures in
    let e = c.args.entry.now in
    let left : placed r (layered_of m named) c.in_ok-draft.draft ≡ finished name e (layered_of m named) =
    c.in_ok-draft.ensures.placed ∙ (λ i. record { base = apply e m; live = sym place.without i }) in
    subst (λ (s : Layered). placed r s c.in_ok-draft.draft ≡ finished name e s) c.self.view_is left

pub returns-clause-changed : goal.returns-clause-changed
returns-clause-changed g c =
    let r = g.S.RecordSource.records in
    let named = c.self.inside.entries.entries in
    let m = r c.self.inside.base in
    let name = c.args.name.now in
    let at = c.place_of-at.result in
    let place : IsPlaceOf name (layers_of named) at = subst (λ t. IsPlaceOf t (layers_of named) at) c.as_str.ensures c.place_of-at.ensures in
    let e = c.args.entry.now in
    let ids = c.in_ok-draft.draft.touched in
    subst (λ (s : Layered). AreChanged s.base (entries_of s.live) (e ∷ entries_of (without name s.live)) ids) c.self.view_is
    (subst (λ es. AreChanged m (entries_of (layers_of named)) (e ∷ es) ids) (sym (without_entries name named at place)) c.in_ok-draft.ensures.ids)
