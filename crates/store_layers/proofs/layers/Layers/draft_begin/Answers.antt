use Rattle.std.proofs.Common.{◌≡◌, subst}
use Rattle.store_layers.proofs.layers.Layers.draft_begin.Goals as goal
use Rattle.store_layers.specs.Drafts.{Fits, placed}
use Rattle.store_layers.specs.Layered.{Layered, begun}

pub returns-clause-fits : goal.returns-clause-fits
returns-clause-fits g c = subst (λ (s : Layered). Fits g.S.RecordSource.records s c.in_ok-draft.draft) c.self.view_is c.in_ok-draft.ensures.fits

pub returns-clause-placed : goal.returns-clause-placed
returns-clause-placed g c =
    subst (λ (s : Layered). placed g.S.RecordSource.records s c.in_ok-draft.draft ≡ begun c.args.name c.args.entry s) c.self.view_is c.in_ok-draft.ensures.placed
