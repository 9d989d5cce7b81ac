use Rattle.std.proofs.Common.{ap, ◌∙◌}
use Rattle.store_layers.proofs.VersionSteps.{newest_is}
use Rattle.store_layers.proofs.layers.Layers.view.Goals as goal
use Rattle.store_layers.specs.Layered.{entries_of, view_of}
use Rattle.store_layers.specs.Versions.{shown, newest, layers_of}

pub returns : goal.returns
returns g c =
    let r = g.S.RecordSource.records in
    let vs = c.self.inside.versions.items in
    let top0 = c.newest.ensures ∙ ap (λ xs. newest (r c.self.inside.base) (shown r xs)) c.deref.ensures.value ∙ newest_is (r c.self.inside.base) (entries_of (layers_of c.self.inside.entries.entries)) (shown r vs) c.self.invariant.versions in
    top0 ∙ ap view_of c.self.view_is
