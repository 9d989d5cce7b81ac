use Rattle.std.proofs.Common.{◌∙◌, ap, nat_cmp}
use Rattle.std.specs.Cmp.Lexicographic.{slice_cmp}
use Rattle.std.specs.FinMap.{find}
use Rattle.store_source.proofs.Laid.{found_below, found_newest}
use Rattle.store_source.proofs.versions.VersionsRecordSource.get.Goals as goal

pub returns-in-Some-clause-found : goal.returns-in-Some-clause-found
returns-in-Some-clause-found c =
    found_newest c.self.inside.newest.items c.self.inside.tree.pairs _ c.self.view_is c.args.id.now c.in-Some.slot.now (c.in-Some.ensures ∙ ap (find (slice_cmp nat_cmp) c.args.id.now) c.deref.ensures.value)

pub returns-in-None-clause-found : goal.returns-in-None-clause-found
returns-in-None-clause-found c =
    found_below c.self.inside.newest.items c.self.inside.tree.pairs _ c.self.view_is c.args.id.now _ c.get.ensures.in_order
    (c.in-None.ensures ∙ ap (find (slice_cmp nat_cmp) c.args.id.now) c.deref.ensures.value) c.get.ensures.found
