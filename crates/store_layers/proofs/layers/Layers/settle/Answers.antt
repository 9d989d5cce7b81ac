use Rattle.std.proofs.Common.{sym, subst}
use Rattle.store_layers.proofs.Begun.{begun_kept}
use Rattle.store_layers.proofs.Drafted.{taken_off, room_above, confirmed_kept}
use Rattle.store_layers.proofs.layers.Layers.settle.Goals as goal
use Rattle.store_layers.specs.Drafts.{Suits}
use Rattle.store_layers.specs.Layered.{Layered, entries_of, view_of}
use Rattle.store_layers.specs.Versions.{AreVersions, layered_of, layers_of, shown}

pub invariant_of-self-in-Begun : goal.invariant_of-self-in-Begun
invariant_of-self-in-Begun g c =
    let r = g.S.RecordSource.records in
    let named = c.self.inside.entries.entries in
    let from = layered_of (r c.self.inside.base) named in
    let suits = subst (Suits r from) c.in-Begun.is (subst (λ (s : Layered). Suits r s c.args.draft.placing) (sym c.self.view_is) c.requires.suits) in
    begun_kept r from.base from.live (layers_of c.put_layer.new.entries.entries) c.self.inside.versions.items c.put_layer.new.versions.items c.in-Begun.name c.in-Begun.entry c.in-Begun.version
    (view_of from) c.self.invariant c.in_ok-put_layer-in-Begun.ensures.layers c.in_ok-put_layer-in-Begun.ensures.versions (λ i. view_of from) suits.1 suits.2

pub take_off-requires : goal.take_off-requires
take_off-requires g c =
    let r = g.S.RecordSource.records in
    let named = c.self.inside.entries.entries in
    let from = layered_of (r c.self.inside.base) named in
    let suits = subst (Suits r from) c.in-Reverted.is (subst (λ (s : Layered). Suits r s c.args.draft.placing) (sym c.self.view_is) c.requires.suits) in
    record { room = room_above r from.base named c.in-Reverted.at c.self.inside.versions.items c.in-Reverted.versions.items suits.0 c.self.invariant.versions suits.1 }

pub invariant_of-self-in-Reverted : goal.invariant_of-self-in-Reverted
invariant_of-self-in-Reverted g c =
    let r = g.S.RecordSource.records in
    let named = c.self.inside.entries.entries in
    let from = layered_of (r c.self.inside.base) named in
    let suits = subst (Suits r from) c.in-Reverted.is (subst (λ (s : Layered). Suits r s c.args.draft.placing) (sym c.self.view_is) c.requires.suits) in
    record {
      versions = taken_off r from.base named c.take_off.new.entries.entries c.in-Reverted.at c.self.inside.versions.items c.in-Reverted.versions.items c.take_off.new.versions.items
          c.self.invariant.versions suits.1 c.take_off.ensures.layers c.take_off.ensures.versions;
    }

pub invariant_of-self-in-Confirmed : goal.invariant_of-self-in-Confirmed
invariant_of-self-in-Confirmed g c =
    let r = g.S.RecordSource.records in
    let named = c.self.inside.entries.entries in
    let from = layered_of (r c.self.inside.base) named in
    let suits = subst (Suits r from) c.in-Confirmed.is (subst (λ (s : Layered). Suits r s c.args.draft.placing) (sym c.self.view_is) c.requires.suits) in
    record {
      versions = subst (λ b. AreVersions b (entries_of (layers_of c.take_out.new.entries.entries)) (shown r c.in-Confirmed.versions.items)) (sym c.settle.ensures)
          (confirmed_kept r (r c.in-Confirmed.base) named c.take_out.new.entries.entries c.in-Confirmed.gone c.in-Confirmed.versions.items suits.1 c.take_out.ensures);
    }
