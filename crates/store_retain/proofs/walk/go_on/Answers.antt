-- No record, one more, and the last one.
use Rattle.std.proofs.Common.{map, refl, sym, ◌∙◌, subst}
use Rattle.store_retain.proofs.Follow.{iter_end, iter_next}
use Rattle.store_retain.proofs.walk.go_on.Goals as goal
use Rattle.store_retain.specs.FoundView.{stand_of}
use Rattle.store_retain.specs.PathView.{AreRight}
use Rattle.store_retain.specs.RoadView.{table_of}
use Rattle.store_retain.specs.Steps.{Follows, slots_of, stand_steps, stands_steps}

pub stands-init : goal.stands-init
stands-init g c = record {
  follows = λ end follows. follows;
  right = subst (AreRight (table_of c.args.parts.now)) (sym c.new-known.ensures) tt;
  applies = refl;
}

pub stands-preserved : goal.stands-preserved
stands-preserved g c = record {
  follows = iter_next (slots_of (g.S.RecordSource.records c.args.store.now.source.now)) c.args.store.now.root.now (λ s. stand_steps (slots_of (g.S.RecordSource.records c.args.store.now.source.now)) c.args.store.now.root.now (table_of c.args.parts.now) (stand_of s)) (λ ss. stands_steps (slots_of (g.S.RecordSource.records c.args.store.now.source.now)) c.args.store.now.root.now (table_of c.args.parts.now) (map stand_of ss)) (λ s ss. refl)
      c.stands.id-iterator c.next.new.self _ _ _ c.stands.found c.go_on_from.new.found c.in-Some.ensures.steps c.stands.invariant.follows
      (subst (λ ks. Follows (slots_of (g.S.RecordSource.records c.args.store.now.source.now)) c.args.store.now.root.now c.stands.found c.go_on_from.new.found (stand_steps (slots_of (g.S.RecordSource.records c.args.store.now.source.now)) c.args.store.now.root.now (table_of c.args.parts.now) (c.in-Some.field-0.now.0.now, ks))) c.deref.ensures.value c.in_ok-go_on_from.ensures.follows);
  right = c.in_ok-go_on_from.ensures.right;
  applies = c.in_ok-go_on_from.ensures.applies ∙ c.stands.invariant.applies;
}

pub returns-clause-follows : goal.returns-clause-follows
returns-clause-follows g c =
    subst (λ ss. Follows (slots_of (g.S.RecordSource.records c.args.store.now.source.now)) c.args.store.now.root.now c.args.found.now c.stands.found (stands_steps (slots_of (g.S.RecordSource.records c.args.store.now.source.now)) c.args.store.now.root.now (table_of c.args.parts.now) (map stand_of ss))) c.into_iter-id-iterator.ensures.into_iter_gives.0
    (iter_end (slots_of (g.S.RecordSource.records c.args.store.now.source.now)) c.args.store.now.root.now (λ s. stand_steps (slots_of (g.S.RecordSource.records c.args.store.now.source.now)) c.args.store.now.root.now (table_of c.args.parts.now) (stand_of s)) (λ ss. stands_steps (slots_of (g.S.RecordSource.records c.args.store.now.source.now)) c.args.store.now.root.now (table_of c.args.parts.now) (map stand_of ss)) (λ s ss. refl) refl
    c.stands.id-iterator _ _ c.stands.found c.in-None.ensures.steps.0 c.stands.invariant.follows)
