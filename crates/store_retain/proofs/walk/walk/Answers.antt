-- One more round, and the last one.
use Rattle.std.proofs.Common.{◌≡◌, ◌+◌, ◌-◌, suc, sym, ap, ◌∙◌, subst, arith}
use Rattle.plan_ir.specs.gql_plain.Order.{has_text}
use Rattle.store_retain.proofs.Bools.{or_false}
use Rattle.store_retain.proofs.Rounds.{begun, round, still}
use Rattle.store_retain.proofs.walk.walk.Goals as goal
use Rattle.store_retain.specs.RoadView.{table_of}
use Rattle.store_retain.specs.Steps.{Follows, slots_of, stands_steps}

pub rounds-preserved : goal.rounds-preserved
rounds-preserved g c = record {
  ids = λ j.
      let one : c.args.rounds - c.rounds.counter ≡ suc (c.args.rounds - (c.rounds.counter + 1)) = omega arith in
      round (slots_of (g.S.RecordSource.records c.args.store.now.source.now)) c.args.store.now.root.now (table_of c.args.parts.now) j (c.args.rounds - (c.rounds.counter + 1)) c.rounds.found c.take_next-stands.new.self c.go_on.new.found c.take_next-stands.ensures.left
      (subst (λ ss. Follows (slots_of (g.S.RecordSource.records c.args.store.now.source.now)) c.args.store.now.root.now c.take_next-stands.new.self c.go_on.new.found (stands_steps (slots_of (g.S.RecordSource.records c.args.store.now.source.now)) c.args.store.now.root.now (table_of c.args.parts.now) ss)) c.take_next-stands.ensures.stands c.in_ok-go_on.ensures.follows)
      ∙ ap (λ n. still (slots_of (g.S.RecordSource.records c.args.store.now.source.now)) c.args.store.now.root.now (table_of c.args.parts.now) j n c.rounds.found) (sym one)
      ∙ c.rounds.invariant.ids j;
  applies = c.in_ok-go_on.ensures.applies ∙ c.rounds.invariant.applies;
}

pub returns-clause-ids : goal.returns-clause-ids
returns-clause-ids g c = λ j.
    let none : 0 ≡ c.args.rounds - c.rounds.counter = omega arith in
    sym (or_false (has_text c.rounds.found.ids j))
    ∙ ap (λ n. still (slots_of (g.S.RecordSource.records c.args.store.now.source.now)) c.args.store.now.root.now (table_of c.args.parts.now) j n c.rounds.found) none
    ∙ c.rounds.invariant.ids j
    ∙ begun (slots_of (g.S.RecordSource.records c.args.store.now.source.now)) c.args.store.now.root.now (table_of c.args.parts.now) j c.args.rounds c.args.found.now c.take_next.new.self c.stand.new.found _ c.take_next.ensures.left c.in_ok-stand.ensures.follows
