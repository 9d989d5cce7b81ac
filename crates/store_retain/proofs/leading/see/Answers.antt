use Rattle.std.proofs.Common.{◌||◌, bytes_eq, is_some, sym, ap, ◌∙◌}
use Rattle.plan_ir.specs.gql_plain.Order.{has_text}
use Rattle.plan_ir.specs.store_model.Records.{live}
use Rattle.store_retain.proofs.LeadingSteps.{has_inserted, opened_dead, opened_live, was_new, less_dead, less_live}
use Rattle.store_retain.proofs.leading.see.Goals as goal

pub returns-then-not-is_new-clause-noted : goal.returns-then-not-is_new-clause-noted
returns-then-not-is_new-clause-noted g c = λ j.
    ap (λ ks. has_text ks j) c.in_ok-is_new.ensures.keys ∙ has_inserted c.args.leading.now.noted.keys c.in_ok-copy.copy j ∙ ap (λ t. has_text c.args.leading.now.noted.keys j || bytes_eq t j) c.in_ok-copy.ensures

pub returns-then-not-is_live-clause-noted : goal.returns-then-not-is_live-clause-noted
returns-then-not-is_live-clause-noted g c = λ j.
    ap (λ ks. has_text ks j) c.in_ok-is_new.ensures.keys ∙ has_inserted c.args.leading.now.noted.keys c.in_ok-copy.copy j ∙ ap (λ t. has_text c.args.leading.now.noted.keys j || bytes_eq t j) c.in_ok-copy.ensures

pub returns-clause-noted : goal.returns-clause-noted
returns-clause-noted g c = λ j.
    ap (λ ks. has_text ks j) c.in_ok-is_new.ensures.keys ∙ has_inserted c.args.leading.now.noted.keys c.in_ok-copy.copy j ∙ ap (λ t. has_text c.args.leading.now.noted.keys j || bytes_eq t j) c.in_ok-copy.ensures

pub returns-then-not-is_live-clause-opened : goal.returns-then-not-is_live-clause-opened
returns-then-not-is_live-clause-opened g c = λ except before.
    let m = g.S.RecordSource.records c.args.source.now in
    let old = c.args.leading.now.noted.keys in
    opened_dead m old c.insert.new.self.keys c.args.leading.now.pending.items c.args.id except
    (λ j. ap (λ ks. has_text ks j) c.in_ok-is_new.ensures.keys ∙ has_inserted old c.in_ok-copy.copy j ∙ ap (λ t. has_text old j || bytes_eq t j) c.in_ok-copy.ensures)
    (ap (λ t. is_some (live t m)) (sym c.as_str.ensures) ∙ sym c.is_live.ensures.live ∙ c.if-not-is_live.true) before

pub returns-then-not-is_live-clause-less : goal.returns-then-not-is_live-clause-less
returns-then-not-is_live-clause-less g c =
    let old = c.args.leading.now.noted.keys in
    less_dead (g.S.RecordSource.records c.args.source.now) old c.insert.new.self.keys c.args.leading.now.pending.items c.args.id
    (λ j. ap (λ ks. has_text ks j) c.in_ok-is_new.ensures.keys ∙ has_inserted old c.in_ok-copy.copy j ∙ ap (λ t. has_text old j || bytes_eq t j) c.in_ok-copy.ensures)

pub returns-clause-opened : goal.returns-clause-opened
returns-clause-opened g c = λ except before.
    let old = c.args.leading.now.noted.keys in
    opened_live (g.S.RecordSource.records c.args.source.now) old c.insert.new.self.keys c.args.leading.now.pending.items c.push.new.self.items c.args.id except
    (λ j. ap (λ ks. has_text ks j) c.in_ok-is_new.ensures.keys ∙ has_inserted old c.in_ok-copy.copy j ∙ ap (λ t. has_text old j || bytes_eq t j) c.in_ok-copy.ensures)
    c.in_ok-push.ensures.items before

pub returns-clause-less : goal.returns-clause-less
returns-clause-less g c =
    let m = g.S.RecordSource.records c.args.source.now in
    let old = c.args.leading.now.noted.keys in
    less_live m old c.insert.new.self.keys c.args.leading.now.pending.items c.push.new.self.items c.args.id
    (λ j. ap (λ ks. has_text ks j) c.in_ok-is_new.ensures.keys ∙ has_inserted old c.in_ok-copy.copy j ∙ ap (λ t. has_text old j || bytes_eq t j) c.in_ok-copy.ensures)
    c.in_ok-push.ensures.items
    (ap (λ t. is_some (live t m)) (sym c.as_str.ensures) ∙ sym c.is_live.ensures.live ∙ c.if-not-is_live.false)
    (was_new old c.args.id c.in_ok-copy.copy c.in_ok-is_new.is_new c.in_ok-copy.ensures c.in_ok-is_new.ensures.added c.if-not-is_new.false)
