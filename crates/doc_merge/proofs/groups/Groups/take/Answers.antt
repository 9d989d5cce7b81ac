-- What is taken out is what was kept, and the others are left.
use Rattle.std.proofs.Common.{None, bytes_eq}
use Rattle.std.proofs.lemmas.Map.Text.{btree_map_updates_str}
use Rattle.doc_merge.proofs.MapSteps.{left_without, taken_none, taken_some}
use Rattle.doc_merge.proofs.groups.Groups.take.Goals as goal

pub returns-in-Some-clause-taken : goal.returns-in-Some-clause-taken
returns-in-Some-clause-taken c = λ tells g. taken_some (λ rows. rows.items) _ _ _ _ c.in-Some.is c.remove.ensures.value (g c.args.key.now)

pub returns-in-Some-clause-left : goal.returns-in-Some-clause-left
returns-in-Some-clause-left c = λ tells g n.
    left_without (λ rows. rows.items) (bytes_eq c.args.key.now n) _ _ _ (btree_map_updates_str c.args.key.now c.args.self.now.by_key c.remove.new.self None c.remove.ensures.updates n) (g n)

pub returns-in-None-clause-taken : goal.returns-in-None-clause-taken
returns-in-None-clause-taken c = λ tells g. taken_none (λ rows. rows.items) _ _ _ _ c.in-None.is c.remove.ensures.value c.new.ensures.items (g c.args.key.now)

pub returns-in-None-clause-left : goal.returns-in-None-clause-left
returns-in-None-clause-left c = λ tells g n.
    left_without (λ rows. rows.items) (bytes_eq c.args.key.now n) _ _ _ (btree_map_updates_str c.args.key.now c.args.self.now.by_key c.remove.new.self None c.remove.ensures.updates n) (g n)
