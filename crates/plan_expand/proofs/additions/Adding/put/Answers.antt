-- What is kept stays right.
use Rattle.std.proofs.Common.{ap, option_map, ◌∙◌}
use Rattle.std.proofs.lemmas.Map.Text.{btree_map_updates_str}
use Rattle.plan_expand.specs.Adding.{find_identified}
use Rattle.plan_expand.proofs.AdditionSteps.{right_with}
use Rattle.plan_expand.proofs.Tables.{map_cond}
use Rattle.plan_expand.proofs.additions.Adding.put.Goals as goal

pub returns-clause-right : goal.returns-clause-right
returns-clause-right c =
    right_with c.args.self.now.schema.now c.args.of.now c.in_ok-names.names.items (find_identified c.args.self.now) _ c.requires c.in_ok-names.ensures
    (λ n. ap (option_map (λ ids. ids.items)) (btree_map_updates_str c.args.of.now c.args.self.now.by_type c.insert.new.self _ c.in_ok-insert.ensures.updates n) ∙ map_cond (λ ids. ids.items) _ _ _)
