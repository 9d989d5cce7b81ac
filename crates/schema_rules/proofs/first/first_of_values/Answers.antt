-- Each rule is settled.
use Rattle.std.proofs.Common.{ℕ, List, drop, map, Option, ap, ◌∙◌}
use Rattle.gql_graph.specs.Rules.{first_from}
use Rattle.gql_graph.proofs.LeastSteps.{found_last, noted_alone}
use Rattle.schema_trees.specs.Located.{DefAt}
use Rattle.schema_trees.specs.LocatedView.{def_of}
use Rattle.schema_trees.specs.schema_tables.Types.{Defs}
use Rattle.schema_rules.specs.First.{last_rules}
use Rattle.schema_rules.specs.Rules as rules
use Rattle.schema_rules.specs.declared.fault.Rule.{Rule}
use Rattle.schema_rules.proofs.first.first_of_values.Goals as goal

pub returns : goal.returns
returns c =
    let ds : List DefAt = map def_of c.args.definitions.now in
    let defs : Defs = c.args.tables.now in
    found_last c.settle-4.new.self.found
    ∙ c.settle-4.ensures (rules.composites_in_lists defs ds) (drop 4 (last_rules defs ds)) (noted_alone (rules.composites_in_lists defs ds) _ _ c.new-lists.ensures c.composites_in_lists.ensures)
    ∙ c.settle-3.ensures (rules.defaults_wrong defs ds) (drop 3 (last_rules defs ds)) (noted_alone (rules.defaults_wrong defs ds) _ _ c.new-defaults.ensures c.in_ok-defaults_wrong.ensures)
    ∙ c.settle-2.ensures (rules.inputs_need_themselves defs ds) (drop 2 (last_rules defs ds)) (noted_alone (rules.inputs_need_themselves defs ds) _ _ c.new-needs.ensures c.in_ok-inputs_need_themselves.ensures)
    ∙ c.settle.ensures (rules.members_missing defs ds) (drop 1 (last_rules defs ds)) (noted_alone (rules.members_missing defs ds) _ _ c.new-missing.ensures c.members_missing.ensures)
    ∙ ap (λ (o : Option (Rule × ℕ)). first_from o (last_rules defs ds)) c.new-first.ensures
