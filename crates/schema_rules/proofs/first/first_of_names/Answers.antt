-- Each rule is settled.
use Rattle.std.proofs.Common.{ℕ, List, drop, map, Option, ap, ◌∙◌}
use Rattle.gql_graph.specs.Rules.{first_from}
use Rattle.gql_graph.proofs.LeastSteps.{found_last, noted_alone}
use Rattle.schema_trees.specs.Located.{DefAt}
use Rattle.schema_trees.specs.LocatedView.{def_of}
use Rattle.schema_trees.specs.schema_tables.Types.{Defs}
use Rattle.schema_rules.specs.First.{first_rules}
use Rattle.schema_rules.specs.Rules as rules
use Rattle.schema_rules.specs.declared.fault.Rule.{Rule}
use Rattle.schema_rules.proofs.first.first_of_names.Goals as goal

pub returns : goal.returns
returns c =
    let ds : List DefAt = map def_of c.args.definitions.now in
    let defs : Defs = c.args.tables.now in
    found_last c.settle-4.new.self.found
    ∙ c.settle-4.ensures (rules.names_reserved ds) (drop 4 (first_rules defs ds)) (noted_alone (rules.names_reserved ds) _ _ c.new-reserved.ensures c.in_ok-names_reserved.ensures)
    ∙ c.settle-3.ensures (rules.root_types_wrong defs ds) (drop 3 (first_rules defs ds)) (noted_alone (rules.root_types_wrong defs ds) _ _ c.new-roots.ensures c.in_ok-root_types_wrong.ensures)
    ∙ c.settle-2.ensures (rules.types_not_defined defs ds) (drop 2 (first_rules defs ds)) (noted_alone (rules.types_not_defined defs ds) _ _ c.new-undefined.ensures c.in_ok-types_not_defined.ensures)
    ∙ c.settle.ensures (rules.names_not_unique ds) (drop 1 (first_rules defs ds)) (noted_alone (rules.names_not_unique ds) _ _ c.new-repeated.ensures c.in_ok-names_not_unique.ensures)
    ∙ ap (λ (o : Option (Rule × ℕ)). first_from o (first_rules defs ds)) c.new-first.ensures
