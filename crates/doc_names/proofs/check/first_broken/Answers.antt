-- Each rule is settled.
use Rattle.std.proofs.Common.{ℕ, List, drop, map, Option, ap, ◌∙◌}
use Rattle.doc_sites.specs.gql_graph.Rules.{first_from}
use Rattle.doc_sites.proofs.gql_graph_laws.LeastSteps.{found_last, noted_alone}
use Rattle.doc_sites.specs.SitesView.{definition_of}
use Rattle.doc_sites.specs.schema_types.DocumentRules.{name_rules}
use Rattle.doc_sites.specs.schema_types.NameRules as rules
use Rattle.doc_sites.specs.schema_types.Sites.{DefinitionAt}
use Rattle.doc_sites.specs.schema_tables.Types.{Defs}
use Rattle.doc_sites.specs.schema_rules.declared.fault.Rule.{Rule}
use Rattle.doc_names.proofs.check.first_broken.Goals as goal

pub returns : goal.returns
returns c =
    let ds : List DefinitionAt = map definition_of c.args.definitions.now in
    let defs : Defs = c.args.schema.now in
    found_last c.settle-6.new.self.found
    ∙ c.settle-6.ensures (rules.roots_missing defs ds) (drop 6 (name_rules defs ds)) (noted_alone (rules.roots_missing defs ds) _ _ c.new-roots.ensures c.roots_missing.ensures)
    ∙ c.settle-5.ensures (rules.spreads_on_cycles ds) (drop 5 (name_rules defs ds)) (noted_alone (rules.spreads_on_cycles ds) _ _ c.new-cycles.ensures c.in_ok-spreads_on_cycles.ensures)
    ∙ c.settle-4.ensures (rules.fragments_not_there ds) (drop 4 (name_rules defs ds)) (noted_alone (rules.fragments_not_there ds) _ _ c.new-spreads.ensures c.in_ok-fragments_not_there.ensures)
    ∙ c.settle-3.ensures (rules.conditions_wrong defs ds) (drop 3 (name_rules defs ds)) (noted_alone (rules.conditions_wrong defs ds) _ _ c.new-conditions.ensures c.in_ok-conditions_wrong.ensures)
    ∙ c.settle-2.ensures (rules.fragments_not_unique ds) (drop 2 (name_rules defs ds)) (noted_alone (rules.fragments_not_unique ds) _ _ c.new-fragments.ensures c.in_ok-fragments_not_unique.ensures)
    ∙ c.settle.ensures (rules.operations_not_named ds) (drop 1 (name_rules defs ds)) (noted_alone (rules.operations_not_named ds) _ _ c.new-operations.ensures c.in_ok-operations_not_named.ensures)
    ∙ ap (λ (o : Option (Rule × ℕ)). first_from o (name_rules defs ds)) c.new-first.ensures
