-- Each rule is settled.
use Rattle.std.proofs.Common.{ℕ, List, drop, map, Option, ap, ◌∙◌}
use Rattle.constant_values.specs.gql_graph.Rules.{first_from}
use Rattle.constant_values.proofs.gql_graph_laws.LeastSteps.{found_last, noted_alone}
use Rattle.doc_uses.specs.doc_sites.SitesView.{definition_of}
use Rattle.constant_values.specs.schema_rules.declared.fault.Rule.{Rule}
use Rattle.constant_values.specs.schema_tables.Types.{Defs}
use Rattle.constant_values.specs.schema_types.Sites.{DefinitionAt}
use Rattle.relay_marks.specs.Connections.{keys_wrong, connections_wrong}
use Rattle.relay_rules.specs.RelayRules.{relay_rules, locals_wrong, masks_wrong, aliases_wrong}
use Rattle.relay_rules.specs.Spreads.{spreads_wrong}
use Rattle.relay_dirs.proofs.check.first_broken.Goals as goal

pub returns : goal.returns
returns c =
    let ds : List DefinitionAt = map definition_of c.args.definitions.now in
    let defs : Defs = c.args.schema.now in
    found_last c.settle-6.new.self.found
    ∙ c.settle-6.ensures (connections_wrong defs ds) (drop 6 (relay_rules defs ds)) (noted_alone (connections_wrong defs ds) _ _ c.new-connections.ensures c.connections_wrong.ensures)
    ∙ c.settle-5.ensures (keys_wrong defs ds) (drop 5 (relay_rules defs ds)) (noted_alone (keys_wrong defs ds) _ _ c.new-keys.ensures c.keys_wrong.ensures)
    ∙ c.settle-4.ensures (aliases_wrong ds) (drop 4 (relay_rules defs ds)) (noted_alone (aliases_wrong ds) _ _ c.new-aliases.ensures c.aliases_wrong.ensures)
    ∙ c.settle-3.ensures (masks_wrong ds) (drop 3 (relay_rules defs ds)) (noted_alone (masks_wrong ds) _ _ c.new-masks.ensures c.masks_wrong.ensures)
    ∙ c.settle-2.ensures (spreads_wrong defs ds) (drop 2 (relay_rules defs ds)) (noted_alone (spreads_wrong defs ds) _ _ c.new-spreads.ensures c.in_ok-spreads_wrong.ensures)
    ∙ c.settle.ensures (locals_wrong defs ds) (drop 1 (relay_rules defs ds)) (noted_alone (locals_wrong defs ds) _ _ c.new-locals.ensures c.in_ok-locals_wrong.ensures)
    ∙ ap (λ (o : Option (Rule × ℕ)). first_from o (relay_rules defs ds)) c.new-first.ensures
