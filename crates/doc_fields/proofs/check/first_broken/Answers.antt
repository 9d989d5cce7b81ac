-- Each rule is settled.
use Rattle.std.proofs.Common.{ℕ, List, drop, map, Option, ap, ◌∙◌}
use Rattle.doc_sites.specs.gql_graph.Rules.{first_from}
use Rattle.doc_sites.proofs.gql_graph_laws.LeastSteps.{found_last, noted_alone}
use Rattle.doc_sites.specs.SitesView.{definition_of}
use Rattle.doc_sites.specs.schema_types.DocumentRules.{field_rules}
use Rattle.doc_sites.specs.schema_types.FieldRules as rules
use Rattle.doc_sites.specs.schema_types.Sites.{DefinitionAt}
use Rattle.doc_sites.specs.schema_tables.Types.{Defs}
use Rattle.doc_sites.specs.schema_rules.declared.fault.Rule.{Rule}
use Rattle.doc_fields.proofs.check.first_broken.Goals as goal

pub returns : goal.returns
returns c =
    let ds : List DefinitionAt = map definition_of c.args.definitions.now in
    let defs : Defs = c.args.schema.now in
    found_last c.settle-5.new.self.found
    ∙ c.settle-5.ensures (rules.subscriptions_wrong defs ds) (drop 5 (field_rules defs ds)) (noted_alone (rules.subscriptions_wrong defs ds) _ _ c.new-subscriptions.ensures c.in_ok-subscriptions_wrong.ensures)
    ∙ c.settle-4.ensures (rules.conditions_never_apply defs ds) (drop 4 (field_rules defs ds)) (noted_alone (rules.conditions_never_apply defs ds) _ _ c.new-conditions.ensures c.in_ok-conditions_never_apply.ensures)
    ∙ c.settle-3.ensures (rules.floats_selected defs ds) (drop 3 (field_rules defs ds)) (noted_alone (rules.floats_selected defs ds) _ _ c.new-floats.ensures c.floats_selected.ensures)
    ∙ c.settle-2.ensures (rules.sets_wrong defs ds) (drop 2 (field_rules defs ds)) (noted_alone (rules.sets_wrong defs ds) _ _ c.new-sets.ensures c.sets_wrong.ensures)
    ∙ c.settle.ensures (rules.fields_undefined defs ds) (drop 1 (field_rules defs ds)) (noted_alone (rules.fields_undefined defs ds) _ _ c.new-undefined.ensures c.fields_undefined.ensures)
    ∙ ap (λ (o : Option (Rule × ℕ)). first_from o (field_rules defs ds)) c.new-first.ensures
