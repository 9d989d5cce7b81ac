-- Each rule is settled.
use Rattle.std.proofs.Common.{ℕ, List, drop, map, Option, ap, ◌∙◌}
use Rattle.gql_graph.specs.Rules.{first_from}
use Rattle.gql_graph.proofs.LeastSteps.{found_last, noted_alone}
use Rattle.doc_uses.specs.doc_sites.SitesView.{definition_of}
use Rattle.doc_uses.specs.schema_types.DocumentRules.{argument_rules}
use Rattle.doc_uses.specs.schema_types.ArgumentRules as rules
use Rattle.doc_uses.specs.schema_types.Sites.{DefinitionAt}
use Rattle.doc_uses.specs.schema_tables.Types.{Defs}
use Rattle.doc_uses.specs.schema_rules.declared.fault.Rule.{Rule}
use Rattle.doc_args.proofs.check.first_broken.Goals as goal

pub returns : goal.returns
returns c =
    let ds : List DefinitionAt = map definition_of c.args.definitions.now in
    let defs : Defs = c.args.schema.now in
    found_last c.settle-5.new.self.found
    ∙ c.settle-5.ensures (rules.variables_wrong defs ds) (drop 5 (argument_rules defs ds)) (noted_alone (rules.variables_wrong defs ds) _ _ c.new-variables.ensures c.in_ok-variables_wrong.ensures)
    ∙ c.settle-4.ensures (rules.directives_wrong defs ds) (drop 4 (argument_rules defs ds)) (noted_alone (rules.directives_wrong defs ds) _ _ c.new-directives.ensures c.in_ok-directives_wrong.ensures)
    ∙ c.settle-3.ensures (rules.literals_unfit defs ds) (drop 3 (argument_rules defs ds)) (noted_alone (rules.literals_unfit defs ds) _ _ c.new-literals.ensures c.in_ok-literals_unfit.ensures)
    ∙ c.settle-2.ensures (rules.arguments_missing defs ds) (drop 2 (argument_rules defs ds)) (noted_alone (rules.arguments_missing defs ds) _ _ c.new-missing.ensures c.in_ok-arguments_missing.ensures)
    ∙ c.settle.ensures (rules.arguments_wrong defs ds) (drop 1 (argument_rules defs ds)) (noted_alone (rules.arguments_wrong defs ds) _ _ c.new-arguments.ensures c.in_ok-arguments_wrong.ensures)
    ∙ ap (λ (o : Option (Rule × ℕ)). first_from o (argument_rules defs ds)) c.new-first.ensures
