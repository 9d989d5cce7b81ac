-- The definitions are those of the documents.
use Rattle.std.proofs.Common.{List, sym, ap, ◌∙◌}
use Rattle.relay_rules.specs.RelayRules.{relay_rules}
use Rattle.constant_values.specs.gql_graph.Rules.{first_broken}
use Rattle.constant_values.specs.schema_types.Sites.{DefinitionAt}
use Rattle.relay_dirs.proofs.check.check_relay_of.Goals as goal

pub returns-in-Some-clause-fault : goal.returns-in-Some-clause-fault
returns-in-Some-clause-fault c = sym (ap (λ (ds : List DefinitionAt). first_broken (relay_rules c.args.schema.now ds)) c.requires) ∙ sym c.in_ok-found.ensures ∙ c.in-Some.is

pub returns-in-None-clause-met : goal.returns-in-None-clause-met
returns-in-None-clause-met c = sym (ap (λ (ds : List DefinitionAt). first_broken (relay_rules c.args.schema.now ds)) c.requires) ∙ sym c.in_ok-found.ensures ∙ c.in-None.is
