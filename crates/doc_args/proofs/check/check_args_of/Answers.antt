-- The definitions are those of the documents.
use Rattle.std.proofs.Common.{List, sym, ap, ◌∙◌}
use Rattle.doc_uses.specs.schema_types.DocumentRules.{argument_rules}
use Rattle.gql_graph.specs.Rules.{first_broken}
use Rattle.doc_uses.specs.schema_types.Sites.{DefinitionAt}
use Rattle.doc_args.proofs.check.check_args_of.Goals as goal

pub returns-in-Some-clause-fault : goal.returns-in-Some-clause-fault
returns-in-Some-clause-fault c = sym (ap (λ (ds : List DefinitionAt). first_broken (argument_rules c.args.schema.now ds)) c.requires) ∙ sym c.in_ok-found.ensures ∙ c.in-Some.is

pub returns-in-None-clause-met : goal.returns-in-None-clause-met
returns-in-None-clause-met c = sym (ap (λ (ds : List DefinitionAt). first_broken (argument_rules c.args.schema.now ds)) c.requires) ∙ sym c.in_ok-found.ensures ∙ c.in-None.is
