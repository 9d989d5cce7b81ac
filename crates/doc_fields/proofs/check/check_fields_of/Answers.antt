-- The definitions are those of the documents.
use Rattle.std.proofs.Common.{List, sym, ap, ◌∙◌}
use Rattle.doc_sites.specs.schema_types.DocumentRules.{field_rules}
use Rattle.doc_sites.specs.gql_graph.Rules.{first_broken}
use Rattle.doc_sites.specs.schema_types.Sites.{DefinitionAt}
use Rattle.doc_fields.proofs.check.check_fields_of.Goals as goal

pub returns-in-Some-clause-fault : goal.returns-in-Some-clause-fault
returns-in-Some-clause-fault c = sym (ap (λ (ds : List DefinitionAt). first_broken (field_rules c.args.schema.now ds)) c.requires) ∙ sym c.in_ok-found.ensures ∙ c.in-Some.is

pub returns-in-None-clause-met : goal.returns-in-None-clause-met
returns-in-None-clause-met c = sym (ap (λ (ds : List DefinitionAt). first_broken (field_rules c.args.schema.now ds)) c.requires) ∙ sym c.in_ok-found.ensures ∙ c.in-None.is
