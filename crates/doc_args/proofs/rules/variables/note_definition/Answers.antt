-- An operation.
use Rattle.std.proofs.Common.{◌≡◌, OnOk, sym, subst}
use Rattle.doc_uses.specs.schema_types.ArgumentRules as rules
use Rattle.gql_graph.specs.Leasts.{least_from}
use Rattle.doc_uses.specs.doc_sites.SitesView.{definition_of}
use Rattle.doc_uses.specs.doc_sites.declared.site.DefinitionAt.{DefinitionAt}
use Rattle.doc_uses.specs.doc_sites.Definitions.{on_operation}
use Rattle.doc_args.proofs.rules.variables.note_definition.Goals as goal

pub returns-in-Operation : goal.returns-in-Operation
returns-in-Operation c = λ fs d.
    subst (λ (x : DefinitionAt). OnOk c.note_operation.result (c.note_operation.new.least.at ≡ least_from c.args.least.now.at (on_operation (rules.variables_of_wrong c.args.schema.now fs) (definition_of x))))
    (sym c.in-Operation.is) (c.note_operation.ensures fs d)
