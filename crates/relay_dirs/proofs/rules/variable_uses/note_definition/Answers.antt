-- An operation, and a fragment.
use Rattle.std.proofs.Common.{◌≡◌, OnOk, ap, sym, subst}
use Rattle.constant_values.specs.gql_graph.Leasts.{least_from}
use Rattle.doc_uses.specs.doc_sites.Definitions.{on_operation}
use Rattle.doc_uses.specs.doc_sites.SitesView.{definition_of}
use Rattle.doc_uses.specs.doc_sites.declared.site.DefinitionAt.{DefinitionAt}
use Rattle.relay_rules.specs.Spreads.{uses_of_operation_wrong}
use Rattle.relay_dirs.proofs.rules.variable_uses.note_definition.Goals as goal

pub returns-in-Operation : goal.returns-in-Operation
returns-in-Operation c = λ fs s d.
    subst (λ (x : DefinitionAt). OnOk c.note_operation.result (c.note_operation.new.least.at ≡ least_from c.args.least.now.at (on_operation (uses_of_operation_wrong c.args.schema.now fs) (definition_of x))))
    (sym c.in-Operation.is) (c.note_operation.ensures fs s d)

pub returns-in-Fragment : goal.returns-in-Fragment
returns-in-Fragment c = λ fs s d. sym (ap (λ (x : DefinitionAt). least_from c.args.least.now.at (on_operation (uses_of_operation_wrong c.args.schema.now fs) (definition_of x))) c.in-Fragment.is)
