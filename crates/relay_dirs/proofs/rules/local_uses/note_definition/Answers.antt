-- An operation, and a fragment.
use Rattle.std.proofs.Common.{◌≡◌, OnOk, ap, sym, subst}
use Rattle.constant_values.specs.gql_graph.Leasts.{least_from}
use Rattle.doc_uses.specs.doc_sites.Definitions.{on_fragment}
use Rattle.doc_uses.specs.doc_sites.SitesView.{definition_of}
use Rattle.doc_uses.specs.doc_sites.declared.site.DefinitionAt.{DefinitionAt}
use Rattle.relay_rules.specs.Spreads.{local_uses_wrong}
use Rattle.relay_dirs.proofs.rules.local_uses.note_definition.Goals as goal

pub returns-in-Operation : goal.returns-in-Operation
returns-in-Operation c = λ fs s. sym (ap (λ (x : DefinitionAt). least_from c.args.least.now.at (on_fragment (local_uses_wrong c.args.schema.now fs) (definition_of x))) c.in-Operation.is)

pub returns-in-Fragment : goal.returns-in-Fragment
returns-in-Fragment c = λ fs s.
    subst (λ (x : DefinitionAt). OnOk c.note_fragment.result (c.note_fragment.new.least.at ≡ least_from c.args.least.now.at (on_fragment (local_uses_wrong c.args.schema.now fs) (definition_of x))))
    (sym c.in-Fragment.is) (c.note_fragment.ensures fs s)
