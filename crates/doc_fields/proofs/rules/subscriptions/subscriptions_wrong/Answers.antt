-- Without a root type nothing is said.
use Rattle.std.proofs.Common.{◌≡◌, ℕ, List, Option, None, option_copied, map, ap, sym, ◌∙◌}
use Rattle.doc_sites.specs.gql_ast.declared.document.Kind.TheVariants.{Subscription}
use Rattle.doc_sites.specs.gql_graph.Leasts.{least_from}
use Rattle.doc_sites.specs.schema_types.NameRules.{fragments, operations}
use Rattle.doc_sites.specs.schema_types.Sites.{DefinitionAt}
use Rattle.doc_sites.specs.schema_tables.Types.{Text, root}
use Rattle.doc_sites.specs.SitesView.{definition_of}
use Rattle.doc_fields.proofs.RootKeys.{no_root}
use Rattle.doc_fields.proofs.rules.subscriptions.subscriptions_wrong.Goals as goal
use denote.Ref.{Bor}

pub returns-in-None : goal.returns-in-None
returns-in-None c =
    let ds : List DefinitionAt = map definition_of c.args.definitions.now in
    let none : root c.args.schema.now Subscription ≡ None = sym c.root.ensures ∙ ap (λ (o : Option (Bor Text)). option_copied o) c.in-None.is in
    sym (ap (λ (ns : List ℕ). least_from c.args.least.now.at ns) (no_root c.args.schema.now (fragments ds) (operations ds) none))
