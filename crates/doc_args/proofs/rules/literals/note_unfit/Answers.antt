-- What takes any argument.
use Rattle.std.proofs.Common.{ℕ, List, map, ap, sym, ◌∙◌}
use Rattle.doc_uses.specs.schema_types.ArgumentRules as rules
use Rattle.gql_graph.specs.Leasts.{least_from}
use Rattle.gql_graph.specs.Rules.{each}
use Rattle.doc_uses.specs.doc_sites.SitesView.{argument_of}
use Rattle.doc_args.specs.CallView.{takes_of}
use Rattle.doc_args.specs.declared.call.Takes.{Takes}
use Rattle.doc_args.proofs.Steps.{free_fit}
use Rattle.doc_args.proofs.rules.literals.note_unfit.Goals as goal

pub returns-in-Free : goal.returns-in-Free
returns-in-Free c =
    sym (ap (λ (ps : List ℕ). least_from c.args.least.now.at ps) (ap (λ (t : Takes). each (rules.argument_unfit c.args.schema.now (takes_of t)) (map argument_of c.args.arguments.now)) c.in-Free.is ∙ free_fit c.args.schema.now (map argument_of c.args.arguments.now)))
