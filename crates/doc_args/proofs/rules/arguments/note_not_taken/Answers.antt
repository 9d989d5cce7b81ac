-- What takes any argument, and what is not known.
use Rattle.std.proofs.Common.{ℕ, List, map, ap, sym, ◌∙◌}
use Rattle.doc_uses.specs.schema_types.ArgumentRules as rules
use Rattle.gql_graph.specs.Leasts.{least_from}
use Rattle.gql_graph.specs.Rules.{each}
use Rattle.doc_uses.specs.schema_trees.LocatedView.{name_of}
use Rattle.doc_args.specs.CallView.{takes_of}
use Rattle.doc_args.specs.declared.call.Takes.{Takes}
use Rattle.doc_args.proofs.Steps.{free_taken, unknown_taken}
use Rattle.doc_args.proofs.rules.arguments.note_not_taken.Goals as goal

pub returns-in-Free : goal.returns-in-Free
returns-in-Free c =
    sym (ap (λ (ps : List ℕ). least_from c.args.least.now.at ps) (ap (λ (t : Takes). each (rules.not_taken (takes_of t)) (map name_of c.args.names.now)) c.in-Free.is ∙ free_taken (map name_of c.args.names.now)))

pub returns-in-Unknown : goal.returns-in-Unknown
returns-in-Unknown c =
    sym (ap (λ (ps : List ℕ). least_from c.args.least.now.at ps) (ap (λ (t : Takes). each (rules.not_taken (takes_of t)) (map name_of c.args.names.now)) c.in-Unknown.is ∙ unknown_taken (map name_of c.args.names.now)))
