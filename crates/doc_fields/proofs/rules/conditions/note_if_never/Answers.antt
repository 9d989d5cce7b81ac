-- A place that is noted already, and one more.
use Rattle.std.proofs.Common.{Bool, ap, ◌∙◌, arith}
use Rattle.doc_sites.specs.gql_graph.Leasts.{least_from}
use Rattle.doc_sites.specs.gql_graph.Rules.{wrong}
use Rattle.doc_sites.proofs.gql_graph_laws.LeastSteps.{kept_least}
use Rattle.doc_fields.proofs.rules.conditions.note_if_never.Goals as goal

pub returns-then-is_at_most-clause-noted : goal.returns-then-is_at_most-clause-noted
returns-then-is_at_most-clause-noted c = λ common. kept_least c.args.least.now.at _ c.args.at (c.is_at_most.ensures (grind arith))

pub returns-clause-noted : goal.returns-clause-noted
returns-clause-noted c = λ common. c.note_if.ensures ∙ ap (λ (b : Bool). least_from c.args.least.now.at (wrong b c.args.at)) (c.in_ok-never.ensures.answer common)
