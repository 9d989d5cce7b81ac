use Rattle.std.proofs.Common.{map}
use Rattle.store_report.proofs.RowLoop.{Rowing}
use Rattle.store_report.proofs.rows.rows_of.Given as goal
use Rattle.store_report.specs.SaidFacts.{fact_of}

abbrev pub invariant-facts : goal.invariant-facts
invariant-facts l = Rowing (map fact_of l.fn.facts.items) l.rows l.begun (map fact_of l.fact-iterator.rest.items)
