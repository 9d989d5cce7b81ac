-- The first row stands after no other.
use Rattle.std.proofs.Common.{None, refl, sym, subst}
use Rattle.store_report.proofs.rows.take.Goals as goal
use Rattle.store_report.specs.Rows.{AreBefore, CanTakeAt, IsOpen}
use Rattle.store_report.specs.SaidFacts.{fact_of}

pub returns-clause-row : goal.returns-clause-row
returns-clause-row c =
    let rows = c.args.rows.now in
    let can : CanTakeAt rows None (fact_of c.args.fact) = subst (λ b. CanTakeAt rows b (fact_of c.args.fact)) c.in-None.is c.requires in
    let first : IsOpen rows c.begin-row.result = subst (IsOpen rows) (sym c.begin-row.ensures) (record { apart = refl; named = tt; after = subst (AreBefore c.args.fact.id) (sym can.0) tt }) in
    (c.in_ok-put-in-None.ensures.row rows first, c.in_ok-put-in-None.ensures.filled)
