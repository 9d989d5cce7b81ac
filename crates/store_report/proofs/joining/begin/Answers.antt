use Rattle.std.proofs.Common.{sym, subst}
use Rattle.store_model.specs.FactRows.{facts_of_row}
use Rattle.store_report.proofs.RowMembers.{same_row}
use Rattle.store_report.proofs.SameMembers.{same_sym}
use Rattle.store_report.proofs.joining.begin.Goals as goal
use Rattle.store_report.specs.ObjectRows.{HoldSame, object_facts}

pub returns-clause-facts : goal.returns-clause-facts
returns-clause-facts c =
    let row = c.args.row in
    subst (λ fs. HoldSame (object_facts row.id row.type_name fs) (facts_of_row row)) (sym c.in_ok-own.ensures)
    (same_sym (facts_of_row row) (object_facts row.id row.type_name row.fields) (same_row row c.requires.row))
