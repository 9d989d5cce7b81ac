-- The row, whole or torn, stands behind those of its kind.
use Rattle.std.proofs.Common.{◌≡◌, List, [], ◌∷◌, ◌++◌, sym, ap, subst}
use Rattle.std.specs.Prelude.{Some}
use Rattle.store_model.specs.FactRows.{facts_of, facts_of_row}
use Rattle.store_model.specs.declared.facts.Fact.{Fact}
use Rattle.store_model.specs.declared.facts.FactRow.{FactRow}
use Rattle.store_report.proofs.TornRows.{torn_put, whole_put}
use Rattle.store_report.proofs.object_rows.ObjectRows.push.Goals as goal
use Rattle.store_report.specs.Joining.{begun_facts, row_facts, torn_facts}
use Rattle.store_report.specs.ObjectRows.{Held, HoldSame, object_facts}
use Rattle.store_report.specs.declared.object_row.BegunRow.{BegunRow}

pub returns-in_ok-push-in-Whole-clause-facts : goal.returns-in_ok-push-in-Whole-clause-facts
returns-in_ok-push-in-Whole-clause-facts c =
    let rows = c.self.inside.rows.items in
    let torn = c.self.inside.torn.items in
    let added = object_facts c.args.id c.args.type_name c.args.fields.items in
    let held : facts_of rows ++ torn_facts torn ≡ c.args.self.now.facts = ap (λ (s : Held). s.facts) c.self.view_is in
    let same : HoldSame (facts_of_row c.in-Whole.row) added = subst (λ o. HoldSame (row_facts o) added) c.in-Whole.is c.in_ok-row.ensures.same in
    subst (λ (rs : List FactRow). HoldSame (facts_of rs ++ torn_facts torn) (c.args.self.now.facts ++ added)) (sym c.in_ok-push-in-Whole.ensures.items)
    (subst (λ (fs : List Fact). HoldSame (facts_of (rows ++ c.in-Whole.row ∷ []) ++ torn_facts torn) (fs ++ added)) held (whole_put rows torn c.in-Whole.row added same))

pub returns-in_ok-push-in-Torn-clause-facts : goal.returns-in_ok-push-in-Torn-clause-facts
returns-in_ok-push-in-Torn-clause-facts c =
    let rows = c.self.inside.rows.items in
    let torn = c.self.inside.torn.items in
    let added = object_facts c.args.id c.args.type_name c.args.fields.items in
    let held : facts_of rows ++ torn_facts torn ≡ c.args.self.now.facts = ap (λ (s : Held). s.facts) c.self.view_is in
    let same : HoldSame (begun_facts (Some c.in-Torn.row)) added = subst (λ o. HoldSame (row_facts o) added) c.in-Torn.is c.in_ok-row.ensures.same in
    subst (λ (bs : List BegunRow). HoldSame (facts_of rows ++ torn_facts bs) (c.args.self.now.facts ++ added)) (sym c.in_ok-push-in-Torn.ensures.items)
    (subst (λ (fs : List Fact). HoldSame (facts_of rows ++ torn_facts (torn ++ c.in-Torn.row ∷ [])) (fs ++ added)) held (torn_put rows torn c.in-Torn.row added same))
