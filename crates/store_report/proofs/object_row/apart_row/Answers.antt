-- A row whose type is named by no Name, or with two values of a key, is torn; any other one is whole.
use Rattle.std.proofs.Common.{◌≡◌, true, false, List, rules, sym, subst, inl, inr}
use Rattle.gql_order.specs.gql_plain.Names.{is_name}
use Rattle.store_model.specs.declared.facts.Fact.{Fact}
use Rattle.store_model.specs.declared.facts.FactRow.{FactRow}
use Rattle.store_report.proofs.RowMembers.{same_object}
use Rattle.store_report.proofs.SameMembers.{same_refl}
use Rattle.store_report.proofs.TornRows.{row_same, row_whole, torn_clash}
use Rattle.store_report.proofs.object_row.apart_row.Goals as goal
use Rattle.store_report.specs.ObjectRows.{HoldSame, object_facts}
use Rattle.store_report.specs.RowFields.{IsOrdered, entries_of}

pub returns-then-not-is_name-clause-same : goal.returns-then-not-is_name-clause-same
returns-then-not-is_name-clause-same c =
    let facts = object_facts c.args.id c.args.type_name c.args.fields.items in
    subst (λ (fs : List Fact). HoldSame fs facts) (sym c.torn.ensures.same) (same_refl facts)

pub returns-then-not-is_name-clause-right : goal.returns-then-not-is_name-clause-right
returns-then-not-is_name-clause-right c =
    let unnamed : is_name c.args.type_name ≡ false = search rules in
    c.torn.ensures.right (inl unnamed)

pub returns-in-Whole-clause-same : goal.returns-in-Whole-clause-same
returns-in-Whole-clause-same c =
    let given = c.args.fields.items in
    let named : is_name c.args.type_name ≡ true = search rules in
    let r : FactRow = record { id = c.args.id; type_name = c.args.type_name; fields = c.in-Whole.fields } in
    let same : HoldSame r.fields given = subst (λ o. HoldSame (entries_of o) given) c.in-Whole.is c.in_ok-fields.ensures.same in
    row_same r given (row_whole r given named c.requires same (subst IsOrdered c.in-Whole.is c.in_ok-fields.ensures.order)) same

pub returns-in-Whole-clause-right : goal.returns-in-Whole-clause-right
returns-in-Whole-clause-right c =
    let given = c.args.fields.items in
    let named : is_name c.args.type_name ≡ true = search rules in
    let r : FactRow = record { id = c.args.id; type_name = c.args.type_name; fields = c.in-Whole.fields } in
    let same : HoldSame r.fields given = subst (λ o. HoldSame (entries_of o) given) c.in-Whole.is c.in_ok-fields.ensures.same in
    row_whole r given named c.requires same (subst IsOrdered c.in-Whole.is c.in_ok-fields.ensures.order)

pub returns-in-Torn-clause-same : goal.returns-in-Torn-clause-same
returns-in-Torn-clause-same c =
    let given = c.args.fields.items in
    let same : HoldSame c.in-Torn.fields.items given = subst (λ o. HoldSame (entries_of o) given) c.in-Torn.is c.in_ok-fields.ensures.same in
    let facts = object_facts c.args.id c.args.type_name given in
    subst (λ (fs : List Fact). HoldSame fs facts) (sym c.torn-in-Torn.ensures.same) (same_object c.args.id c.args.type_name c.in-Torn.fields.items given same)

pub returns-in-Torn-clause-right : goal.returns-in-Torn-clause-right
returns-in-Torn-clause-right c = c.torn-in-Torn.ensures.right (inr (torn_clash c.args.id c.args.type_name c.in-Torn.fields.items (subst IsOrdered c.in-Torn.is c.in_ok-fields.ensures.order)))
