-- The fields of a row that is done are put in order, or clash.
use Rattle.std.proofs.Common.{◌≡◌, List, ◌∷◌, [], ◌++◌, rules, sym, subst}
use Rattle.std.specs.Map.{keys_of}
use Rattle.gql_order.specs.gql_plain.Order.{AreInOrder}
use Rattle.store_model.proofs.Least.{Each, each_append}
use Rattle.store_model.specs.FactRows.{facts_of}
use Rattle.store_model.specs.declared.facts.FactRow.{FactRow}
use Rattle.store_report.proofs.JoinSteps.{apart_clash, row_done}
use Rattle.store_report.proofs.RowMembers.{row_pushed}
use Rattle.store_report.proofs.joining.close.Goals as goal
use Rattle.store_report.specs.ObjectRows.{HoldSame, IsWhole, object_facts}
use Rattle.store_report.specs.RowFields.{AreTorn, IsOrdered, entries_of}

pub returns-in_ok-push-in-Whole-clause-rows : goal.returns-in_ok-push-in-Whole-clause-rows
returns-in_ok-push-in-Whole-clause-rows c =
    let before = c.args.whole.now.items in
    let given = c.args.row in
    let fields = c.in-Whole.fields in
    let r : FactRow = record { id = given.id; type_name = given.type_name; fields = fields } in
    let same : HoldSame fields given.fields.items = subst (λ o. HoldSame (entries_of o) given.fields.items) c.in-Whole.is c.in_ok-fields.ensures.same in
    let order : AreInOrder (keys_of fields) = subst IsOrdered c.in-Whole.is c.in_ok-fields.ensures.order in
    let whole : IsWhole r = row_done given fields c.requires.apart same order in
    let pushed : c.push.new.self.items ≡ before ++ r ∷ [] = search rules in
    subst (λ (rows : List FactRow). Each IsWhole rows) (sym pushed) (each_append IsWhole before (r ∷ []) c.requires.rows (whole, tt))

pub returns-in_ok-push-in-Whole-clause-facts : goal.returns-in_ok-push-in-Whole-clause-facts
returns-in_ok-push-in-Whole-clause-facts c =
    let before = c.args.whole.now.items in
    let given = c.args.row in
    let fields = c.in-Whole.fields in
    let r : FactRow = record { id = given.id; type_name = given.type_name; fields = fields } in
    let same : HoldSame fields given.fields.items = subst (λ o. HoldSame (entries_of o) given.fields.items) c.in-Whole.is c.in_ok-fields.ensures.same in
    let order : AreInOrder (keys_of fields) = subst IsOrdered c.in-Whole.is c.in_ok-fields.ensures.order in
    let whole : IsWhole r = row_done given fields c.requires.apart same order in
    let pushed : c.push.new.self.items ≡ before ++ r ∷ [] = search rules in
    subst (λ (rows : List FactRow). HoldSame (facts_of rows) (facts_of before ++ object_facts given.id given.type_name given.fields.items)) (sym pushed)
    (row_pushed before r given.fields.items whole.row same)

pub returns-in-Torn-clause-clash : goal.returns-in-Torn-clause-clash
returns-in-Torn-clause-clash c =
    let given = c.args.row in
    let torn = c.in-Torn.field-0.items in
    let same : HoldSame torn given.fields.items = subst (λ o. HoldSame (entries_of o) given.fields.items) c.in-Torn.is c.in_ok-fields.ensures.same in
    let are : AreTorn torn = subst IsOrdered c.in-Torn.is c.in_ok-fields.ensures.order in
    apart_clash given torn same are
