-- Fields that say the name of the type say nothing more; where another one has its key, the object has two types.
use Rattle.std.proofs.Common.{List, sym, subst, inr}
use Rattle.std.proofs.lemmas.Result.{IfOk-weaker}
use Rattle.store_model.specs.declared.facts.Fact.{Fact}
use Rattle.store_report.proofs.SameMembers.{same_trans}
use Rattle.store_report.proofs.TornRows.{named_clash, others_same}
use Rattle.store_report.proofs.object_row.object_row.Goals as goal
use Rattle.store_report.specs.Joining.{row_facts}
use Rattle.store_report.specs.ObjectRows.{HoldSame, object_facts}
use Rattle.store_report.specs.RowFields.{AreOthers, HasTypeKey}

pub returns-then-has_type_key-clause-same : goal.returns-then-has_type_key-clause-same
returns-then-has_type_key-clause-same c =
    let given = c.args.fields.items in
    let left = c.without_name-fields.result.items in
    let facts = object_facts c.args.id c.args.type_name given in
    let others : AreOthers c.args.type_name left given = subst (λ name. AreOthers name left given) c.as_str.ensures c.without_name-fields.ensures in
    subst (λ (fs : List Fact). HoldSame fs facts) (sym c.torn.ensures.same) (others_same c.args.id c.args.type_name left given others)

pub returns-then-has_type_key-clause-right : goal.returns-then-has_type_key-clause-right
returns-then-has_type_key-clause-right c =
    let given = c.args.fields.items in
    let left = c.without_name-fields.result.items in
    let others : AreOthers c.args.type_name left given = subst (λ name. AreOthers name left given) c.as_str.ensures c.without_name-fields.ensures in
    let typed : HasTypeKey left = subst HasTypeKey c.deref-2.ensures.value (c.has_type_key-2.ensures.some c.if-has_type_key.true) in
    c.torn.ensures.right (inr (named_clash c.args.id c.args.type_name left given others typed))

pub returns-clause-same : goal.returns-clause-same
returns-clause-same c =
    let given = c.args.fields.items in
    let left = c.without_name-fields.result.items in
    let facts = object_facts c.args.id c.args.type_name given in
    let few = object_facts c.args.id c.args.type_name left in
    let others : AreOthers c.args.type_name left given = subst (λ name. AreOthers name left given) c.as_str.ensures c.without_name-fields.ensures in
    IfOk-weaker c.apart_row-2.result (λ row. HoldSame (row_facts row) few) (λ row. HoldSame (row_facts row) facts)
    (λ row same. same_trans (row_facts row) few facts same (others_same c.args.id c.args.type_name left given others)) c.apart_row-2.ensures.same
