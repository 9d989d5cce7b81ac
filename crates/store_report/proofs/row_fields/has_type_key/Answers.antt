-- Each field that is looked at has another key, until one has the key of the name of a type.
use Rattle.std.proofs.Common.{◌≡◌, true, false, List, bytes_eq, rules, sym, subst, ◌∙◌, arith}
use Rattle.std.proofs.lemmas.List.{at_drop_all}
use Rattle.std.proofs.lemmas.Slice.Eq.{bytes_eq-Decides}
use Rattle.gql_order.specs.gql_plain.Order.{member_at}
use Rattle.store_model.specs.store_record.Keys.{Text}
use Rattle.store_model.specs.store_record.declared.field.Field.{Field}
use Rattle.store_model.specs.Alike.{Among}
use Rattle.store_model.specs.Records.{typename}
use Rattle.store_report.proofs.RowMembers.{contains_among, member_next}
use Rattle.store_report.proofs.row_fields.has_type_key.Goals as goal

pub fields-preserved : goal.fields-preserved
fields-preserved c =
    let other : bytes_eq c.field-item.result.0 typename ≡ false = search rules in
    member_next c.args.fields.now c.fields.field-index c.field-item.result (omega arith) c.field-item.is typename other (member_at c.args.fields.now typename) c.fields.invariant

pub returns-then-eq-clause-some : goal.returns-then-eq-clause-some
returns-then-eq-clause-some c = λ is.
    let e : Text × Field = c.field-item.result in
    let same : bytes_eq e.0 typename ≡ true = search rules in
    let there : Among e c.args.fields.now = contains_among e c.args.fields.now c.fields.field-index (omega arith) (sym c.field-item.is) in
    record { value = e.1; there = subst (λ key. Among (key, e.1) c.args.fields.now) ((bytes_eq-Decides e.0 typename).0 same) there }

pub returns-clause-none : goal.returns-clause-none
returns-clause-none c = λ is.
    sym c.fields.invariant
    ∙ at_drop_all (λ (es : List (Text × Field)). member_at es typename) c.args.fields.now c.fields.field-index c.fields-test.false
