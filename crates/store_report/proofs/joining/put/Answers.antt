-- The fields of a row are put behind those of another.
use Rattle.std.proofs.Common.{◌≡◌, true, false, ◌++◌, None, bytes_eq, rules, sym, ap, subst, ◌∙◌}
use Rattle.std.proofs.lemmas.Slice.Eq.{bytes_eq-Decides}
use Rattle.gql_order.specs.gql_plain.Order.{member_at}
use Rattle.store_model.specs.FactRows.{facts_of_row}
use Rattle.store_model.specs.Records.{typename}
use Rattle.store_report.proofs.JoinSteps.{two_types}
use Rattle.store_report.proofs.RowMembers.{apart_append, joined_fields}
use Rattle.store_report.proofs.joining.put.Goals as goal
use Rattle.store_report.specs.ObjectRows.{HoldSame, object_facts}

pub returns-then-ne-clause-clash : goal.returns-then-ne-clause-clash
returns-then-ne-clause-clash c =
    let before = c.args.before.now in
    let row = c.args.row in
    let differ : bytes_eq before.type_name row.type_name ≡ false = search rules in
    two_types before row c.requires.id c.requires.row.row differ

pub returns-clause-apart : goal.returns-clause-apart
returns-clause-apart c =
    let before = c.args.before.now in
    let row = c.args.row in
    let own = before.fields.items in
    let fields : c.put_copies.new.fields.items ≡ own ++ row.fields = c.in_ok-put_copies.ensures ∙ ap (λ fs. own ++ fs) c.as_slice.ensures.items in
    record {
      name = c.requires.apart.name;
      fields = subst (λ fs. member_at fs typename ≡ None) (sym fields) (apart_append own row.fields c.requires.apart.fields c.requires.row.row.apart);
    }

pub returns-clause-facts : goal.returns-clause-facts
returns-clause-facts c =
    let before = c.args.before.now in
    let row = c.args.row in
    let own = before.fields.items in
    let is : bytes_eq before.type_name row.type_name ≡ true = search rules in
    let name : before.type_name ≡ row.type_name = (bytes_eq-Decides before.type_name row.type_name).0 is in
    let fields : c.put_copies.new.fields.items ≡ own ++ row.fields = c.in_ok-put_copies.ensures ∙ ap (λ fs. own ++ fs) c.as_slice.ensures.items in
    subst (λ fs. HoldSame (object_facts before.id before.type_name fs) (object_facts before.id before.type_name own ++ facts_of_row row)) (sym fields)
    (joined_fields before.id before.type_name own row c.requires.id name c.requires.row.row)
