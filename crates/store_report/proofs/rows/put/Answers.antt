use Rattle.std.proofs.Common.{◌≡◌, true, false, [], ◌∷◌, ◌++◌, bytes_eq, rules, sym, ap, subst, ◌∙◌}
use Rattle.std.proofs.lemmas.Slice.Eq.{bytes_eq-Decides}
use Rattle.std.specs.FinMap.Entries.{put as put_entry}
use Rattle.gql_order.specs.gql_plain.Order.{member_at}
use Rattle.store_model.specs.store_record.Keys.{Text}
use Rattle.store_model.specs.store_record.declared.field.Field.{Field}
use Rattle.store_model.specs.FactOrder.{text_cmp}
use Rattle.store_model.specs.Records.{typename}
use Rattle.store_report.proofs.RowSteps.{Below, put_last, field_last, name_last, apart_push, filled_push, fields_below}
use Rattle.store_report.proofs.rows.put.Goals as goal
use Rattle.store_report.specs.Rows.{with_name, entries_of, is_filled}

pub returns-then-eq-clause-entries : goal.returns-then-eq-clause-entries
returns-then-eq-clause-entries c =
    let row = c.args.row.now in
    let is : bytes_eq c.args.key typename ≡ true = search rules in
    let same = (bytes_eq-Decides c.args.key typename).0 is in
    name_last row.type_name row.fields c.name_of.result (subst (λ k. Below k (entries_of row)) same c.requires.last)
    ∙ (λ i. entries_of row ++ (sym same i, sym c.name_of.ensures i) ∷ [])

pub returns-then-eq-clause-filled : goal.returns-then-eq-clause-filled
returns-then-eq-clause-filled c =
    let row = c.args.row.now in
    let is : bytes_eq c.args.key typename ≡ true = search rules in
    let same = (bytes_eq-Decides c.args.key typename).0 is in
    subst (λ es. is_filled es ≡ true) (sym (name_last row.type_name row.fields c.name_of.result (subst (λ k. Below k (entries_of row)) same c.requires.last))) (filled_push (entries_of row) _)

pub returns-clause-entries : goal.returns-clause-entries
returns-clause-entries c =
    let row = c.args.row.now in
    let fields : c.put_shared.new.self ≡ put_entry text_cmp c.args.key c.args.value row.fields
    = c.in_ok-put_shared.ensures.ok ∙ ap (λ (e : Text × Field). put_entry text_cmp e.0 e.1 row.fields) c.in_ok-field.ensures in
    ap (with_name row.type_name) fields ∙ field_last row.type_name row.fields c.args.key c.args.value c.requires.last

pub returns-clause-filled : goal.returns-clause-filled
returns-clause-filled c =
    let row = c.args.row.now in
    let fields : c.put_shared.new.self ≡ put_entry text_cmp c.args.key c.args.value row.fields
    = c.in_ok-put_shared.ensures.ok ∙ ap (λ (e : Text × Field). put_entry text_cmp e.0 e.1 row.fields) c.in_ok-field.ensures in
    subst (λ es. is_filled es ≡ true) (sym (ap (with_name row.type_name) fields ∙ field_last row.type_name row.fields c.args.key c.args.value c.requires.last)) (filled_push (entries_of row) _)

pub returns-clause-row : goal.returns-clause-row
returns-clause-row c = λ facts begun.
    let row = c.args.row.now in
    let other : bytes_eq c.args.key typename ≡ false = search rules in
    let fields : c.put_shared.new.self ≡ put_entry text_cmp c.args.key c.args.value row.fields
    = c.in_ok-put_shared.ensures.ok ∙ ap (λ (e : Text × Field). put_entry text_cmp e.0 e.1 row.fields) c.in_ok-field.ensures in
    record {
      apart =
          ap (λ fs. member_at fs typename) (fields ∙ put_last c.args.key c.args.value row.fields (fields_below row.type_name row.fields c.args.key c.requires.last))
          ∙ apart_push row.fields c.args.key c.args.value other begun.apart;
      named = begun.named;
      after = begun.after;
    }
