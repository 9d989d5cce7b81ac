use Rattle.std.proofs.Common.{◌≡◌, false, true, map, Some, None, sym, ap, ◌∙◌}
use Rattle.gql_ast.specs.TypeView.{ty_of}
use Rattle.gql_ast.specs.Value.{members_of}
use Rattle.gql_ast.specs.ValueView.{value_of, argument_of}
use Rattle.schema_tables.proofs.Counting.{and_right}
use Rattle.schema_tables.proofs.Literals.{object_fits, object_lacks, field_unknown, field_unfit, field_fits}
use Rattle.schema_tables.proofs.tables.Tables.+fits.Goals as goal
use Rattle.schema_tables.specs.Fits.{literal_fits}
use Rattle.schema_tables.specs.Given.{gives_each}
use Rattle.schema_tables.specs.declared.fits.Meaning.TheVariants as M
use Rattle.schema_tables.specs.Means.{Means}
use Rattle.schema_tables.specs.Members.{input_among}
use Rattle.schema_tables.specs.Required.{all_differ, member_names}

pub literal_fits-returns-then-not-branch : goal.literal_fits-returns-then-not-branch
literal_fits-returns-then-not-branch t c =
    let means : Means c.args.self.now c.base_of-in-Object.result.now (M.Fields c.in-Fields.inputs) = c.in-Fields.ensures in
    object_lacks c.args.self.now c.in-Object.fields (ty_of c.args.of.now) c.base_of-in-Object.result.now means.0 c.in-Fields.inputs c.in_ok-names_fit-in-Fields.field-0
    c.base_of-in-Object.ensures means.1 means.2 c.in_ok-names_fit-in-Fields.ensures c.if-not-branch.true
    ∙ ap (λ v. literal_fits c.args.self.now (value_of v) (ty_of c.args.of.now)) (sym c.in-Object.is)

pub literal_fits-returns-in_ok-fit-in-Fields : goal.literal_fits-returns-in_ok-fit-in-Fields
literal_fits-returns-in_ok-fit-in-Fields t c =
    let means : Means c.args.self.now c.base_of-in-Object.result.now (M.Fields c.in-Fields.inputs) = c.in-Fields.ensures in
    object_fits c.args.self.now (members_of c.in-Object.fields) (ty_of c.args.of.now) c.base_of-in-Object.result.now means.0 c.in-Fields.inputs c.in_ok-fit-in-Fields.fit
    c.base_of-in-Object.ensures means.1 means.2
    (and_right (all_differ (member_names c.in-Object.fields)) (gives_each c.in-Fields.inputs (members_of c.in-Object.fields)) (sym c.in_ok-names_fit-in-Fields.ensures ∙ c.if-not-branch.false))
    (c.in_ok-fit-in-Fields.ensures means.0 means.2)
    ∙ ap (λ v. literal_fits c.args.self.now (value_of v) (ty_of c.args.of.now)) (sym c.in-Object.is)

pub members_fit-returns-in_default : goal.members_fit-returns-in_default
members_fit-returns-in_default t c = λ is same.
    let none : None ≡ input_among c.args.inputs.now c.as_str.result.now = c.in_default.ensures in
    field_unknown c.args.self.now c.args.inputs.now is same c.deref-field-items.result.now c.fields.field-index c.field-item.result c.fields-test.true c.field-item.is
    (none ∙ ap (input_among c.args.inputs.now) c.as_str.ensures)
    ∙ sym (c.fields.invariant is same)

pub members_fit-returns-then-not-branch : goal.members_fit-returns-then-not-branch
members_fit-returns-then-not-branch t c = λ is same.
    let fit = ap (λ t. literal_fits c.args.self.now (value_of c.field-item.result.value) (ty_of t)) (sym c.of.ensures) in
    let some : Some c.in-Some.input ≡ input_among c.args.inputs.now c.as_str.result.now = c.in-Some.ensures in
    field_unfit c.args.self.now c.args.inputs.now is same c.deref-field-items.result.now c.fields.field-index c.field-item.result c.fields-test.true c.field-item.is c.in-Some.input
    (some ∙ ap (input_among c.args.inputs.now) c.as_str.ensures) (fit ∙ sym c.in_ok-literal_fits.ensures ∙ c.if-not-branch.true)
    ∙ sym (c.fields.invariant is same)

pub members_fit-fields-preserved : goal.members_fit-fields-preserved
members_fit-fields-preserved t c = λ is same.
    let fit = ap (λ t. literal_fits c.args.self.now (value_of c.field-item.result.value) (ty_of t)) (sym c.of.ensures) in
    let some : Some c.in-Some.input ≡ input_among c.args.inputs.now c.as_str.result.now = c.in-Some.ensures in
    let differ : all_differ (member_names (map argument_of c.deref-field-items.result.now)) ≡ true =
    ap (λ xs. all_differ (member_names (map argument_of xs))) c.deref-field-items.ensures.value ∙ ap (λ ms. all_differ (member_names ms)) c.fields-2.view_is ∙ c.requires in
    c.fields.invariant is same
    ∙ field_fits c.args.self.now c.args.inputs.now is same c.deref-field-items.result.now c.fields.field-index c.field-item.result c.fields-test.true c.field-item.is c.in-Some.input
    (some ∙ ap (input_among c.args.inputs.now) c.as_str.ensures) (fit ∙ sym c.in_ok-literal_fits.ensures ∙ c.if-not-branch.false) differ
