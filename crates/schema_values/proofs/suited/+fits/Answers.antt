use Rattle.std.proofs.Common.{◌≡◌, Some, None, option_map, sym, ap, ◌∙◌}
use Rattle.std.specs.Option.{option_and_then}
use Rattle.schema_types.specs.gql_ast.TypeView.{ty_of}
use Rattle.schema_types.specs.gql_plain.Shown.{tree_of}
use Rattle.schema_types.specs.gql_plain.Tree.{members_of}
use Rattle.schema_types.specs.Environments.{fits}
use Rattle.schema_types.specs.schema_tables.Types.{inputs_of, input_def, input_named}
use Rattle.schema_values.proofs.Fitting.{object_fits, object_lacks, pair_unknown, pair_unfit}
use Rattle.schema_values.proofs.suited.+fits.Goals as goal
use Rattle.schema_values.specs.Means.{Means}
use Rattle.schema_values.specs.declared.suited.Meaning.TheVariants as M

pub fits-returns-then-gives_each_required : goal.fits-returns-then-gives_each_required
fits-returns-then-gives_each_required t c =
    let means : Means c.args.schema.now c.base_of-in-Tree.result.now (M.Fields c.in-Fields.inputs) = c.in-Fields.ensures in
    object_fits c.args.schema.now (members_of c.in-Tree.pairs) (ty_of c.args.of.now) c.base_of-in-Tree.result.now means.0 c.in-Fields.inputs c.gives_each_required.result c.members_fit.result
    c.base_of-in-Tree.ensures means.1 means.2 c.gives_each_required.ensures c.if-gives_each_required.true
    (c.members_fit.ensures means.0 (ap (inputs_of c.args.schema.now) (c.base_of-then-gives_each_required.ensures ∙ sym c.base_of-in-Tree.ensures) ∙ means.3))
    ∙ ap (λ v. fits c.args.schema.now (tree_of v) (ty_of c.args.of.now)) (sym c.in-Tree.is)

pub fits-returns-else-gives_each_required : goal.fits-returns-else-gives_each_required
fits-returns-else-gives_each_required t c =
    let means : Means c.args.schema.now c.base_of-in-Tree.result.now (M.Fields c.in-Fields.inputs) = c.in-Fields.ensures in
    object_lacks c.args.schema.now (members_of c.in-Tree.pairs) (ty_of c.args.of.now) c.base_of-in-Tree.result.now means.0 c.in-Fields.inputs c.gives_each_required.result
    c.base_of-in-Tree.ensures means.1 means.2 c.gives_each_required.ensures c.if-gives_each_required.false
    ∙ ap (λ v. fits c.args.schema.now (tree_of v) (ty_of c.args.of.now)) (sym c.in-Tree.is)

pub members_fit-returns-in_default : goal.members_fit-returns-in_default
members_fit-returns-in_default t c = λ is kept.
    let none : None ≡ option_map input_def (option_and_then (λ xs. input_named xs c.as_str.result.now) (inputs_of c.args.schema.now c.args.of.now)) = c.in_default.ensures in
    pair_unknown c.args.schema.now c.args.of.now is kept c.deref-name-items.result.now c.members.name-index c.members-item.result c.members-test.true c.members-item.is
    (none ∙ ap (λ n. option_map input_def (option_and_then (λ xs. input_named xs n) (inputs_of c.args.schema.now c.args.of.now))) c.as_str.ensures)
    ∙ sym (c.members.invariant is kept)

pub members_fit-returns-then-not-fits : goal.members_fit-returns-then-not-fits
members_fit-returns-then-not-fits t c = λ is kept.
    let fit = ap (λ t. fits c.args.schema.now (tree_of c.members-item.result.1) (ty_of t)) (sym c.of.ensures) in
    let some : Some c.in-Some.input ≡ option_map input_def (option_and_then (λ xs. input_named xs c.as_str.result.now) (inputs_of c.args.schema.now c.args.of.now)) = c.in-Some.ensures in
    pair_unfit c.args.schema.now c.args.of.now is kept c.deref-name-items.result.now c.members.name-index c.members-item.result c.members-test.true c.members-item.is c.in-Some.input
    (some ∙ ap (λ n. option_map input_def (option_and_then (λ xs. input_named xs n) (inputs_of c.args.schema.now c.args.of.now))) c.as_str.ensures)
    (fit ∙ sym c.fits.ensures ∙ c.if-not-fits.true)
    ∙ sym (c.members.invariant is kept)
