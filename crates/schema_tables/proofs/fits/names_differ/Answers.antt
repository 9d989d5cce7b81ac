-- One more name in front.
use Rattle.std.proofs.Common.{◌≡◌, ℕ, ◌+◌, ◌-◌, ◌<◌, List, ◌∷◌, length, drop, ap, sym, ◌∙◌, arith}
use Rattle.std.proofs.lemmas.List.{length-map}
use Rattle.gql_ast.specs.Value.{Val}
use Rattle.gql_ast.specs.ValueView.{argument_of}
use Rattle.gql_graph.specs.Texts.{Text}
use Rattle.gql_graph.specs.gql_plain.Order.{has_text}
use Rattle.schema_tables.proofs.Counting.{names_before, differ_before}
use Rattle.schema_tables.proofs.fits.names_differ.Goals as goal
use Rattle.schema_tables.specs.Required.{all_differ, member_names}

pub fields-preserved : goal.fields-preserved
fields-preserved c =
    let whole : List (Text × Val) = c.args.fields.now in
    let name : Text = c.as_str.result.now in
    let before : List Text = member_names (drop c.fields.left whole) in
    let next : c.fields.left ≡ (c.fields.left - 1) + 1 = omega arith in
    let size : length c.fields-2.inside.items.items ≡ length whole = sym (length-map c.fields-2.inside.items.items argument_of) ∙ ap length c.fields-2.view_is in
    let low : c.fields.left - 1 < length c.fields-2.inside.items.items = omega (arith, c.fields.invariant.0, size) in
    let e : member_names (drop (c.fields.left - 1) whole) ≡ name ∷ before =
    names_before c.fields-2.inside.items.items whole (c.fields.left - 1) c.fields.left c.index-field.result.now name low c.index-field.ensures c.fields-2.view_is next c.as_str.ensures in (
      omega (arith, c.fields.invariant.0),
      λ n. c.in_ok-is_new.ensures.known before c.fields.invariant.1 n ∙ ap (λ ns. has_text ns n) (sym e),
      differ_before before _ name c.in_ok-is_new.is_new c.fields.differ _ e (c.in_ok-is_new.ensures.new_name before c.fields.invariant.1) c.fields.invariant.2 c.are_both-differ.ensures,
    )

pub returns : goal.returns
returns c =
    let none : c.fields.left ≡ 0 = omega arith in
    c.fields.invariant.2 ∙ ap (λ (k : ℕ). all_differ (member_names (drop k c.args.fields.now))) none
