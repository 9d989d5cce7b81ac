use Rattle.std.proofs.Common.{◌≡◌, List, false, true, true≢false, sym, subst, ◌∙◌}
use Rattle.gql_ast.specs.declared.member.InputTree.{InputTree}
use Rattle.schema_tables.proofs.FieldsFound.{has_some}
use Rattle.schema_tables.proofs.members.put_arguments.Goals as goal
use Rattle.schema_tables.specs.InputPlaces.{ArePlaced}
use Rattle.schema_tables.specs.Types.{is_empty}

pub returns : goal.returns
returns c =
    let some : is_empty c.args.field.now.arguments ≡ false = has_some c.args.field.now (λ e. true≢false (sym (c.is_empty.ensures.1 e) ∙ c.if-is_empty.false)) in
    let places = c.in_ok-places.places in (
      λ none. absurd (true≢false (sym none ∙ some)),
      λ _. (places, c.in_ok-push.ensures.items, subst (λ (is : List InputTree). ArePlaced is places.names.places.items places.required.places.items) c.as_slice.ensures c.in_ok-places.ensures),
    )
