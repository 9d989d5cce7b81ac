use Rattle.std.proofs.Common.{◌≡◌, ℕ, List, true, false, true≢false, Some, sym, ap, subst, ◌∙◌, arith}
use Rattle.schema_tables.proofs.FieldsFound.{arguments_placed, arguments_within, has_some, kept_places, none_placed, there_is}
use Rattle.schema_tables.proofs.members.FieldTable.field_at.Goals as goal
use Rattle.schema_tables.specs.InputPlaces.{ArePlaced}
use Rattle.schema_tables.specs.Types.{field_def, is_empty}

pub invariant_of-result : goal.invariant_of-result
invariant_of-result c = none_placed c.index-fields-at.result (c.is_empty.ensures.0 c.if-is_empty.true)

pub returns-then-is_empty : goal.returns-then-is_empty
returns-then-is_empty c = there_is c.args.fields.now c.args.at c.index-fields-at.result c.requires.within c.index-fields-at.is

pub index-requires : goal.index-requires
index-requires c =
    let low = kept_places c.args.fields.now c.args.self.now.kept.items c.args.self.now.arguments.items c.args.at c.requires.kept.arguments c.requires.within in
    omega (arith, low)

pub index-inputs-requires : goal.index-inputs-requires
index-inputs-requires c =
    let some : is_empty c.index-fields-at.result.arguments ≡ false = has_some c.index-fields-at.result (λ e. true≢false (sym (c.is_empty.ensures.1 e) ∙ c.if-is_empty.false)) in
    let low = arguments_within c.args.fields.now c.args.self.now.kept.items c.args.self.now.arguments.items c.args.at c.index-fields-at.result c.index.result.now
    c.requires.kept.arguments c.requires.within c.index-fields-at.is c.index.ensures some in
    omega (arith, low)

pub invariant_of-result-2 : goal.invariant_of-result-2
invariant_of-result-2 c =
    let some : is_empty c.index-fields-at.result.arguments ≡ false = has_some c.index-fields-at.result (λ e. true≢false (sym (c.is_empty.ensures.1 e) ∙ c.if-is_empty.false)) in
    subst (λ (ps : List ℕ). ArePlaced c.index-fields-at.result.arguments ps c.deref-2.result.now) (sym c.deref.ensures.value)
    (subst (λ (ps : List ℕ). ArePlaced c.index-fields-at.result.arguments c.index-inputs.result.now.names.places.items ps) (sym c.deref-2.ensures.value)
    (arguments_placed c.args.fields.now c.args.self.now.kept.items c.args.self.now.arguments.items c.args.at c.index-fields-at.result c.index.result.now c.index-inputs.result.now
    c.requires.kept.arguments c.requires.within c.index-fields-at.is c.index.ensures some c.index-inputs.ensures))

pub returns : goal.returns
returns c = there_is c.args.fields.now c.args.at c.index-fields-at.result c.requires.within c.index-fields-at.is
