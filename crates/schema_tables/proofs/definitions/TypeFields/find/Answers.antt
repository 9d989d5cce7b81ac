use Rattle.std.proofs.Common.{Some, sym, ap, ◌∙◌, arith}
use Rattle.schema_tables.proofs.FieldsFound.{field_gone, named_first}
use Rattle.schema_tables.proofs.Finding.{finds, within}
use Rattle.schema_tables.proofs.definitions.TypeFields.find.Goals as goal
use Rattle.schema_tables.specs.Indexes.{field_name, is_named}
use Rattle.schema_tables.specs.Types.{field_named}

pub find_place-requires : goal.find_place-requires
find_place-requires c = c.self.invariant.in_order

pub bounds-trees-at : goal.bounds-trees-at
bounds-trees-at c = within (is_named field_name c.args.name.now) c.self.inside.trees.now c.in-Some.at (sym (c.self.invariant.finds c.args.name.now) ∙ sym c.find_place.ensures ∙ c.in-Some.is)

pub offset_bounds-trees-at : goal.offset_bounds-trees-at
offset_bounds-trees-at c =
    let low = within (is_named field_name c.args.name.now) c.self.inside.trees.now c.in-Some.at (sym (c.self.invariant.finds c.args.name.now) ∙ sym c.find_place.ensures ∙ c.in-Some.is) in
    omega arith

pub returns-in-Some : goal.returns-in-Some
returns-in-Some c =
    let there = sym (c.self.invariant.finds c.args.name.now) ∙ sym c.find_place.ensures ∙ c.in-Some.is in
    ap Some c.index-trees-at.is
    ∙ sym (named_first c.self.inside.trees.now c.args.name.now ∙ finds (is_named field_name c.args.name.now) c.self.inside.trees.now c.in-Some.at c.index-trees-at.result there)
    ∙ ap (λ fs. field_named fs c.args.name.now) c.self.view_is

pub returns-in-None : goal.returns-in-None
returns-in-None c =
    sym (field_gone c.self.inside.trees.now c.args.name.now (sym (c.self.invariant.finds c.args.name.now) ∙ sym c.find_place.ensures ∙ c.in-None.is))
    ∙ ap (λ fs. field_named fs c.args.name.now) c.self.view_is
