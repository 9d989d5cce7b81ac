use Rattle.std.proofs.Common.{Some, sym, ap, ◌∙◌, arith}
use Rattle.schema_tables.proofs.Finding.{within}
use Rattle.schema_tables.proofs.InputsFound.{input_there, input_gone}
use Rattle.schema_tables.proofs.definitions.InputDefs.find.Goals as goal
use Rattle.schema_tables.specs.InputPlaces.{is_named}
use Rattle.schema_tables.specs.Inputs.{input_among}
use Rattle.schema_tables.specs.Types.{input_def}

pub find_place-requires : goal.find_place-requires
find_place-requires c = c.self.invariant.names.in_order

pub bounds-trees-at : goal.bounds-trees-at
bounds-trees-at c = within (is_named c.args.name.now) c.self.inside.trees.now c.in-Some.at (sym (c.self.invariant.names.finds c.args.name.now) ∙ sym c.find_place.ensures ∙ c.in-Some.is)

pub offset_bounds-trees-at : goal.offset_bounds-trees-at
offset_bounds-trees-at c =
    let low = within (is_named c.args.name.now) c.self.inside.trees.now c.in-Some.at (sym (c.self.invariant.names.finds c.args.name.now) ∙ sym c.find_place.ensures ∙ c.in-Some.is) in
    omega arith

pub returns-in-Some : goal.returns-in-Some
returns-in-Some c =
    ap (λ i. Some (input_def i)) c.index-trees-at.is
    ∙ sym (input_there c.self.inside.trees.now c.args.name.now c.in-Some.at c.index-trees-at.result (sym (c.self.invariant.names.finds c.args.name.now) ∙ sym c.find_place.ensures ∙ c.in-Some.is))
    ∙ ap (λ is. input_among is c.args.name.now) c.self.view_is

pub returns-in-None : goal.returns-in-None
returns-in-None c =
    sym (input_gone c.self.inside.trees.now c.args.name.now (sym (c.self.invariant.names.finds c.args.name.now) ∙ sym c.find_place.ensures ∙ c.in-None.is))
    ∙ ap (λ is. input_among is c.args.name.now) c.self.view_is
