use Rattle.std.proofs.Common.{◌≡◌, None, Some, sym, ap, ◌∙◌, arith}
use Rattle.std.specs.Option.{option_and_then}
use Rattle.schema_tables.proofs.Finding.{finds, first_at-next, first_at-all, first_here, missing}
use Rattle.schema_tables.proofs.Named.{directive_found}
use Rattle.schema_tables.proofs.PartsFound.{as_many, part_at}
use Rattle.schema_tables.proofs.tables.directive_among.Goals as goal
use Rattle.schema_tables.specs.BuiltIn.{defined_directive}
use Rattle.schema_tables.specs.Parts.{is_directive}
use Rattle.schema_tables.specs.Places.{first_place}

pub bounds-parts-at : goal.bounds-parts-at
bounds-parts-at c = omega (arith, c.definitions-test.true, as_many c.args.definitions.now c.args.parts.now c.requires)

pub directive_in-requires : goal.directive_in-requires
directive_in-requires c =
    part_at c.args.definitions.now c.args.parts.now c.definitions.at c.index-definitions-at.result c.index-parts-at.result c.requires c.definitions-test.true c.index-definitions-at.is c.index-parts-at.is

pub returns-then-defines_directive : goal.returns-then-defines_directive
returns-then-defines_directive c =
    let there = first_here (is_directive c.args.name.now) c.args.definitions.now c.definitions.at c.index-definitions-at.result c.definitions.invariant c.definitions-test.true c.index-definitions-at.is
    (sym c.defines_directive.ensures ∙ c.if-defines_directive.true) in
    c.directive_in.ensures
    ∙ ap (option_and_then defined_directive)
    (sym (finds (is_directive c.args.name.now) c.args.definitions.now c.definitions.at c.index-definitions-at.result there ∙ ap Some (sym c.index-definitions-at.is)))
    ∙ sym (directive_found c.args.definitions.now c.args.name.now)

pub definitions-preserved : goal.definitions-preserved
definitions-preserved c =
    sym (first_at-next (is_directive c.args.name.now) c.args.definitions.now c.definitions.at c.index-definitions-at.result c.definitions-test.true c.index-definitions-at.is)
    ∙ ap (λ r. first_place r (is_directive c.args.name.now c.index-definitions-at.result) c.definitions.at) c.definitions.invariant
    ∙ ap (λ b. first_place None b c.definitions.at) (sym c.defines_directive.ensures ∙ c.if-defines_directive.false)

pub returns : goal.returns
returns c =
    let none = sym (first_at-all (is_directive c.args.name.now) c.args.definitions.now c.definitions.at c.definitions-test.false) ∙ c.definitions.invariant in
    sym (ap (option_and_then defined_directive) (missing (is_directive c.args.name.now) c.args.definitions.now none)) ∙ sym (directive_found c.args.definitions.now c.args.name.now)
