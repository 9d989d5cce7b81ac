use Rattle.std.proofs.Common.{None, sym, ap, ◌∙◌}
use Rattle.schema_tables.proofs.Finding.{first_at-next, first_at-all, first_here}
use Rattle.schema_tables.proofs.building.place_of_schema.Goals as goal
use Rattle.schema_tables.specs.Parts.{is_schema}
use Rattle.schema_tables.specs.Places.{first_place}

pub returns-then-defines_schema : goal.returns-then-defines_schema
returns-then-defines_schema c =
    sym (first_here is_schema c.args.definitions.now c.definitions.at c.index-definitions-at.result c.definitions.invariant c.definitions-test.true c.index-definitions-at.is
    (sym c.defines_schema.ensures ∙ c.if-defines_schema.true))

pub definitions-preserved : goal.definitions-preserved
definitions-preserved c =
    sym (first_at-next is_schema c.args.definitions.now c.definitions.at c.index-definitions-at.result c.definitions-test.true c.index-definitions-at.is)
    ∙ ap (λ r. first_place r (is_schema c.index-definitions-at.result) c.definitions.at) c.definitions.invariant
    ∙ ap (λ b. first_place None b c.definitions.at) (sym c.defines_schema.ensures ∙ c.if-defines_schema.false)

pub returns : goal.returns
returns c = sym (sym (first_at-all is_schema c.args.definitions.now c.definitions.at c.definitions-test.false) ∙ c.definitions.invariant)
