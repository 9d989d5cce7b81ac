-- The tables are of the definitions.
use Rattle.std.proofs.Common.{sym, ap, ◌∙◌}
use Rattle.schema_rules.specs.Checked.{first_fault}
use Rattle.schema_rules.specs.schema_tables.Types.{Defs}
use Rattle.schema_types.proofs.schema.Schema.build.Goals as goal

pub returns-in-Some-clause-fault : goal.returns-in-Some-clause-fault
returns-in-Some-clause-fault c =
    sym (ap (λ (defs : Defs). first_fault defs) c.in_ok-tables.ensures) ∙ sym c.in_ok-rule.ensures ∙ c.in-Some.is
