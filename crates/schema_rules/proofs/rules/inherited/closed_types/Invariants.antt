-- None in the set leaves an interface out.
use Rattle.schema_rules.specs.Inherited.{HasNone, is_open}
use Rattle.schema_rules.proofs.rules.inherited.closed_types.Given as goal

abbrev pub invariant-ranked : goal.invariant-ranked
invariant-ranked l = HasNone l.closed.names (is_open l.tables)
