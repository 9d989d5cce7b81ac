use Rattle.std.proofs.Common.{◌≡◌, drop}
use Rattle.schema_tables.proofs.tables.root_in.Given as goal
use Rattle.schema_tables.specs.Types.{root_in}

abbrev pub invariant-roots : goal.invariant-roots
invariant-roots l = root_in l.roots l.kind ≡ root_in (drop l.root-index l.roots) l.kind
