-- Pairs under marked names.
use Rattle.std.specs.Prelude.{◌++◌, codes}
use Rattle.plan_ir.specs.gql_plain.Tree.{Tree}
use Rattle.plan_ir.specs.schema_tables.Types.{Text}

-- a colon stands before the name
abbrev pub marked : Text × Tree → Text × Tree
marked x = (codes ":" ++ x.0, x.1)
