-- The local variables that a directive defines, with their places.
use Rattle.std.specs.Prelude.{List, [], cond, codes, bytes_eq}
use Rattle.schema_types.specs.ArgumentRules.{argument_names}
use Rattle.schema_types.specs.schema_trees.Located.{Located}
use Rattle.schema_types.specs.Sites.{DirectiveAt}

abbrev pub located_locals : DirectiveAt → List Located
located_locals d = cond (bytes_eq d.name.name (codes "argumentDefinitions")) (argument_names d.arguments) []
