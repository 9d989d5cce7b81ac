-- The directives at one place of a kind.
use Rattle.std.specs.Prelude.{List, [], ◌∷◌, cond}
use Rattle.doc_uses.specs.gql_ast.declared.location.Location.{Location}
use Rattle.doc_uses.specs.schema_types.ArgumentRules.{Directed, stands_once}
use Rattle.doc_uses.specs.schema_tables.BuiltIn as known
use Rattle.doc_uses.specs.schema_trees.Located.{Located}
use Rattle.doc_uses.specs.schema_types.Sites.{DirectiveAt}
use Rattle.doc_uses.specs.schema_tables.Types.{Defs}

abbrev pub directives_at : Location → List DirectiveAt → Directed
directives_at l ds = record { location = l; directives = ds }

-- the name of a directive that may not stand twice
abbrev pub once_name : Defs → DirectiveAt → List Located
once_name defs d = cond (stands_once (known.directive defs d.name.name)) (d.name ∷ []) []
