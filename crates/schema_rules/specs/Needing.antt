-- What the type that a definition defines needs, with its name.
use Rattle.std.specs.Prelude.{List, [], ◌∷◌, Some}
use Rattle.schema_trees.specs.gql_ast.declared.schema.SchemaDef.{SchemaDef}
use Rattle.schema_trees.specs.gql_ast.declared.schema.SchemaDef.TheVariants as S
use Rattle.schema_rules.specs.Rules.{needs_of}
use Rattle.gql_graph.specs.Texts.{Text}

abbrev pub needing : SchemaDef → List (Text × List Text)
needing (S.Schema ds rs) = []
needing (S.Scalar n ds) = (n, []) ∷ []
needing (S.Object n is ds fs) = (n, []) ∷ []
needing (S.Interface n is ds fs) = (n, []) ∷ []
needing (S.Union n ds ms) = (n, []) ∷ []
needing (S.Enum n ds vs) = (n, []) ∷ []
needing (S.Input n ds fs) = (n, needs_of (Some fs)) ∷ []
needing (S.Directive n xs r ls) = []
