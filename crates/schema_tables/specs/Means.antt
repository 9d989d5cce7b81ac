-- What a named type takes, as look-ups tell it.
use Rattle.std.specs.Prelude.{◌≡◌, List, map}
use Rattle.gql_graph.specs.gql_plain.Order.{sorted_texts}
use Rattle.gql_ast.specs.declared.member.InputTree.{InputTree}
use Rattle.schema_tables.specs.declared.fits.Meaning.{Meaning}
use Rattle.schema_tables.specs.declared.fits.Meaning.TheVariants as M
use Rattle.schema_tables.specs.Fits.{meaning_of, built_in, one_of, fields, anything}
use Rattle.schema_tables.specs.Types.{Text, Defs, input_def}

-- what was told is what the type means
abbrev pub Means : Defs → Text → Meaning → Type 0
Means defs n M.BuiltIn = meaning_of defs n ≡ built_in n
Means defs n (M.OneOf names) = (ns : List Text) × (meaning_of defs n ≡ one_of ns) × (names.now ≡ sorted_texts ns)
Means defs n (M.Fields inputs) = (is : List InputTree) × (meaning_of defs n ≡ fields is) × (inputs ≡ map input_def is)
Means defs n M.Anything = meaning_of defs n ≡ anything
