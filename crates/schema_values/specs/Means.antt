-- What a named type takes, as look-ups tell it.
use Rattle.std.specs.Prelude.{◌≡◌, Bool, true, not, ◌&&◌, ◌||◌, List, [], ◌∷◌, map, Some}
use Rattle.schema_types.specs.gql_ast.declared.member.InputTree.{InputTree}
use Rattle.schema_types.specs.gql_plain.Order.{sorted_texts}
use Rattle.schema_types.specs.gql_plain.Tree.{Members}
use Rattle.schema_types.specs.schema_tables.Views.{InputDef}
use Rattle.schema_types.specs.Environments.{has_key}
use Rattle.schema_types.specs.schema_tables.Fits.{meaning_of, built_in, one_of, fields, anything}
use Rattle.schema_types.specs.schema_tables.Given.{must_be_given}
use Rattle.schema_types.specs.schema_tables.Types.{Text, Defs, inputs_of, input_def}
use Rattle.schema_values.specs.declared.suited.Meaning.{Meaning}
use Rattle.schema_values.specs.declared.suited.Meaning.TheVariants as M

-- what was told is what the type means
abbrev pub Means : Defs → Text → Meaning → Type 0
Means defs n M.BuiltIn = meaning_of defs n ≡ built_in n
Means defs n (M.OneOf names) = (ns : List Text) × (meaning_of defs n ≡ one_of ns) × (names.now ≡ sorted_texts ns)
Means defs n (M.Fields inputs) = (is : List InputTree) × (meaning_of defs n ≡ fields is) × (inputs ≡ map input_def is) × (inputs_of defs n ≡ Some is)
Means defs n M.Anything = meaning_of defs n ≡ anything

-- each input that has to be given is there
abbrev pub gives_each : List InputDef → Members → Bool
gives_each [] ms = true
gives_each (i ∷ is) ms = (not (must_be_given i) || has_key i.name ms) && gives_each is ms
