-- The required fields of an input object, by what is kept of its definition.
use Rattle.std.specs.Prelude.{Bool, true, not, ◌&&◌, ◌||◌, List, [], ◌∷◌}
use Rattle.gql_ast.specs.Value.{Members}
use Rattle.schema_tables.specs.Views.{InputDef}
use Rattle.schema_tables.specs.Fits.{has_member}
pub use Rattle.schema_tables.specs.Inputs.{must_be_given}

-- each input that has to be given is there
abbrev pub gives_each : List InputDef → Members → Bool
gives_each [] ms = true
gives_each (i ∷ is) ms = (not (must_be_given i) || has_member i.name ms) && gives_each is ms
