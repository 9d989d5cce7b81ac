-- Fields, inputs and directives by their names.
use Rattle.std.specs.Prelude.{Bool, List, Option, bytes_eq}
use Rattle.schema_tables.specs.Views.{FieldDef}
use Rattle.schema_tables.specs.Places.{first_that}
use Rattle.gql_graph.specs.Texts.{Text}
pub use Rattle.schema_tables.specs.Inputs.{is_input, input_among}

abbrev pub is_field : Text → FieldDef → Bool
is_field n f = bytes_eq f.name n

-- the first field of that name
abbrev pub field_among : List FieldDef → Text → Option FieldDef
field_among fs n = first_that (is_field n) fs
