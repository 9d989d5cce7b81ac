-- Arguments and input fields: which one has a name, and which have to be given.
use Rattle.std.specs.Prelude.{Bool, not, ◌&&◌, List, Option, is_some, bytes_eq}
use Rattle.gql_ast.specs.TypeView.{ty_of}
use Rattle.gql_graph.specs.Texts.{Text}
use Rattle.schema_tables.specs.Views.{InputDef}
use Rattle.schema_tables.specs.Places.{first_that}
use Rattle.schema_tables.specs.TypeForms.{is_non_null}

abbrev pub is_input : Text → InputDef → Bool
is_input n i = bytes_eq i.name n

-- the first input of that name
abbrev pub input_among : List InputDef → Text → Option InputDef
input_among is n = first_that (is_input n) is

-- whether an input has to be given
abbrev pub must_be_given : InputDef → Bool
must_be_given i = is_non_null (ty_of i.of) && not (is_some i.default)
