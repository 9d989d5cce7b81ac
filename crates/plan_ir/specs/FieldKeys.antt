-- The keys under which fields are stored, where they are the same in each environment (this project's own).
use Rattle.std.specs.Prelude.{cond, List, [], Option, Some, None}
use Rattle.relay_marks.specs.gql_ast.Value.{Val, members_of}
use Rattle.relay_marks.specs.schema_tables.Types.{Text}
use Rattle.relay_marks.specs.schema_types.Environments.{arguments_in_environment}
use Rattle.relay_marks.specs.constant_values.Fittings.{have_constants}
use Rattle.store_model.specs.store_record.Keys.{field_key}

-- the key of a field in whose arguments no variable stands
abbrev pub constant_key : Text → List (Text × Val) → Option Text
constant_key name xs = cond (have_constants (members_of xs)) (Some (field_key name (arguments_in_environment [] xs))) None
