-- The tables of a schema agree with its definitions.
use Rattle.std.specs.Prelude.{◌≡◌, ℕ, [], length, slice_index_or, Some}
use Rattle.schema_tables.specs.declared.tables.Tables.TheInside.{Inside}
use Rattle.schema_tables.specs.Indexes.{IsIndexOf, definition_name}
use Rattle.schema_tables.specs.Known.{built_in_trees}
use Rattle.schema_tables.specs.Parts.{is_type, is_directive, is_schema}
use Rattle.schema_tables.specs.Places.{first_at}
use Rattle.schema_tables.specs.TableParts.{AreParts}
use Rattle.schema_tables.specs.Types.{Text, possible}

pub record Agrees (t : Inside) : Type 0 where
  pub parts : AreParts t.definitions t.parts.items
  pub types : IsIndexOf definition_name is_type t.definitions t.types.places.items
  pub directives : IsIndexOf definition_name is_directive t.definitions t.directives.places.items
  pub schema : t.schema ≡ first_at is_schema t.definitions
  pub built_in : t.built_in.items ≡ built_in_trees
  pub built_in_parts : AreParts t.built_in.items t.built_in_parts.items
  pub possible : (n : Text) (at : ℕ) → first_at (is_type n) t.definitions ≡ Some at → slice_index_or t.possible.items at [] ≡ possible t.definitions n
  pub all : length t.possible.items ≡ length t.definitions
