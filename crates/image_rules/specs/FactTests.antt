-- What is asked of facts, row by row.
use Rattle.std.specs.Prelude.{Bool, ◌&&◌, ◌||◌, bytes_eq, is_some}
use Rattle.std.specs.List.{list_all}
use Rattle.image_text.specs.Images.{has_ids}
use Rattle.store_model.specs.Events.{is_there}
use Rattle.store_model.specs.Records.{typename}
use Rattle.store_model.specs.declared.facts.FactRow.{FactRow}
use Rattle.gql_plain.specs.Order.{member_at}
use Rattle.store_model.specs.store_record.Keys.{Text}
use Rattle.store_model.specs.store_record.declared.field.Field.{Field}

-- whether a row has a fact under a key
abbrev pub has_key : FactRow → Text → Bool
has_key r key = bytes_eq typename key || is_some (member_at r.fields key)

-- the id is not empty, and the links of the fields are ids
abbrev pub is_row : FactRow → Bool
is_row r = is_there r.id && list_all (λ (f : Text × Field). has_ids f.1) r.fields
