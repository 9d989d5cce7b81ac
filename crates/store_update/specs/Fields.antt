-- Whether a record has what a fact says already.
use Rattle.std.specs.Prelude.{◌&&◌, List, Bool, false, Option, Some, None}
use Rattle.std.specs.List.{list_all}
use Rattle.std.specs.Str.{bytes_eq}
use Rattle.store_conn.specs.gql_plain.Order.{member_at}
use Rattle.store_conn.specs.store_record.Equal.{field_eq}
use Rattle.store_conn.specs.store_record.Keys.{Text}
use Rattle.store_conn.specs.store_record.declared.field.Field.{Field}
use Rattle.store_conn.specs.store_record.declared.record.Record.{Record}
use Rattle.store_conn.specs.store_model.declared.facts.FactRow.{FactRow}

abbrev pub is_field : Option Field → Field → Bool
is_field None field = false
is_field (Some old) field = field_eq old field

-- whether that field stands under the key
abbrev pub has_field : List (Text × Field) → Text × Field → Bool
has_field fields pair = is_field (member_at fields pair.0) pair.1

-- whether a record has the name of the type and each field of a row
abbrev pub has_row : FactRow → Record → Bool
has_row row r = bytes_eq r.type_name row.type_name && list_all (has_field r.fields) row.fields
