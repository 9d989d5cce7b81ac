-- A value as code can hold it.
use Rattle.std.specs.Prelude.{◌≡◌, true}
use Rattle.store_record.specs.gql_plain.Tree.{Tree}
use Rattle.store_record.specs.Keys.{is_in_64_bits}
use Rattle.image_marks.specs.Flat.{IsOrdered}

-- the keys of each object are distinct and in byte order, and its numbers are within 64 bits
abbrev pub IsValue : Tree → Type 0
IsValue t = IsOrdered t × (is_in_64_bits t ≡ true)
