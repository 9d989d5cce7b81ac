use Rattle.std.proofs.Common.{◌≡◌, drop}
use Rattle.std.specs.List.{list_all}
use Rattle.gql_plain.specs.Names.{is_name_byte}
use Rattle.gql_plain.proofs.words.are_name_bytes.Given as goal

abbrev pub invariant-bytes : goal.invariant-bytes
invariant-bytes l = list_all is_name_byte l.bytes ≡ list_all is_name_byte (drop l.byte-index l.bytes)
