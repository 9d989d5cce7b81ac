use Rattle.std.proofs.Common.{◌≡◌, ◌++◌, map, string_bytes}
use Rattle.store_source.proofs.flat.ids_of.Given as goal

abbrev pub invariant-ids : goal.invariant-ids
invariant-ids l = l.ids.items ++ map string_bytes l.id-iterator ≡ map string_bytes l.initial.id-iterator
