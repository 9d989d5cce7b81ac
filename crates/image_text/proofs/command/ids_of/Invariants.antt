use Rattle.std.proofs.Common.{◌≡◌, ◌++◌, map, drop}
use Rattle.image_text.specs.Lines.{id_or_null}
use Rattle.image_text.proofs.command.ids_of.Given as goal

abbrev pub invariant-ids : goal.invariant-ids
invariant-ids l = l.plains ++ map id_or_null (drop l.id-index l.id-items) ≡ map id_or_null l.id-items
