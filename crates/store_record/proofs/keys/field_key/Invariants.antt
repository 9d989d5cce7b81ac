use Rattle.std.proofs.Common.{◌≡◌, ◌++◌, string_bytes}
use Rattle.store_record.proofs.KeyTexts.{left_from}
use Rattle.store_record.proofs.keys.field_key.Given as goal
use Rattle.store_record.specs.Keys.{field_key}

abbrev pub invariant-arguments : goal.invariant-arguments
invariant-arguments l = string_bytes l.text ++ left_from l.begun l.argument-items l.argument-index ≡ field_key l.name l.fn.arguments
