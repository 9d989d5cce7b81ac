use Rattle.std.proofs.Common.{◌≡◌, take}
use Rattle.std.specs.List.{fold}
use Rattle.store_tree.specs.KeyOrder.{with_byte, with_last_byte}
use Rattle.source_tests.proofs.trees.digest.Given as goal

abbrev pub invariant-front : goal.invariant-front
invariant-front l = l.digest ≡ fold with_byte 0 (take l.byte-index l.front)

abbrev pub invariant-last : goal.invariant-last
invariant-last l = l.digest ≡ fold with_last_byte l.initial.digest (take l.byte-index l.last)
