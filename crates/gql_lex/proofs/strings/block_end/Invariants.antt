use Rattle.std.proofs.Common.{◌≡◌, ◌-◌, length, drop}
use Rattle.gql_lex.specs.Strings.{further, block_end}
use Rattle.gql_lex.proofs.strings.block_end.Given as goal

abbrev pub invariant-block : goal.invariant-block
invariant-block l = block_end 0 l.bytes ≡ further l.at (block_end 0 (drop l.at l.bytes))

abbrev pub decreases-block : goal.decreases-block
decreases-block l = length l.bytes - l.at
