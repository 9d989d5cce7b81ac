use Rattle.std.proofs.Common.{◌≡◌, ◌-◌, length, drop}
use Rattle.gql_lex.specs.Strings.{further, text_end}
use Rattle.gql_lex.proofs.strings.text_end.Given as goal

abbrev pub invariant-text : goal.invariant-text
invariant-text l = text_end 0 l.bytes ≡ further l.at (text_end 0 (drop l.at l.bytes))

abbrev pub decreases-text : goal.decreases-text
decreases-text l = length l.bytes - l.at
