use Rattle.std.proofs.Common.{◌≡◌, ◌++◌, ◌-◌, ◌≤◌, length, drop, string_bytes, IsCharBoundary}
use Rattle.gql_lex.specs.Values.{IsTextRest, text_value}
use Rattle.gql_lex.proofs.text_values.text_value.Given as goal

abbrev pub invariant-text : goal.invariant-text
invariant-text l = record {
  ended : IsTextRest (drop l.at l.bytes);
  value : text_value 0 (drop 1 l.bytes) ≡ string_bytes l.value ++ text_value 0 (drop l.at l.bytes);
  boundary : IsCharBoundary l.bytes l.at;
  within : l.at ≤ length l.bytes;
}

abbrev pub decreases-text : goal.decreases-text
decreases-text l = length l.bytes - l.at
