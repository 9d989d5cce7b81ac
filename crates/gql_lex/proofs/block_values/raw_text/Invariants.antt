use Rattle.std.proofs.Common.{◌≡◌, ◌++◌, ◌-◌, ◌≤◌, length, drop, string_bytes, IsCharBoundary}
use Rattle.gql_lex.specs.Values.{IsBlockRest, raw_text}
use Rattle.gql_lex.proofs.block_values.raw_text.Given as goal

abbrev pub invariant-raw : goal.invariant-raw
invariant-raw l = record {
  ended : IsBlockRest (drop l.at l.bytes);
  value : raw_text 0 (drop 3 l.bytes) ≡ string_bytes l.value ++ raw_text 0 (drop l.at l.bytes);
  boundary : IsCharBoundary l.bytes l.at;
  within : l.at ≤ length l.bytes;
}

abbrev pub decreases-raw : goal.decreases-raw
decreases-raw l = length l.bytes - l.at
