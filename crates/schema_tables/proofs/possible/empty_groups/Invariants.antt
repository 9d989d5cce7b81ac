use Rattle.std.proofs.Common.{◌≡◌, ℕ, [], length, slice_index_or}
use Rattle.schema_tables.proofs.possible.empty_groups.Given as goal

abbrev pub invariant-groups : goal.invariant-groups
invariant-groups l = record {
  all : length l.groups.items ≡ l.counter;
  empty : (k : ℕ) → slice_index_or l.groups.items k [] ≡ [];
}
