use Rattle.std.proofs.Common.{◌≡◌, ℕ, List, [], length, slice_index_or, take}
use Rattle.std.specs.List.{list_any}
use Rattle.gql_graph.specs.gql_plain.Order.{has_text}
use Rattle.schema_tables.proofs.possible.object_groups.Given as goal
use Rattle.schema_tables.specs.Objects.{adds}

abbrev pub invariant-definitions : goal.invariant-definitions
invariant-definitions l = record {
  all : length l.groups.items ≡ length l.definitions;
  put : (k : ℕ) (n : List ℕ) → has_text (slice_index_or l.groups.items k []) n ≡ list_any (adds l.definitions k n) (take l.definition-index l.definitions);
}
