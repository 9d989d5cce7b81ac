use Rattle.std.proofs.Common.{◌≡◌, ℕ, List, [], ◌&&◌, ◌||◌, length, slice_index_or, take, bytes_eq}
use Rattle.gql_graph.specs.gql_plain.Order.{has_text}
use Rattle.schema_tables.proofs.possible.put_at_each.Given as goal
use Rattle.schema_tables.specs.Objects.{is_among}

abbrev pub invariant-interfaces : goal.invariant-interfaces
invariant-interfaces l = record {
  all : length l.groups.items ≡ length l.definitions;
  put : (k : ℕ) (n : List ℕ) → has_text (slice_index_or l.groups.items k []) n
      ≡ (has_text (slice_index_or l.initial.groups.items k []) n || (is_among l.definitions (take l.interface-index l.interfaces) k && bytes_eq l.name n));
}
