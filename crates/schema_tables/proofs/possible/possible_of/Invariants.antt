use Rattle.std.proofs.Common.{◌≡◌, ◌<◌, ℕ, [], ◌++◌, length, slice_index_or, is_some}
use Rattle.schema_tables.specs.Places.{first_at}
use Rattle.std.specs.List.{filter}
use Rattle.gql_graph.specs.gql_plain.Order.{sorted_texts}
use Rattle.schema_tables.proofs.possible.possible_of.Given as goal
use Rattle.schema_tables.specs.Objects.{members_at, names_object}

abbrev pub invariant-definitions : goal.invariant-definitions
invariant-definitions l = record {
  all : length l.possible.items ≡ l.at;
  each : (k : ℕ) → k < l.at → slice_index_or l.possible.items k []
      ≡ sorted_texts (slice_index_or l.groups.items k [] ++ filter (λ n. is_some (first_at (names_object n) l.definitions)) (members_at l.definitions k));
}
