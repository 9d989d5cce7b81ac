-- The edges that a page gives, by the case of its merge.
use Rattle.std.specs.Prelude.{ℕ, List, [], Option}
use Rattle.store_model.specs.store_record.Keys.{Text}
use Rattle.store_model.specs.store_record.declared.record.Record.{Record}
use Rattle.store_model.specs.Merge.{Kept, edges_of, edge_ids, live_edges, new_edges, nodes_at, nodes_of, others_than}
use Rattle.store_model.specs.Records.{Records}

-- without those whose node is that of an earlier one
abbrev pub whole_edges : Record → Records → List Record
whole_edges server m = new_edges [] (live_edges m (edges_of server))

-- and without those whose node is that of an edge of the connection
abbrev pub later_edges : Record → Kept → Records → List Record
later_edges server c m = new_edges (nodes_at m (edges_of c.row)) (live_edges m (edges_of server))

-- the edges of the connection, without those whose node is that of an edge of the page
abbrev pub other_edges : Record → Kept → Records → List (Option Text)
other_edges server c m = others_than m (nodes_of (whole_edges server m)) (edges_of c.row)

abbrev pub whole_ids : Record → Kept → Records → List (Option Text)
whole_ids server c m = edge_ids c.id c.next (whole_edges server m)

abbrev pub later_ids : Record → Kept → Records → List (Option Text)
later_ids server c m = edge_ids c.id c.next (later_edges server c m)
