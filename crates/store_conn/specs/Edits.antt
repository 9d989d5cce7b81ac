-- Edges that are put into a kept connection, or taken out of it.
use Rattle.std.specs.Prelude.{ℕ, pos, List, [], ◌∷◌, Bool, cond, codes, Option, Some, None, option_map, unwrap_or}
use Rattle.store_model.specs.gql_plain.declared.plain.Plain.TheVariants.{Int}
use Rattle.store_model.specs.store_record.Keys.{Text}
use Rattle.store_model.specs.store_record.declared.field.Field.{Field}
use Rattle.store_model.specs.store_record.declared.field.Field.TheVariants.{Leaf, Links}
use Rattle.store_model.specs.store_record.declared.record.Record.{Record}
use Rattle.store_model.specs.Merge.{Kept, edges_of, nodes_at, is_among, edge_id, next_edge}
use Rattle.store_model.specs.Records.{Records, field_at, with_field, with_record}
use Rattle.store_model.specs.Updates.{edge_of, with_edge, field_without}
use Rattle.store_model.specs.declared.command.EdgeEdit.{EdgeEdit}
use Rattle.store_conn.specs.Lists.{edges_in}

-- the connection with a list of one edge more, and the counter after it
abbrev pub row_with_list : Kept → List (Option Text) → Record
row_with_list c list = with_field (codes "__next") (Leaf (Int (pos (next_edge c.next)))) (with_field (codes "edges") (Links list) c.row)

abbrev pub row_with_edge : Bool → Kept → Record
row_with_edge front c = row_with_list c (with_edge front (edges_of c.row) (edge_id c.id c.next))

abbrev pub kept_put : Bool → EdgeEdit → Kept → Records → Records
kept_put front e c m = with_record (edge_id c.id c.next) (edge_of e) (with_record c.id (row_with_edge front c) m)

-- an edge put into a connection, unless some edge has its node
abbrev pub kept_inserted : Bool → EdgeEdit → Option Kept → Records → Records
kept_inserted front e None m = m
kept_inserted front e (Some c) m = cond {A = Records} (is_among (nodes_at m (edges_of c.row)) (Some e.node)) m (kept_put front e c m)

-- the edges of a node taken out of a field of edges
abbrev pub without_node : EdgeEdit → Kept → Field → Records → Records
without_node e c f m = with_record c.id (with_field (codes "edges") (field_without m e.node f) c.row) m

-- the edges of a node taken out of a connection
abbrev pub kept_deleted : EdgeEdit → Option Kept → Records → Records
kept_deleted e None m = m
kept_deleted e (Some c) m =
    unwrap_or (option_map (λ f. without_node e c f m) (field_at (codes "edges") c.row)) m

-- how many records of edges an edit asks for, once the connection is found
abbrev pub kept_asked : Option Kept → ℕ
kept_asked None = 0
kept_asked (Some c) = edges_in c.row
