-- The connection that the client keeps, and what a page makes of it.
use Rattle.std.specs.Prelude.{◌≡◌, ℕ, List, [], ◌∷◌, ◌++◌, codes, cond, Option, Some, None, length}
use Rattle.store_model.specs.gql_plain.declared.plain.Plain.TheVariants.{Null}
use Rattle.store_model.specs.store_record.Keys.{Text}
use Rattle.store_model.specs.store_record.declared.field.Field.TheVariants.{Leaf, Links}
use Rattle.store_model.specs.store_record.declared.record.Record.{Record}
use Rattle.store_model.specs.Entries.{asked_onto, asked_by_cursor, asked_page}
use Rattle.store_model.specs.Merge.{Kept, copied_over, with_counter, counter_after, make_edges, below, onto, onto_none, onto_client, has_cursor, info_id, is_null, page_after, page_before, replace_edges}
use Rattle.store_model.specs.Records.{Records, live, with_field, with_record}
use Rattle.store_model.specs.declared.facts.HandleFact.{HandleFact}
use Rattle.store_conn.specs.Changes.{edge_changes}
use Rattle.store_conn.specs.declared.connection.Connection.{Connection}
use Rattle.store_conn.specs.declared.made.Made.{Made}

abbrev pub kept_of : Connection → Kept
kept_of c = record { id = c.id; row = c.row; next = c.next }

-- the connection with what the server's has, a list of edges, and the counter after the new ones
abbrev pub with_list : Record → Kept → List Record → List (Option Text) → Record
with_list server c new ids = with_counter c.next new (with_field (codes "edges") (Links ids) (copied_over server.fields c.row))

-- a page merged, by the record of the server's connection
abbrev pub of_server : HandleFact → Record → Option Record → Records → Records
of_server h parent None m = with_record h.parent (with_field h.handle_key (Leaf Null) parent) m
of_server h parent (Some server) m = onto h server parent (below h.handle_key parent m) m

-- a page merged into a connection, or into none
abbrev pub onto_kept : HandleFact → Record → Record → Option Kept → Records → Records
onto_kept h server parent None m = onto_none h server parent m
onto_kept h server parent (Some c) m = onto_client h server c m

-- a page that goes after the edges, if their last one has the cursor
abbrev pub onto_end : HandleFact → Record → Kept → Records → Records
onto_end h server c m = cond (has_cursor (codes "endCursor") h.after (live (info_id c.id) m)) (page_after server c m) m

-- a page that goes before the edges, if their first one has the cursor
abbrev pub onto_start : HandleFact → Record → Kept → Records → Records
onto_start h server c m = cond (has_cursor (codes "startCursor") h.before (live (info_id c.id) m)) (page_before server c m) m

-- a page that was not asked for before a cursor
abbrev pub onto_old : HandleFact → Record → Kept → Records → Records
onto_old h server c m = cond (is_null h.after) (replace_edges h server c m m) (onto_end h server c m)

-- ---- how many records of edges a page asks for

abbrev pub asked_of_server : HandleFact → Record → Option Record → Records → ℕ
asked_of_server h parent None m = 0
asked_of_server h parent (Some server) m = length (asked_onto h server (below h.handle_key parent m) m).edges

abbrev pub edges_asked : HandleFact → Record → Option Kept → Records → ℕ
edges_asked h server None m = length (asked_onto h server None m).edges
edges_asked h server (Some c) m = length (asked_onto h server (Some (c.id, c.row)) m).edges

abbrev pub asked_onto_end : HandleFact → Record → Kept → Records → ℕ
asked_onto_end h server c m = length (asked_by_cursor (has_cursor (codes "endCursor") h.after (live (info_id c.id) m)) (info_id c.id) server c.row).edges

abbrev pub asked_onto_start : HandleFact → Record → Kept → Records → ℕ
asked_onto_start h server c m = length (asked_by_cursor (has_cursor (codes "startCursor") h.before (live (info_id c.id) m)) (info_id c.id) server c.row).edges

abbrev pub asked_onto_old : HandleFact → Record → Kept → Records → ℕ
asked_onto_old h server c m = cond {A = ℕ} (is_null h.after) (length (asked_page server []).edges) (asked_onto_end h server c m)

-- ---- edges that are made

-- the edges that were made of these records, and the counter after them
pub record IsMade (c : Kept) (new : List Record) (made : Made) : Type 0 where
  pub edges : made.edges.items ≡ edge_changes c.id c.next new
  pub next : made.next ≡ counter_after c.next new

-- a connection and its new edges, put
abbrev pub put_connection : Kept → Record → List Record → Records → Records
put_connection c row new m = make_edges c.id c.next new (with_record c.id row m)
