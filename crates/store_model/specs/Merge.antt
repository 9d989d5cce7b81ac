-- Merging a page of a connection into the connection that the client keeps (Cursor Connections; the merge
-- is this project's own). All that is looked at is looked at in the records before the merge.
use Rattle.std.specs.Prelude.{ℕ, ◌+◌, ◌-◌, ◌^◌, pos, negsuc, List, [], ◌∷◌, ◌++◌, Bool, true, false, ◌&&◌, ◌||◌, cond, codes, bytes_eq, min, Option, Some, None, option_map, option_and_then, unwrap_or}
use Rattle.std.specs.List.{list_any}
use Rattle.store_record.specs.gql_plain.Equal.{tree_eq}
use Rattle.store_record.specs.gql_plain.Shown.{tree_of}
use Rattle.store_record.specs.gql_plain.declared.plain.Plain.{Plain}
use Rattle.store_record.specs.gql_plain.declared.plain.Plain.TheVariants.{Null, Bool as Truth, Int, Text as Words, List as Listed, Tree as Object}
use Rattle.store_record.specs.Keys.{Text, client_id}
use Rattle.store_record.specs.declared.field.Field.{Field}
use Rattle.store_record.specs.declared.field.Field.TheVariants.{Leaf, Link, Links}
use Rattle.store_record.specs.declared.record.Record.{Record}
use Rattle.store_model.specs.Records.{Records, live, with_record, field_at, with_field, record_of}
use Rattle.store_model.specs.declared.facts.HandleFact.{HandleFact}

-- ---- looking into records

abbrev pub link_of : Field → Option Text
link_of (Leaf value) = None
link_of (Link id) = Some id
link_of (Links ids) = None

abbrev pub links_of : Field → List (Option Text)
links_of (Leaf value) = []
links_of (Link id) = []
links_of (Links ids) = ids

abbrev pub leaf_of : Field → Option Plain
leaf_of (Leaf value) = Some value
leaf_of (Link id) = None
leaf_of (Links ids) = None

-- the id that a record links to under a key
abbrev pub link_under : Text → Record → Option Text
link_under key r = option_and_then link_of (field_at key r)

-- the ids and nulls of a list under a key; none where there is no list
abbrev pub edges_of : Record → List (Option Text)
edges_of r = unwrap_or (option_map links_of (field_at (codes "edges") r)) []

-- an id, where its record is live, and that record
abbrev pub with_live : Records → Text → Option (Text × Record)
with_live m id = option_map (λ r. (id, r)) (live id m)

-- the live record to which a record links under a key, and its id
abbrev pub below : Text → Record → Records → Option (Text × Record)
below key r m = option_and_then (with_live m) (link_under key r)

-- the node of an edge
abbrev pub node_of : Record → Option Text
node_of = link_under (codes "node")

abbrev pub same_node : Option Text → Option Text → Bool
same_node None b = false
same_node (Some i) None = false
same_node (Some i) (Some j) = bytes_eq i j

abbrev pub is_among : List (Option Text) → Option Text → Bool
is_among nodes node = list_any (λ one. same_node one node) nodes

-- the node of an edge of a list, where the edge is live
abbrev pub node_at : Records → Option Text → Option Text
node_at m edge = option_and_then node_of (option_and_then (λ id. live id m) edge)

abbrev pub nodes_at : Records → List (Option Text) → List (Option Text)
nodes_at m [] = []
nodes_at m (e ∷ es) = node_at m e ∷ nodes_at m es

-- ---- new edges

-- the live records of the server's edges; null and dead ones are dropped
abbrev pub live_edges : Records → List (Option Text) → List Record
live_edges m [] = []
live_edges m (None ∷ es) = live_edges m es
live_edges m (Some id ∷ es) = unwrap_or (option_map (λ r. r ∷ live_edges m es) (live id m)) (live_edges m es)

-- the edges whose node is none of those before it
abbrev pub new_edges : List (Option Text) → List Record → List Record
new_edges before [] = []
new_edges before (e ∷ es) = cond (is_among before (node_of e)) (new_edges before es) (e ∷ new_edges (node_of e ∷ before) es)

-- ---- the counter of edges

abbrev pub count_of : Plain → ℕ
count_of Null = 0
count_of (Truth b) = 0
count_of (Int (pos n)) = n
count_of (Int (negsuc n)) = 0
count_of (Words s) = 0
count_of (Listed ts) = 0
count_of (Object ms) = 0

-- how many edges were made for a connection: it starts at 0 where no whole number of at least 0 stands there
abbrev pub counter_of : Record → ℕ
counter_of r = unwrap_or (option_map count_of (option_and_then leaf_of (field_at (codes "__next") r))) 0

-- the counter after one more edge: it stands still at the greatest number
abbrev pub next_edge : ℕ → ℕ
next_edge k = min (k + 1) (2 ^ 63 - 1)

abbrev pub edge_id : Text → ℕ → Text
edge_id connection k = client_id connection (codes "edges") (Some k)

-- the ids of edges that are made, numbered from k
abbrev pub edge_ids : Text → ℕ → List Record → List (Option Text)
edge_ids connection k [] = []
edge_ids connection k (e ∷ es) = Some (edge_id connection k) ∷ edge_ids connection (next_edge k) es

-- each is made whole, with the type and the fields of the server's edge
abbrev pub make_edges : Text → ℕ → List Record → Records → Records
make_edges connection k [] m = m
make_edges connection k (e ∷ es) m = make_edges connection (next_edge k) es (with_record (edge_id connection k) e m)

abbrev pub counter_after : ℕ → List Record → ℕ
counter_after k [] = k
counter_after k (e ∷ es) = counter_after (next_edge k) es

-- the counter is written only where an edge is made
abbrev pub with_counter : ℕ → List Record → Record → Record
with_counter k [] r = r
with_counter k (e ∷ es) r = with_field (codes "__next") (Leaf (Int (pos (counter_after k (e ∷ es))))) r

-- ---- the connection

abbrev pub is_own_key : Text → Bool
is_own_key key = bytes_eq key (codes "edges") || bytes_eq key (codes "pageInfo") || bytes_eq key (codes "__next")

-- the fields of the server's connection but `edges`, `pageInfo` and `__next` are copied over
abbrev pub copied_over : List (Text × Field) → Record → Record
copied_over [] r = r
copied_over (f ∷ fs) r = copied_over fs (cond {A = Record} (is_own_key f.0) r (with_field f.0 f.1 r))

abbrev pub info_id : Text → Text
info_id connection = client_id connection (codes "pageInfo") None

-- the page information of the server's connection, where it is live
abbrev pub info_below : Record → Records → Option Record
info_below server m = option_map (λ p. p.1) (below (codes "pageInfo") server m)

-- made whole with the fields of the server's, or with none
abbrev pub whole_info : Text → Option Record → Record
whole_info info_type None = record_of info_type
whole_info info_type (Some r) = record { type_name = info_type; fields = r.fields }

-- one field is taken where the server has it
abbrev pub take_field : Text → Record → Record → Record
take_field key server r = unwrap_or (option_map (λ f. with_field key f r) (field_at key server)) r

-- two fields are taken where the server has them; all else stays
abbrev pub taken_both : Text → Text → Option Record → Record → Record
taken_both key other None r = r
taken_both key other (Some server) r = take_field other server (take_field key server r)

-- where a connection is kept: its id, its record, the number of its next edge
pub record Kept : Type 0 where
  pub id : Text
  pub row : Record
  pub next : ℕ

-- the connection with these edges of before, before or after these new ones
abbrev pub with_edges : Record → Kept → List (Option Text) → List Record → List (Option Text) → Record
with_edges server c first new last =
    with_counter c.next new
    (with_field (codes "edges") (Links (first ++ edge_ids c.id c.next new ++ last)) (copied_over server.fields c.row))

-- The page replaces the edges, and the page information is made whole. It is looked at in m, and written onto
-- the other records.
abbrev pub replace_edges : HandleFact → Record → Kept → Records → Records → Records
replace_edges h server c m onto =
    let new = new_edges [] (live_edges m (edges_of server)) in
    with_record (info_id c.id) (whole_info h.info_type (info_below server m))
    (make_edges c.id c.next new
    (with_record c.id (with_field (codes "pageInfo") (Link (info_id c.id)) (with_edges server c [] new [])) onto))

-- a live page information with these two fields taken
abbrev pub with_info : Text → Text → Text → Option Record → Option Record → Records → Records
with_info id key other server None m = m
with_info id key other server (Some r) m = with_record id (taken_both key other server r) m

-- old edges, then new ones
abbrev pub page_after : Record → Kept → Records → Records
page_after server c m =
    let old = edges_of c.row in
    let new = new_edges (nodes_at m old) (live_edges m (edges_of server)) in
    with_info (info_id c.id) (codes "endCursor") (codes "hasNextPage") (info_below server m) (live (info_id c.id) m)
    (make_edges c.id c.next new (with_record c.id (with_edges server c old new []) m))

-- an old edge is left out where a new edge of the list has its node
abbrev pub others_than : Records → List (Option Text) → List (Option Text) → List (Option Text)
others_than m nodes [] = []
others_than m nodes (e ∷ es) = cond (is_among nodes (node_at m e)) (others_than m nodes es) (e ∷ others_than m nodes es)

abbrev pub nodes_of : List Record → List (Option Text)
nodes_of [] = []
nodes_of (e ∷ es) = node_of e ∷ nodes_of es

-- new edges, then old ones
abbrev pub page_before : Record → Kept → Records → Records
page_before server c m =
    let new = new_edges [] (live_edges m (edges_of server)) in
    let old = others_than m (nodes_of new) (edges_of c.row) in
    with_info (info_id c.id) (codes "startCursor") (codes "hasPreviousPage") (info_below server m) (live (info_id c.id) m)
    (make_edges c.id c.next new (with_record c.id (with_edges server c [] new old) m))

-- whether a record has this value as a cursor
abbrev pub has_cursor : Text → Plain → Option Record → Bool
has_cursor key value None = false
has_cursor key value (Some r) = unwrap_or (option_map (λ v. tree_eq (tree_of v) (tree_of value)) (option_and_then leaf_of (field_at key r))) false

abbrev pub is_null : Plain → Bool
is_null Null = true
is_null (Truth b) = false
is_null (Int z) = false
is_null (Words s) = false
is_null (Listed ts) = false
is_null (Object ms) = false

-- the page replaces the edges where no cursor was asked for, goes after them where it follows their last one,
-- and before them where it comes before their first one; else nothing changes
abbrev pub onto_client : HandleFact → Record → Kept → Records → Records
onto_client h server c m =
    cond (is_null h.before)
    (cond (is_null h.after) (replace_edges h server c m m)
    (cond (has_cursor (codes "endCursor") h.after (live (info_id c.id) m)) (page_after server c m) m))
    (cond (is_null h.after && has_cursor (codes "startCursor") h.before (live (info_id c.id) m)) (page_before server c m) m)

-- a connection that is not kept yet is made whole, and the parent's handle key links to it
abbrev pub onto_none : HandleFact → Record → Record → Records → Records
onto_none h server parent m =
    let id = client_id h.parent h.handle_key None in
    replace_edges h server (record { id = id; row = record_of h.page_type; next = 0 }) m
    (with_record h.parent (with_field h.handle_key (Link id) parent) m)

abbrev pub kept_connection : Text × Record → Kept
kept_connection c = record { id = c.0; row = c.1; next = counter_of c.1 }

abbrev pub onto : HandleFact → Record → Record → Option (Text × Record) → Records → Records
onto h server parent None m = onto_none h server parent m
onto h server parent (Some c) m = onto_client h server (kept_connection c) m

-- without a live connection of the server, the handle key becomes null
abbrev pub with_page : HandleFact → Record → Option (Text × Record) → Records → Records
with_page h parent None m = with_record h.parent (with_field h.handle_key (Leaf Null) parent) m
with_page h parent (Some server) m = onto h server.1 parent (below h.handle_key parent m) m

abbrev pub of_parent : HandleFact → Option Record → Records → Records
of_parent h None m = m
of_parent h (Some parent) m = with_page h parent (below h.field_key parent m) m

-- the records with one page merged; nothing happens where the parent is not alive
abbrev pub merge : HandleFact → Records → Records
merge h m = of_parent h (live h.parent m) m
