-- The update commands, as total functions on records (this project's own). A command on a record that is not
-- alive changes nothing, `create` apart.
use Rattle.std.specs.Prelude.{ℤ, pos, ◌+ℤ◌, List, [], ◌∷◌, ◌++◌, Bool, true, false, cond, codes, Option, Some, None, option_map, option_and_then, unwrap_or}
use Rattle.store_record.specs.gql_plain.declared.plain.Plain.{Plain}
use Rattle.store_record.specs.gql_plain.declared.plain.Plain.TheVariants.{Null, Bool as Truth, Int, Text as Words, List as Listed, Tree as Object}
use Rattle.store_record.specs.Keys.{Text, Arguments, field_key, handle_name, is_in_range}
use Rattle.store_record.specs.declared.field.Field.{Field}
use Rattle.store_record.specs.declared.field.Field.TheVariants.{Leaf, Link, Links}
use Rattle.store_record.specs.declared.record.Record.{Record}
use Rattle.store_record.specs.declared.record.Slot.TheVariants.{Deleted}
use Rattle.store_model.specs.Records.{Records, live, with_slot, with_record, field_at, with_field, record_of}
use Rattle.store_model.specs.Merge.{below, edges_of, node_at, is_among, nodes_at, edge_id, counter_of, next_edge}
use Rattle.store_model.specs.declared.command.Command.{Command}
use Rattle.store_model.specs.declared.command.Command.TheVariants as C
use Rattle.store_model.specs.declared.command.EdgeEdit.{EdgeEdit}

-- the records with a live record changed
abbrev pub change_record : Text → (Record → Record) → Records → Records
change_record id change m = unwrap_or (option_map (λ r. with_record id (change r) m) (live id m)) m

-- ---- fields

abbrev pub set_field : Text → Text → Arguments → Field → Records → Records
set_field id name arguments value m = change_record id (with_field (field_key name arguments) value) m

abbrev pub sum_or : ℤ → ℤ → ℤ
sum_or a b = cond (is_in_range (a +ℤ b)) (a +ℤ b) a

-- a whole number becomes the sum with another, where that is within 64 bits; all else stays
abbrev pub plus : ℤ → Plain → Plain
plus by Null = Null
plus by (Truth b) = Truth b
plus by (Int z) = Int (sum_or z by)
plus by (Words s) = Words s
plus by (Listed ts) = Listed ts
plus by (Object ms) = Object ms

abbrev pub field_plus : ℤ → Field → Field
field_plus by (Leaf value) = Leaf (plus by value)
field_plus by (Link id) = Link id
field_plus by (Links ids) = Links ids

abbrev pub add_to_field : Text → ℤ → Record → Record
add_to_field key by r = unwrap_or (option_map (λ f. with_field key (field_plus by f) r) (field_at key r)) r

-- a link, or null where there is none
abbrev pub link_or_null : Option Text → Field
link_or_null None = Leaf Null
link_or_null (Some id) = Link id

-- ---- records

abbrev pub create_record : Option Record → Text → Text → Records → Records
create_record None id of m = with_record id (record_of of) m
create_record (Some r) id of m = m

abbrev pub delete_record : Option Record → Text → Records → Records
delete_record None id m = m
delete_record (Some r) id m = with_slot id Deleted m

-- ---- edges

-- the live connection that an edit names, and its id
abbrev pub connection_of : EdgeEdit → Records → Option (Text × Record)
connection_of e m = option_and_then (λ parent. below (field_key (handle_name e.key) e.filters) parent m) (live e.id m)

-- an edge of a node, made whole
abbrev pub edge_of : EdgeEdit → Record
edge_of e = with_field (codes "node") (Link e.node) (with_field (codes "cursor") (Leaf e.cursor) (record_of e.edge_type))

-- the edges with a new one last, or first
abbrev pub with_edge : Bool → List (Option Text) → Text → List (Option Text)
with_edge true edges id = Some id ∷ edges
with_edge false edges id = edges ++ Some id ∷ []

-- a new edge, and the counter of edges rises
abbrev pub edge_put : Bool → EdgeEdit → Text × Record → Records → Records
edge_put front e c m =
    let id = edge_id c.0 (counter_of c.1) in
    with_record id (edge_of e)
    (with_record c.0
    (with_field (codes "__next") (Leaf (Int (pos (next_edge (counter_of c.1)))))
    (with_field (codes "edges") (Links (with_edge front (edges_of c.1) id)) c.1)) m)

-- unless some edge has that node
abbrev pub edge_inserted : Bool → EdgeEdit → Option (Text × Record) → Records → Records
edge_inserted front e None m = m
edge_inserted front e (Some c) m = cond {A = Records} (is_among (nodes_at m (edges_of c.1)) (Some e.node)) m (edge_put front e c m)

-- the edges whose node is another
abbrev pub edges_without : Records → Text → List (Option Text) → List (Option Text)
edges_without m node [] = []
edges_without m node (e ∷ es) = cond (is_among (node_at m e ∷ []) (Some node)) (edges_without m node es) (e ∷ edges_without m node es)

abbrev pub field_without : Records → Text → Field → Field
field_without m node (Leaf value) = Leaf value
field_without m node (Link id) = Link id
field_without m node (Links ids) = Links (edges_without m node ids)

-- every edge of a node is taken out; it stays as a record
abbrev pub edge_deleted : EdgeEdit → Option (Text × Record) → Records → Records
edge_deleted e None m = m
edge_deleted e (Some c) m =
    unwrap_or (option_map (λ f. with_record c.0 (with_field (codes "edges") (field_without m e.node f) c.1) m) (field_at (codes "edges") c.1)) m

abbrev pub insert_edge : Bool → EdgeEdit → Records → Records
insert_edge front e m = edge_inserted front e (connection_of e m) m

abbrev pub delete_edge : EdgeEdit → Records → Records
delete_edge e m = edge_deleted e (connection_of e m) m

-- ---- commands

abbrev pub act : Command → Records → Records
act (C.Set id field args value) m = set_field id field args (Leaf value) m
act (C.Add id field args by) m = change_record id (add_to_field (field_key field args) by) m
act (C.Link id field args to) m = set_field id field args (link_or_null to) m
act (C.Links id field args to) m = set_field id field args (Links to) m
act (C.Create id of) m = create_record (live id m) id of m
act (C.Delete id) m = delete_record (live id m) id m
act (C.AppendNode e) m = insert_edge false e m
act (C.PrependNode e) m = insert_edge true e m
act (C.DeleteEdge e) m = delete_edge e m

abbrev pub act_all : List Command → Records → Records
act_all [] m = m
act_all (c ∷ cs) m = act_all cs (act c m)
