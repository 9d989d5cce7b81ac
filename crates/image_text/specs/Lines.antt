-- The lines of an image: each the compact text of a JSON array.
use Rattle.std.specs.Prelude.{ℕ, pos, List, [], ◌∷◌, ◌++◌, map, codes, Option, Some, None}
use Rattle.store_model.specs.gql_plain.Shown.{tree_of}
use Rattle.store_model.specs.gql_plain.ToJson.{compact}
use Rattle.store_model.specs.gql_plain.Tree.{Tree, null, whole, text, list, object, trees_of, members_of}
use Rattle.image_marks.specs.store_record.Keys.{Text, Arguments}
use Rattle.image_marks.specs.store_record.declared.field.Field.{Field}
use Rattle.image_marks.specs.store_record.declared.field.Field.TheVariants.{Leaf, Link, Links}
use Rattle.image_marks.specs.store_record.declared.record.Record.{Record}
use Rattle.store_model.specs.declared.command.Command.{Command}
use Rattle.store_model.specs.declared.command.Command.TheVariants as C
use Rattle.store_model.specs.declared.command.EdgeEdit.{EdgeEdit}
use Rattle.store_model.specs.declared.entry.Entry.{Entry}
use Rattle.store_model.specs.declared.event.Part.{Part}
use Rattle.store_model.specs.declared.facts.Fact.{Fact}
use Rattle.store_model.specs.declared.facts.HandleFact.{HandleFact}
use Rattle.image_marks.specs.Flat.{flat}
use Rattle.image_text.specs.declared.image.Image.{Image}
use Rattle.image_text.specs.declared.image.ImageHandle.{ImageHandle}
use Rattle.image_text.specs.declared.image.ImageLayer.{ImageLayer}
use Rattle.image_text.specs.declared.image.ImageMark.{ImageMark}
use Rattle.image_text.specs.declared.image.ImageRecord.{ImageRecord}
use Rattle.image_text.specs.declared.image.ImageRelease.{ImageRelease}
use Rattle.image_text.specs.declared.image.ImageWatch.{ImageWatch}

-- what a line holds
abbrev pub Row : Type 0
Row = List Tree

-- a list inside a line
abbrev pub inner : Row → Tree
inner row = list (trees_of row)

abbrev pub marks : Tree → Tree
marks t = inner (flat t)

abbrev pub count : ℕ → Tree
count n = whole (pos n)

-- the pairs as an object
abbrev pub pairs : Arguments → Tree
pairs ms = object (members_of ms)

abbrev pub id_or_null : Option Text → Tree
id_or_null None = null
id_or_null (Some id) = text id

abbrev pub field_tree : Field → Tree
field_tree (Leaf value) = inner (text (codes "leaf") ∷ marks (tree_of value) ∷ [])
field_tree (Link id) = inner (text (codes "link") ∷ text id ∷ [])
field_tree (Links ids) = inner (text (codes "links") ∷ inner (map id_or_null ids) ∷ [])

-- ---- commands, as the objects that a line of a script gives, with every key

abbrev pub edges : EdgeEdit → Arguments
edges e = (codes "filters", pairs e.filters) ∷ (codes "id", text e.id) ∷ (codes "key", text e.key) ∷ (codes "node", text e.node) ∷ []

abbrev pub new_edge : EdgeEdit → Arguments
new_edge e = (codes "cursor", tree_of e.cursor) ∷ (codes "edge_type", text e.edge_type) ∷ edges e

abbrev pub on_field : Text → Text → Arguments → Arguments
on_field id field args = (codes "args", pairs args) ∷ (codes "field", text field) ∷ (codes "id", text id) ∷ []

-- the name of a command, and its keys in byte order
abbrev pub parts_of : Command → Text × Arguments
parts_of (C.Set id field args value) = (codes "set", on_field id field args ++ (codes "value", tree_of value) ∷ [])
parts_of (C.Add id field args by) = (codes "add", (codes "args", pairs args) ∷ (codes "by", whole by) ∷ (codes "field", text field) ∷ (codes "id", text id) ∷ [])
parts_of (C.Link id field args to) = (codes "link", on_field id field args ++ (codes "to", id_or_null to) ∷ [])
parts_of (C.Links id field args to) = (codes "links", on_field id field args ++ (codes "to", inner (map id_or_null to)) ∷ [])
parts_of (C.Create id of) = (codes "create", (codes "id", text id) ∷ (codes "type", text of) ∷ [])
parts_of (C.Delete id) = (codes "delete", (codes "id", text id) ∷ [])
parts_of (C.AppendNode e) = (codes "append_node", new_edge e)
parts_of (C.PrependNode e) = (codes "prepend_node", new_edge e)
parts_of (C.DeleteEdge e) = (codes "delete_edge", edges e)

abbrev pub command_tree : Command → Tree
command_tree c = pairs (((parts_of c).0, pairs (parts_of c).1) ∷ [])

-- ---- rows

abbrev pub head_row : Image → Row
head_row v = text (codes "image") ∷ count 1 ∷ count v.buffer ∷ count v.lines ∷ count v.marks ∷ count v.whole ∷ []

abbrev pub field_row : Text × Field → Row
field_row f = text (codes "field") ∷ text f.0 ∷ field_tree f.1 ∷ []

abbrev pub slot_rows : Text → Option Record → List Row
slot_rows id None = (text (codes "deleted") ∷ text id ∷ []) ∷ []
slot_rows id (Some r) = (text (codes "record") ∷ text id ∷ text r.type_name ∷ []) ∷ map field_row r.fields

abbrev pub record_rows : ImageRecord → List Row
record_rows r = slot_rows r.id r.slot

abbrev pub fact_row : Fact → Row
fact_row f = text (codes "fact") ∷ text f.id ∷ text f.key ∷ field_tree f.value ∷ []

abbrev pub page_row : HandleFact → Row
page_row h =
    text (codes "page") ∷ text h.parent ∷ text h.handle_key ∷ text h.field_key ∷ marks (tree_of h.after) ∷ marks (tree_of h.before)
    ∷ text h.page_type ∷ text h.info_type ∷ []

abbrev pub command_row : Command → Row
command_row c = text (codes "do") ∷ marks (command_tree c) ∷ []

abbrev pub entry_rows : Entry → List Row
entry_rows e = map fact_row e.facts.facts ++ (map page_row e.facts.handles ++ map command_row e.commands)

abbrev pub layer_rows : ImageLayer → List Row
layer_rows l = (text (codes "layer") ∷ text l.name ∷ []) ∷ entry_rows l.entry

abbrev pub handle_row : ImageHandle → Row
handle_row h = text (codes "handle") ∷ text h.name ∷ text h.op ∷ marks (pairs h.vars) ∷ count h.fresh ∷ []

abbrev pub released_row : ImageRelease → Row
released_row r = text (codes "released") ∷ text r.op ∷ marks (pairs r.vars) ∷ []

abbrev pub part_row : Option Part → Row
part_row None = []
part_row (Some p) = text p.fragment ∷ text p.id ∷ marks (pairs p.args) ∷ []

abbrev pub watch_row : ImageWatch → Row
watch_row w = text (codes "watch") ∷ text w.name ∷ text w.handle ∷ part_row w.part

abbrev pub mark_row : ImageMark → Row
mark_row m = text (codes "mark") ∷ text m.id ∷ count m.at ∷ []

abbrev pub end_row : Row
end_row = text (codes "end") ∷ []

-- what `f` gives of each, joined
abbrev pub joined : {A : Type 0} → (A → List Row) → List A → List Row
joined f [] = []
joined f (x ∷ xs) = f x ++ joined f xs

abbrev pub rows_of : Image → List Row
rows_of v =
    head_row v ∷ (joined record_rows v.records ++ (joined layer_rows v.layers ++ (map handle_row v.handles ++ (map released_row v.released
    ++ (map watch_row v.watches ++ (map mark_row v.marked ++ end_row ∷ []))))))

-- ---- the text

abbrev pub row_text : Row → Text
row_text row = compact (inner row)

-- the line of a row, with its end
abbrev pub row_line : Row → Text
row_line row = row_text row ++ 10 ∷ []

abbrev pub text_of_rows : List Row → Text
text_of_rows [] = []
text_of_rows (row ∷ rows) = row_line row ++ text_of_rows rows

unfoldable pub image_text : Image → Text
image_text v = text_of_rows (rows_of v)
