-- Reading an image row by row: what each row puts to the image so far. It asks little of the order of rows, and nothing of the name
-- and the version in the first one: an image that was read is written again, and the texts are compared.
use Rattle.std.specs.Prelude.{ℕ, pos, List, [], ◌∷◌, ◌++◌, cond, codes, bytes_eq, Option, Some, None, option_map, option_and_then}
use Rattle.store_model.specs.gql_plain.ToJson.{data_of}
use Rattle.store_model.specs.gql_plain.Tree.{Tree, null, truth, whole, text, list, object}
use Rattle.store_model.specs.gql_plain.declared.plain.Plain.{Plain}
use Rattle.store_model.specs.store_record.Keys.{Text, Arguments}
use Rattle.store_model.specs.store_record.declared.field.Field.{Field}
use Rattle.store_model.specs.store_record.declared.field.Field.TheVariants.{Leaf, Link, Links}
use Rattle.store_model.specs.store_record.declared.record.Record.{Record}
use Rattle.store_model.specs.Events.{command_of, pairs_list, plain_of_tree, tree_list}
use Rattle.store_model.specs.declared.command.Command.{Command}
use Rattle.store_model.specs.declared.event.Part.{Part}
use Rattle.store_model.specs.declared.facts.Fact.{Fact}
use Rattle.store_model.specs.declared.facts.HandleFact.{HandleFact}
use Rattle.image_text.specs.image_marks.Flat.{only, unflat}
use Rattle.image_text.specs.Lines.{Row}
use Rattle.image_text.specs.declared.image.Image.{Image}
use Rattle.image_text.specs.declared.image.ImageHandle.{ImageHandle}
use Rattle.image_text.specs.declared.image.ImageLayer.{ImageLayer}
use Rattle.image_text.specs.declared.image.ImageMark.{ImageMark}
use Rattle.image_text.specs.declared.image.ImageRecord.{ImageRecord}
use Rattle.image_text.specs.declared.image.ImageRelease.{ImageRelease}
use Rattle.image_text.specs.declared.image.ImageWatch.{ImageWatch}

-- ---- what stands in a row

abbrev pub marked_value : Tree → Option Tree
marked_value (list ts) = unflat (tree_list ts)
marked_value _ = None

abbrev pub object_in : Tree → Option Arguments
object_in (object ms) = Some (pairs_list ms)
object_in _ = None

abbrev pub marked_pairs : Tree → Option Arguments
marked_pairs t = option_and_then object_in (marked_value t)

-- an id, or null for none
abbrev pub id_in : Tree → Option (Option Text)
id_in null = Some None
id_in (truth b) = None
id_in (whole z) = None
id_in (text id) = Some (Some id)
id_in (list ts) = None
id_in (object ms) = None

abbrev pub ids_in : List Tree → Option (List (Option Text))
ids_in [] = Some []
ids_in (t ∷ ts) = option_and_then (λ id. option_map (λ ids. id ∷ ids) (ids_in ts)) (id_in t)

abbrev pub count_in : Tree → Option ℕ
count_in (whole (pos n)) = Some n
count_in _ = None

-- the value as code holds it
abbrev pub marked_plain : Tree → Option Plain
marked_plain t = option_map plain_of_tree (marked_value t)

-- under the name of its form
abbrev pub leaf_in : Tree → Option Field
leaf_in t = option_map Leaf (marked_plain t)

abbrev pub link_in : Tree → Option Field
link_in (text id) = Some (Link id)
link_in _ = None

abbrev pub links_in : Tree → Option Field
links_in (list ts) = option_map Links (ids_in (tree_list ts))
links_in _ = None

abbrev pub field_named : Text → Tree → Option Field
field_named name t =
    cond (bytes_eq name (codes "leaf")) (leaf_in t)
    (cond (bytes_eq name (codes "link")) (link_in t)
    (cond (bytes_eq name (codes "links")) (links_in t) None))

abbrev pub field_in : Row → Option Field
field_in (text name ∷ t ∷ []) = field_named name t
field_in _ = None

abbrev pub field_of : Tree → Option Field
field_of (list ts) = field_in (tree_list ts)
field_of _ = None

abbrev pub command_of_marks : Tree → Option Command
command_of_marks t = option_and_then (λ value. command_of (data_of value)) (marked_value t)

-- ---- the image with more in it

abbrev pub with_records : List ImageRecord → Image → Image
with_records xs v = record { buffer = v.buffer; lines = v.lines; marks = v.marks; whole = v.whole; records = xs; layers = v.layers; handles = v.handles; released = v.released; watches = v.watches; marked = v.marked }

abbrev pub with_layers : List ImageLayer → Image → Image
with_layers xs v = record { buffer = v.buffer; lines = v.lines; marks = v.marks; whole = v.whole; records = v.records; layers = xs; handles = v.handles; released = v.released; watches = v.watches; marked = v.marked }

abbrev pub with_handles : List ImageHandle → Image → Image
with_handles xs v = record { buffer = v.buffer; lines = v.lines; marks = v.marks; whole = v.whole; records = v.records; layers = v.layers; handles = xs; released = v.released; watches = v.watches; marked = v.marked }

abbrev pub with_released : List ImageRelease → Image → Image
with_released xs v = record { buffer = v.buffer; lines = v.lines; marks = v.marks; whole = v.whole; records = v.records; layers = v.layers; handles = v.handles; released = xs; watches = v.watches; marked = v.marked }

abbrev pub with_watches : List ImageWatch → Image → Image
with_watches xs v = record { buffer = v.buffer; lines = v.lines; marks = v.marks; whole = v.whole; records = v.records; layers = v.layers; handles = v.handles; released = v.released; watches = xs; marked = v.marked }

abbrev pub with_marked : List ImageMark → Image → Image
with_marked xs v = record { buffer = v.buffer; lines = v.lines; marks = v.marks; whole = v.whole; records = v.records; layers = v.layers; handles = v.handles; released = v.released; watches = v.watches; marked = xs }

-- the last of a list, changed
abbrev pub on_last : {A : Type 0} → (A → Option A) → List A → Option (List A)
on_last f [] = None
on_last f (x ∷ []) = option_map (λ y. y ∷ []) (f x)
on_last f (x ∷ y ∷ ys) = option_map (λ zs. x ∷ zs) (on_last f (y ∷ ys))

-- ---- what the items behind a row's name are

abbrev pub deleted_in : Row → Option ImageRecord
deleted_in (text id ∷ []) = Some (record { id = id; slot = None })
deleted_in _ = None

abbrev pub record_in : Row → Option ImageRecord
record_in (text id ∷ text type_name ∷ []) = Some (record { id = id; slot = Some (record { type_name = type_name; fields = [] }) })
record_in _ = None

abbrev pub key_and_field_in : Row → Option (Text × Field)
key_and_field_in (text key ∷ t ∷ []) = option_map (λ field. (key, field)) (field_of t)
key_and_field_in _ = None

abbrev pub layer_in : Row → Option ImageLayer
layer_in (text name ∷ []) = Some (record { name = name; entry = record { facts = record { facts = []; handles = [] }; commands = [] } })
layer_in _ = None

abbrev pub fact_in : Row → Option Fact
fact_in (text id ∷ text key ∷ t ∷ []) = option_map (λ value. record { id = id; key = key; value = value }) (field_of t)
fact_in _ = None

-- the texts of a page
pub record Names : Type 0 where
  pub parent : Text
  pub handle_key : Text
  pub field_key : Text
  pub page_type : Text
  pub info_type : Text

abbrev pub page_of : Names → Plain → Plain → HandleFact
page_of n after before = record {
  parent = n.parent;
  handle_key = n.handle_key;
  field_key = n.field_key;
  after = after;
  before = before;
  page_type = n.page_type;
  info_type = n.info_type;
}

abbrev pub page_between : Names → Tree → Tree → Option HandleFact
page_between n after before = option_and_then (λ a. option_map (λ b. page_of n a b) (marked_plain before)) (marked_plain after)

abbrev pub page_in : Row → Option HandleFact
page_in (text parent ∷ text handle_key ∷ text field_key ∷ after ∷ before ∷ text page_type ∷ text info_type ∷ []) =
    page_between (record { parent = parent; handle_key = handle_key; field_key = field_key; page_type = page_type; info_type = info_type }) after before
page_in _ = None

abbrev pub command_in : Row → Option Command
command_in row = option_and_then command_of_marks (only row)

abbrev pub handle_in : Row → Option ImageHandle
handle_in (text name ∷ text op ∷ t ∷ n ∷ []) =
    option_and_then (λ fresh. option_map (λ vars. record { name = name; op = op; vars = vars; fresh = fresh }) (marked_pairs t)) (count_in n)
handle_in _ = None

abbrev pub release_in : Row → Option ImageRelease
release_in (text op ∷ t ∷ []) = option_map (λ vars. record { op = op; vars = vars }) (marked_pairs t)
release_in _ = None

-- none where the whole operation is watched
abbrev pub part_in : Row → Option (Option Part)
part_in [] = Some None
part_in (text fragment ∷ text id ∷ t ∷ []) = option_map (λ args. Some (record { fragment = fragment; id = id; args = args })) (marked_pairs t)
part_in _ = None

abbrev pub watch_in : Row → Option ImageWatch
watch_in (text name ∷ text handle ∷ rest) = option_map (λ part. record { name = name; handle = handle; part = part }) (part_in rest)
watch_in _ = None

abbrev pub mark_in : Row → Option ImageMark
mark_in (text id ∷ n ∷ []) = option_map (λ at. record { id = id; at = at }) (count_in n)
mark_in _ = None

-- ---- what they add

abbrev pub put_record : ImageRecord → Image → Image
put_record r v = with_records (v.records ++ r ∷ []) v

abbrev pub with_field : Text × Field → Option Record → Option (Option Record)
with_field f None = None
with_field f (Some r) = Some (Some (record { type_name = r.type_name; fields = r.fields ++ f ∷ [] }))

-- the record, where it is alive, with a field more
abbrev pub record_with : Text × Field → ImageRecord → Option ImageRecord
record_with f r = option_map (λ slot. record { id = r.id; slot = slot }) (with_field f r.slot)

abbrev pub put_field : Text × Field → Image → Option Image
put_field f v = option_map (λ rs. with_records rs v) (on_last (record_with f) v.records)

abbrev pub put_layer : ImageLayer → Image → Image
put_layer l v = with_layers (v.layers ++ l ∷ []) v

abbrev pub in_layer : (ImageLayer → ImageLayer) → Image → Option Image
in_layer f v = option_map (λ ls. with_layers ls v) (on_last (λ l. Some (f l)) v.layers)

abbrev pub with_fact : Fact → ImageLayer → ImageLayer
with_fact f l = record { name = l.name; entry = record { facts = record { facts = l.entry.facts.facts ++ f ∷ []; handles = l.entry.facts.handles }; commands = l.entry.commands } }

abbrev pub with_page : HandleFact → ImageLayer → ImageLayer
with_page h l = record { name = l.name; entry = record { facts = record { facts = l.entry.facts.facts; handles = l.entry.facts.handles ++ h ∷ [] }; commands = l.entry.commands } }

abbrev pub with_command : Command → ImageLayer → ImageLayer
with_command c l = record { name = l.name; entry = record { facts = l.entry.facts; commands = l.entry.commands ++ c ∷ [] } }

abbrev pub put_handle : ImageHandle → Image → Image
put_handle h v = with_handles (v.handles ++ h ∷ []) v

abbrev pub put_release : ImageRelease → Image → Image
put_release r v = with_released (v.released ++ r ∷ []) v

abbrev pub put_watch : ImageWatch → Image → Image
put_watch w v = with_watches (v.watches ++ w ∷ []) v

abbrev pub put_mark : ImageMark → Image → Image
put_mark m v = with_marked (v.marked ++ m ∷ []) v

-- the row of this name; the last one says nothing
abbrev pub take_named : Text → Row → Image → Option Image
take_named name row v =
    cond (bytes_eq name (codes "deleted")) (option_map (λ r. put_record r v) (deleted_in row))
    (cond (bytes_eq name (codes "record")) (option_map (λ r. put_record r v) (record_in row))
    (cond (bytes_eq name (codes "field")) (option_and_then (λ f. put_field f v) (key_and_field_in row))
    (cond (bytes_eq name (codes "layer")) (option_map (λ l. put_layer l v) (layer_in row))
    (cond (bytes_eq name (codes "fact")) (option_and_then (λ f. in_layer (with_fact f) v) (fact_in row))
    (cond (bytes_eq name (codes "page")) (option_and_then (λ h. in_layer (with_page h) v) (page_in row))
    (cond (bytes_eq name (codes "do")) (option_and_then (λ c. in_layer (with_command c) v) (command_in row))
    (cond (bytes_eq name (codes "handle")) (option_map (λ h. put_handle h v) (handle_in row))
    (cond (bytes_eq name (codes "released")) (option_map (λ r. put_release r v) (release_in row))
    (cond (bytes_eq name (codes "watch")) (option_map (λ w. put_watch w v) (watch_in row))
    (cond (bytes_eq name (codes "mark")) (option_map (λ m. put_mark m v) (mark_in row))
    (cond (bytes_eq name (codes "end")) (Some v) None)))))))))))

abbrev pub take_row : Row → Image → Option Image
take_row (text name ∷ row) v = take_named name row v
take_row _ v = None

abbrev pub take_rows : List Row → Image → Option Image
take_rows [] v = Some v
take_rows (row ∷ rows) v = option_and_then (take_rows rows) (take_row row v)

abbrev pub empty_image : ℕ → ℕ → ℕ → ℕ → Image
empty_image buffer lines marks all =
    record { buffer = buffer; lines = lines; marks = marks; whole = all; records = []; layers = []; handles = []; released = []; watches = []; marked = [] }

abbrev pub begun : Row → Option Image
begun (name ∷ version ∷ b ∷ n ∷ m ∷ w ∷ []) =
    option_and_then (λ buffer. option_and_then (λ lines. option_and_then (λ marks. option_map (λ all. empty_image buffer lines marks all)
    (count_in w)) (count_in m)) (count_in n)) (count_in b)
begun _ = None

abbrev pub image_of_rows : List Row → Option Image
image_of_rows [] = None
image_of_rows (row ∷ rows) = option_and_then (take_rows rows) (begun row)
