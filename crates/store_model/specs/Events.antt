-- The event of a line (this project's own): what a JSON value says as an event, and where it is none.
use Rattle.std.specs.Prelude.{ℤ, List, [], ◌∷◌, length, Bool, true, false, not, ◌&&◌, ◌||◌, cond, codes, bytes_eq, nat_eq, nat_lt, nat_le, Option, Some, None, option_map, option_and_then, is_some}
use Rattle.std.specs.List.{list_all, starts_with}
use Rattle.std.specs.Str.{is_utf8}
use Rattle.store_record.specs.gql_plain.Limits.{max_line}
use Rattle.store_record.specs.gql_plain.Names.{is_name}
use Rattle.store_record.specs.gql_plain.FromJson.{is_whole, plain_tree, members_are_whole, plain_members}
use Rattle.store_record.specs.gql_plain.Order.{has_text}
use Rattle.store_record.specs.gql_plain.Tree.{Tree, null, truth, whole, text, list, object, Trees, no_trees, tree, Members, no_members, member}
use Rattle.store_record.specs.gql_plain.declared.plain.Plain.{Plain}
use Rattle.store_record.specs.gql_plain.declared.plain.Plain.TheVariants as P
use Rattle.serde_json.specs.Data as J
use Rattle.serde_json.specs.Find.{get_member, as_i64, as_str}
use Rattle.serde_json.specs.Read.{read as read_text}
use Rattle.store_record.specs.Keys.{Text, Arguments, root}
use Rattle.store_model.specs.declared.command.Command.{Command}
use Rattle.store_model.specs.declared.command.Command.TheVariants as C
use Rattle.store_model.specs.declared.command.EdgeEdit.{EdgeEdit}

-- ---- events

-- a fragment that is read at a record, with the values of its local variables
pub record Part : Type 0 where
  pub fragment : Text
  pub id : Text
  pub args : Arguments

-- what is read: the operation of a handle, or a fragment under it
pub record Target : Type 0 where
  pub handle : Text
  pub part : Option Part

-- the response that the operation of a handle was given
pub record Answer : Type 0 where
  pub handle : Text
  pub response : J.Data

pub data Event : Type 0 where
  retain : (handle op : Text) (vars : Arguments) → Event
  release : (handle : Text) → Event
  payload : (answer : Answer) (updates : List Command) → Event
  update : (updates : List Command) → Event
  begin : (layer : Text) (answer : Option Answer) (updates : List Command) → Event
  finish : (layer : Text) (answer : Option Answer) (updates : List Command) → Event
  revert : (layer : Text) → Event
  read : (target : Target) → Event
  watch : (name : Text) (target : Target) → Event
  unwatch : (name : Text) → Event
  collect : Event

-- what a line is: too long, no JSON, no event, an event whose updates are no commands, or an event
pub data Line : Type 0 where
  too_long not_json no_event no_commands : Line
  event : Event → Line

-- ---- members of an object

abbrev pub keys_of : J.Members → List Text
keys_of J.no_members = []
keys_of (J.member k d ms) = k ∷ keys_of ms

-- no other keys stand
abbrev pub has_only : List Text → J.Members → Bool
has_only names ms = list_all (has_text names) (keys_of ms)

abbrev pub text_at : Text → J.Members → Option Text
text_at key ms = option_and_then as_str (get_member key ms)

abbrev pub where_true : {A : Type 0} → Bool → Option A → Option A
where_true true o = o
where_true false o = None

-- the text, where it passes a test
abbrev pub where_passes : (Text → Bool) → Option Text → Option Text
where_passes test None = None
where_passes test (Some t) = where_true (test t) (Some t)

-- the name of a handle, a layer or a watch: 1 to 200 bytes
abbrev pub is_short : Text → Bool
is_short t = nat_lt 0 (length t) && nat_le (length t) 200

abbrev pub is_there : Text → Bool
is_there t = nat_lt 0 (length t)

-- a Name that does not begin with `__`
abbrev pub is_field_name : Text → Bool
is_field_name t = is_name t && not (starts_with nat_eq t (codes "__"))

abbrev pub name_at : Text → J.Members → Option Text
name_at key ms = where_passes is_short (text_at key ms)

abbrev pub id_at : Text → J.Members → Option Text
id_at key ms = where_passes is_there (text_at key ms)

-- the id of a record that may be made or deleted: any but the root's
abbrev pub other_id_at : Text → J.Members → Option Text
other_id_at key ms = where_passes (λ t. not (bytes_eq t root)) (id_at key ms)

abbrev pub field_name_at : Text → J.Members → Option Text
field_name_at key ms = where_passes is_field_name (text_at key ms)

-- the pairs of a plain object
abbrev pub pairs_list : Members → Arguments
pairs_list no_members = []
pairs_list (member k t ms) = (k, t) ∷ pairs_list ms

-- an object whose numbers are all whole; empty where the key is left out
abbrev pub object_of : Option J.Data → Option Arguments
object_of None = Some []
object_of (Some J.null) = None
object_of (Some (J.boolean b)) = None
object_of (Some (J.number n)) = None
object_of (Some (J.string s)) = None
object_of (Some (J.array ds)) = None
object_of (Some (J.object ms)) = where_true (members_are_whole ms) (Some (pairs_list (plain_members ms)))

abbrev pub object_at : Text → J.Members → Option Arguments
object_at key ms = object_of (get_member key ms)

-- ---- plain values

abbrev pub tree_list : Trees → List Tree
tree_list no_trees = []
tree_list (tree t ts) = t ∷ tree_list ts

-- the plain value that a tree is
abbrev pub plain_of_tree : Tree → Plain
plain_of_tree null = P.Null
plain_of_tree (truth b) = P.Bool b
plain_of_tree (whole z) = P.Int z
plain_of_tree (text s) = P.Text s
plain_of_tree (list ts) = P.List (tree_list ts)
plain_of_tree (object ms) = P.Tree (pairs_list ms)

-- a value whose numbers are all whole
abbrev pub plain_of_data : J.Data → Option Plain
plain_of_data d = where_true (is_whole d) (Some (plain_of_tree (plain_tree d)))

abbrev pub plain_at : Text → J.Members → Option Plain
plain_at key ms = option_and_then plain_of_data (get_member key ms)

-- null where the key is left out
abbrev pub plain_or_null : Option J.Data → Option Plain
plain_or_null None = Some P.Null
plain_or_null (Some d) = plain_of_data d

abbrev pub whole_of : J.Data → Option ℤ
whole_of J.null = None
whole_of (J.boolean b) = None
whole_of (J.number n) = as_i64 n
whole_of (J.string s) = None
whole_of (J.array ds) = None
whole_of (J.object ms) = None

abbrev pub whole_at : Text → J.Members → Option ℤ
whole_at key ms = option_and_then whole_of (get_member key ms)

-- an id, or null
abbrev pub id_or_null : J.Data → Option (Option Text)
id_or_null J.null = Some None
id_or_null (J.boolean b) = None
id_or_null (J.number n) = None
id_or_null (J.string s) = where_true (is_there s) (Some (Some s))
id_or_null (J.array ds) = None
id_or_null (J.object ms) = None

abbrev pub ids_or_nulls : J.Items → Option (List (Option Text))
ids_or_nulls J.no_items = Some []
ids_or_nulls (J.item d ds) = option_and_then (λ id. option_map (λ ids. id ∷ ids) (ids_or_nulls ds)) (id_or_null d)

abbrev pub ids_of : J.Data → Option (List (Option Text))
ids_of J.null = None
ids_of (J.boolean b) = None
ids_of (J.number n) = None
ids_of (J.string s) = None
ids_of (J.array ds) = ids_or_nulls ds
ids_of (J.object ms) = None

-- ---- commands

-- the record, the field and the arguments that a command names
pub record Place : Type 0 where
  pub id : Text
  pub field : Text
  pub args : Arguments

abbrev pub place_of : J.Members → Option Place
place_of ms =
    option_and_then (λ id. option_and_then (λ field. option_map (λ args. record { id = id; field = field; args = args })
    (object_at (codes "args") ms)) (field_name_at (codes "field") ms)) (id_at (codes "id") ms)

-- the keys of a command on a field, and one more
abbrev pub place_keys : Text → List Text
place_keys key = codes "id" ∷ codes "field" ∷ codes "args" ∷ key ∷ []

abbrev pub set_of : J.Members → Option Command
set_of ms = where_true (has_only (place_keys (codes "value")) ms)
    (option_and_then (λ p. option_map (λ value. C.Set p.id p.field p.args value) (plain_at (codes "value") ms)) (place_of ms))

abbrev pub add_of : J.Members → Option Command
add_of ms = where_true (has_only (place_keys (codes "by")) ms)
    (option_and_then (λ p. option_map (λ by. C.Add p.id p.field p.args by) (whole_at (codes "by") ms)) (place_of ms))

abbrev pub link_of : J.Members → Option Command
link_of ms = where_true (has_only (place_keys (codes "to")) ms)
    (option_and_then (λ p. option_map (λ to. C.Link p.id p.field p.args to) (option_and_then id_or_null (get_member (codes "to") ms))) (place_of ms))

abbrev pub links_of : J.Members → Option Command
links_of ms = where_true (has_only (place_keys (codes "to")) ms)
    (option_and_then (λ p. option_map (λ to. C.Links p.id p.field p.args to) (option_and_then ids_of (get_member (codes "to") ms))) (place_of ms))

abbrev pub create_of : J.Members → Option Command
create_of ms = where_true (has_only (codes "id" ∷ codes "type" ∷ []) ms)
    (option_and_then (λ id. option_map (λ of. C.Create id of) (text_at (codes "type") ms)) (other_id_at (codes "id") ms))

abbrev pub delete_of : J.Members → Option Command
delete_of ms = where_true (has_only (codes "id" ∷ []) ms) (option_map C.Delete (other_id_at (codes "id") ms))

-- the connection that an edit of edges names, and the node
pub record Edges : Type 0 where
  pub id : Text
  pub key : Text
  pub filters : Arguments
  pub node : Text

abbrev pub edges_of : J.Members → Option Edges
edges_of ms =
    option_and_then (λ id. option_and_then (λ key. option_and_then (λ filters. option_map (λ node. record { id = id; key = key; filters = filters; node = node })
    (id_at (codes "node") ms)) (object_at (codes "filters") ms)) (field_name_at (codes "key") ms)) (id_at (codes "id") ms)

abbrev pub edit_keys : List Text
edit_keys = codes "id" ∷ codes "key" ∷ codes "filters" ∷ codes "node" ∷ []

abbrev pub edit_of : J.Members → Option EdgeEdit
edit_of ms = where_true (has_only (codes "edge_type" ∷ codes "cursor" ∷ edit_keys) ms)
    (option_and_then (λ e. option_and_then (λ edge_type. option_map
    (λ cursor. record { id = e.id; key = e.key; filters = e.filters; node = e.node; edge_type = edge_type; cursor = cursor })
    (plain_or_null (get_member (codes "cursor") ms))) (text_at (codes "edge_type") ms)) (edges_of ms))

abbrev pub delete_edge_of : J.Members → Option Command
delete_edge_of ms = where_true (has_only edit_keys ms)
    (option_map (λ e. C.DeleteEdge (record { id = e.id; key = e.key; filters = e.filters; node = e.node; edge_type = []; cursor = P.Null })) (edges_of ms))

abbrev pub command_named : Text → J.Members → Option Command
command_named name ms =
    cond (bytes_eq name (codes "set")) (set_of ms)
    (cond (bytes_eq name (codes "add")) (add_of ms)
    (cond (bytes_eq name (codes "link")) (link_of ms)
    (cond (bytes_eq name (codes "links")) (links_of ms)
    (cond (bytes_eq name (codes "create")) (create_of ms)
    (cond (bytes_eq name (codes "delete")) (delete_of ms)
    (cond (bytes_eq name (codes "append_node")) (option_map C.AppendNode (edit_of ms))
    (cond (bytes_eq name (codes "prepend_node")) (option_map C.PrependNode (edit_of ms))
    (cond (bytes_eq name (codes "delete_edge")) (delete_edge_of ms) None))))))))

-- an object of one key, whose value is an object
abbrev pub command_in : J.Members → Option Command
command_in J.no_members = None
command_in (J.member name J.null ms) = None
command_in (J.member name (J.boolean b) ms) = None
command_in (J.member name (J.number n) ms) = None
command_in (J.member name (J.string s) ms) = None
command_in (J.member name (J.array ds) ms) = None
command_in (J.member name (J.object fields) J.no_members) = command_named name fields
command_in (J.member name (J.object fields) (J.member k d ms)) = None

abbrev pub command_of : J.Data → Option Command
command_of J.null = None
command_of (J.boolean b) = None
command_of (J.number n) = None
command_of (J.string s) = None
command_of (J.array ds) = None
command_of (J.object ms) = command_in ms

abbrev pub commands_in : J.Items → Option (List Command)
commands_in J.no_items = Some []
commands_in (J.item d ds) = option_and_then (λ c. option_map (λ cs. c ∷ cs) (commands_in ds)) (command_of d)

abbrev pub commands_of : J.Data → Option (List Command)
commands_of J.null = None
commands_of (J.boolean b) = None
commands_of (J.number n) = None
commands_of (J.string s) = None
commands_of (J.array ds) = commands_in ds
commands_of (J.object ms) = None

-- ---- rows of events

-- an event, but for its updates: what it is with them, and what is given as them
pub record Shape : Type 0 where
  pub with_updates : List Command → Event
  pub updates : Option J.Data

abbrev pub plainly : Event → Shape
plainly e = record { with_updates = λ cs. e; updates = None }

abbrev pub retain_of : J.Members → Option Shape
retain_of ms = where_true (has_only (codes "do" ∷ codes "handle" ∷ codes "op" ∷ codes "vars" ∷ []) ms)
    (option_and_then (λ handle. option_and_then (λ op. option_map (λ vars. plainly (retain handle op vars))
    (object_at (codes "vars") ms)) (text_at (codes "op") ms)) (name_at (codes "handle") ms))

abbrev pub release_of : J.Members → Option Shape
release_of ms = where_true (has_only (codes "do" ∷ codes "handle" ∷ []) ms) (option_map (λ handle. plainly (release handle)) (name_at (codes "handle") ms))

abbrev pub answer_of : J.Members → Option Answer
answer_of ms = option_and_then (λ handle. option_map (λ response. record { handle = handle; response = response }) (get_member (codes "response") ms)) (name_at (codes "handle") ms)

-- handle and response come together or not at all
abbrev pub optional_answer : J.Members → Option (Option Answer)
optional_answer ms =
    cond (is_some (get_member (codes "handle") ms) || is_some (get_member (codes "response") ms))
    (option_map Some (answer_of ms)) (Some None)

abbrev pub payload_of : J.Members → Option Shape
payload_of ms = where_true (has_only (codes "do" ∷ codes "handle" ∷ codes "response" ∷ codes "updates" ∷ []) ms)
    (option_map (λ answer. record { with_updates = λ cs. payload answer cs; updates = get_member (codes "updates") ms }) (answer_of ms))

abbrev pub update_of : J.Members → Option Shape
update_of ms = where_true (has_only (codes "do" ∷ codes "updates" ∷ []) ms)
    (option_map (λ d. record { with_updates = update; updates = Some d }) (get_member (codes "updates") ms))

abbrev pub layer_keys : List Text
layer_keys = codes "do" ∷ codes "layer" ∷ codes "handle" ∷ codes "response" ∷ codes "updates" ∷ []

abbrev pub layer_shape : (Text → Option Answer → List Command → Event) → J.Members → Option Shape
layer_shape build ms = where_true (has_only layer_keys ms)
    (option_and_then (λ layer. option_map (λ answer. record { with_updates = λ cs. build layer answer cs; updates = get_member (codes "updates") ms })
    (optional_answer ms)) (name_at (codes "layer") ms))

abbrev pub revert_of : J.Members → Option Shape
revert_of ms = where_true (has_only (codes "do" ∷ codes "layer" ∷ []) ms) (option_map (λ layer. plainly (revert layer)) (name_at (codes "layer") ms))

-- `id` stands exactly where `fragment` does; `args` only there
abbrev pub part_of : J.Members → Option (Option Part)
part_of ms =
    cond (is_some (get_member (codes "fragment") ms) || is_some (get_member (codes "id") ms) || is_some (get_member (codes "args") ms))
    (option_and_then (λ fragment. option_and_then (λ id. option_map (λ args. Some (record { fragment = fragment; id = id; args = args }))
    (object_at (codes "args") ms)) (id_at (codes "id") ms)) (text_at (codes "fragment") ms))
    (Some None)

abbrev pub target_of : J.Members → Option Target
target_of ms = option_and_then (λ handle. option_map (λ part. record { handle = handle; part = part }) (part_of ms)) (name_at (codes "handle") ms)

abbrev pub target_keys : List Text
target_keys = codes "do" ∷ codes "handle" ∷ codes "fragment" ∷ codes "id" ∷ codes "args" ∷ []

abbrev pub read_of : J.Members → Option Shape
read_of ms = where_true (has_only target_keys ms) (option_map (λ target. plainly (read target)) (target_of ms))

abbrev pub watch_of : J.Members → Option Shape
watch_of ms = where_true (has_only (codes "watch" ∷ target_keys) ms)
    (option_and_then (λ name. option_map (λ target. plainly (watch name target)) (target_of ms)) (name_at (codes "watch") ms))

abbrev pub unwatch_of : J.Members → Option Shape
unwatch_of ms = where_true (has_only (codes "do" ∷ codes "watch" ∷ []) ms) (option_map (λ name. plainly (unwatch name)) (name_at (codes "watch") ms))

abbrev pub collect_of : J.Members → Option Shape
collect_of ms = where_true (has_only (codes "do" ∷ []) ms) (Some (plainly collect))

abbrev pub shape_named : Text → J.Members → Option Shape
shape_named name ms =
    cond (bytes_eq name (codes "retain")) (retain_of ms)
    (cond (bytes_eq name (codes "release")) (release_of ms)
    (cond (bytes_eq name (codes "payload")) (payload_of ms)
    (cond (bytes_eq name (codes "update")) (update_of ms)
    (cond (bytes_eq name (codes "begin")) (layer_shape begin ms)
    (cond (bytes_eq name (codes "finish")) (layer_shape finish ms)
    (cond (bytes_eq name (codes "revert")) (revert_of ms)
    (cond (bytes_eq name (codes "read")) (read_of ms)
    (cond (bytes_eq name (codes "watch")) (watch_of ms)
    (cond (bytes_eq name (codes "unwatch")) (unwatch_of ms)
    (cond (bytes_eq name (codes "collect")) (collect_of ms) None))))))))))

abbrev pub shape_in : J.Members → Option Shape
shape_in ms = option_and_then (λ name. shape_named name ms) (text_at (codes "do") ms)

abbrev pub shape_of : J.Data → Option Shape
shape_of J.null = None
shape_of (J.boolean b) = None
shape_of (J.number n) = None
shape_of (J.string s) = None
shape_of (J.array ds) = None
shape_of (J.object ms) = shape_in ms

-- ---- lines

abbrev pub with_commands : (List Command → Event) → Option (List Command) → Line
with_commands build None = no_commands
with_commands build (Some cs) = event (build cs)

abbrev pub with_given : (List Command → Event) → Option J.Data → Line
with_given build None = event (build [])
with_given build (Some d) = with_commands build (commands_of d)

abbrev pub of_shape : Option Shape → Line
of_shape None = no_event
of_shape (Some s) = with_given s.with_updates s.updates

abbrev pub of_value : Option J.Data → Line
of_value None = not_json
of_value (Some d) = of_shape (shape_of d)

abbrev pub of_text : Bool → Text → Line
of_text false bytes = not_json
of_text true bytes = of_value (read_text bytes)

-- the line that these bytes are
abbrev pub line_of : Text → Line
line_of bytes = cond (nat_le (length bytes) max_line) (of_text (is_utf8 bytes) bytes) too_long
