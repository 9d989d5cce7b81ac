-- Each line gives an event that a line can give.
use Rattle.std.proofs.Common.{◌≡◌, Bool, true, false, true≢false, not, cond, ◌||◌, List, [], ◌∷◌, Option, Some, None, codes, refl, sym, option_map, option_and_then, is_some, bytes_eq, nat_le, length}
use Rattle.std.specs.Str.{is_utf8}
use Rattle.serde_json.specs.Data as J
use Rattle.serde_json.specs.Find.{get_member}
use Rattle.serde_json.specs.Read.{read as read_text}
use Rattle.store_model.specs.gql_plain.Limits.{max_line}
use Rattle.store_model.specs.gql_plain.declared.plain.Plain.TheVariants as P
use Rattle.store_model.specs.store_record.Keys.{Text, root}
use Rattle.store_model.proofs.Least.{Each}
use Rattle.store_model.specs.Entries.{some_id, some_ids}
use Rattle.store_model.specs.Events as e
use Rattle.store_model.specs.Events.{Answer, Edges, Event, Place, Shape, add_of, answer_of, collect_of, command_in, command_named, command_of, commands_in, commands_of, create_of, delete_edge_of, delete_of, edges_of, edit_of, field_name_at, id_at, id_or_null, ids_of, ids_or_nulls, is_field_name, is_short, is_there, layer_shape, link_of, links_of, name_at, object_at, of_shape, of_text, of_value, optional_answer, other_id_at, part_of, payload_of, place_of, plain_at, plain_or_null, plainly, read_of, retain_of, set_of, shape_named, shape_of, target_of, text_at, update_of, watch_of, where_passes, where_true, whole_at, with_commands, with_given}
use Rattle.store_model.specs.declared.command.Command.{Command}
use Rattle.store_model.specs.declared.command.Command.TheVariants as C
use Rattle.sound_records.specs.Giving.{AreGiven, IsGivenEvent, IsGivenLine, IsGivenPart, IsGivenTarget, IsName, LinesAreGiven}
use Rattle.sound_records.specs.Sound.{IsGiven, IsGivenEdit, IsId}
use Rattle.sound_records.proofs.Slots.{Of, of_and_then}

-- ---- options

of_map : {X Y : Type 0} (P : X → Type 0) (Q : Y → Type 0) (f : X → Y) (o : Option X) → Of P o → ((x : X) → P x → Q (f x)) → Of Q (option_map f o)
of_map P Q f None h g = tt
of_map P Q f (Some x) h g = g x h

of_any : {X : Type 0} (o : Option X) → Of (λ _. Unit {0}) o
of_any None = tt
of_any (Some x) = tt

of_true : {X : Type 0} (P : X → Type 0) (b : Bool) (o : Option X) → Of P o → Of P (where_true b o)
of_true P true o h = h
of_true P false o h = tt

of_passing : (test : Text → Bool) (o : Option Text) → Of (λ t. test t ≡ true) (where_passes test o)
of_passing test None = tt
of_passing test (Some t) = at (test t) refl
  where
    at : (b : Bool) → test t ≡ b → Of (λ t. test t ≡ true) (where_true b (Some t))
    at true is = is
    at false is = tt

there_is : (t : Text) → is_there t ≡ true → IsId t
there_is [] h = absurd (true≢false (sym h))
there_is (b ∷ bs) h = tt

-- ---- members

ids : (key : Text) (ms : J.Members) → Of IsId (id_at key ms)
ids key ms = at (id_at key ms) (of_passing is_there (text_at key ms))
  where
    at : (o : Option Text) → Of (λ t. is_there t ≡ true) o → Of IsId o
    at None h = tt
    at (Some t) h = there_is t h

abbrev IsOther : Text → Type 0
IsOther id = IsId id × (bytes_eq id root ≡ false)

others : (key : Text) (ms : J.Members) → Of IsOther (other_id_at key ms)
others key ms = at (id_at key ms) (ids key ms)
  where
    by : (t : Text) → IsId t → (b : Bool) → bytes_eq t root ≡ b → Of IsOther (where_true (not b) (Some t))
    by t is true e = tt
    by t is false e = (is, e)

    at : (o : Option Text) → Of IsId o → Of IsOther (where_passes (λ t. not (bytes_eq t root)) o)
    at None h = tt
    at (Some t) h = by t h (bytes_eq t root) refl

abbrev IsPlace : Place → Type 0
IsPlace p = IsId p.id × (is_field_name p.field ≡ true)

places : (ms : J.Members) → Of IsPlace (place_of ms)
places ms =
    of_and_then IsId IsPlace (λ id. option_and_then (λ field. option_map (λ xs. record { id = id; field = field; args = xs }) (object_at (codes "args") ms)) (field_name_at (codes "field") ms))
    (id_at (codes "id") ms) (ids (codes "id") ms)
    (λ id is.
    of_and_then (λ t. is_field_name t ≡ true) IsPlace (λ field. option_map (λ xs. record { id = id; field = field; args = xs }) (object_at (codes "args") ms))
    (field_name_at (codes "field") ms) (of_passing is_field_name (text_at (codes "field") ms))
    (λ field named. of_map (λ _. Unit {0}) IsPlace (λ xs. record { id = id; field = field; args = xs }) (object_at (codes "args") ms) (of_any (object_at (codes "args") ms)) (λ xs _. (is, named))))

-- ---- links

abbrev IsLink : Option Text → Type 0
IsLink o = Each IsId (some_id o)

abbrev AreLinks : List (Option Text) → Type 0
AreLinks os = Each IsId (some_ids os)

links : (d : J.Data) → Of IsLink (id_or_null d)
links J.null = tt
links (J.boolean b) = tt
links (J.number n) = tt
links (J.string s) = at (is_there s) refl
  where
    at : (b : Bool) → is_there s ≡ b → Of IsLink (where_true b (Some (Some s)))
    at true h = (there_is s h, tt)
    at false h = tt
links (J.array ds) = tt
links (J.object ms) = tt

one_more : (o : Option Text) (os : List (Option Text)) → IsLink o → AreLinks os → AreLinks (o ∷ os)
one_more None os h k = k
one_more (Some id) os h k = (h.0, k)

all_links : (ds : J.Items) → Of AreLinks (ids_or_nulls ds)
all_links J.no_items = tt
all_links (J.item d ds) =
    of_and_then IsLink AreLinks (λ id. option_map (λ os. id ∷ os) (ids_or_nulls ds)) (id_or_null d) (links d)
    (λ id is. of_map AreLinks AreLinks (λ os. id ∷ os) (ids_or_nulls ds) (all_links ds) (λ os are. one_more id os is are))

listed : (d : J.Data) → Of AreLinks (ids_of d)
listed J.null = tt
listed (J.boolean b) = tt
listed (J.number n) = tt
listed (J.string s) = tt
listed (J.array ds) = all_links ds
listed (J.object ms) = tt

of_found : {Y : Type 0} (Q : Y → Type 0) (f : J.Data → Option Y) → ((d : J.Data) → Of Q (f d)) → (o : Option J.Data) → Of Q (option_and_then f o)
of_found Q f h None = tt
of_found Q f h (Some d) = h d

-- ---- commands

abbrev Gives : Option Command → Type 0
Gives o = Of IsGiven o

set_gives : (ms : J.Members) → Gives (set_of ms)
set_gives ms =
    of_true IsGiven (e.has_only (e.place_keys (codes "value")) ms) (option_and_then (λ p. option_map (λ value. C.Set p.id p.field p.args value) (plain_at (codes "value") ms)) (place_of ms))
    (of_and_then IsPlace IsGiven (λ p. option_map (λ value. C.Set p.id p.field p.args value) (plain_at (codes "value") ms)) (place_of ms) (places ms)
    (λ p is. of_map (λ _. Unit {0}) IsGiven (λ value. C.Set p.id p.field p.args value) (plain_at (codes "value") ms) (of_any (plain_at (codes "value") ms)) (λ value _. is)))

add_gives : (ms : J.Members) → Gives (add_of ms)
add_gives ms =
    of_true IsGiven (e.has_only (e.place_keys (codes "by")) ms) (option_and_then (λ p. option_map (λ by. C.Add p.id p.field p.args by) (whole_at (codes "by") ms)) (place_of ms))
    (of_and_then IsPlace IsGiven (λ p. option_map (λ by. C.Add p.id p.field p.args by) (whole_at (codes "by") ms)) (place_of ms) (places ms)
    (λ p is. of_map (λ _. Unit {0}) IsGiven (λ by. C.Add p.id p.field p.args by) (whole_at (codes "by") ms) (of_any (whole_at (codes "by") ms)) (λ by _. is)))

link_gives : (ms : J.Members) → Gives (link_of ms)
link_gives ms =
    of_true IsGiven (e.has_only (e.place_keys (codes "to")) ms) (option_and_then (λ p. option_map (λ to. C.Link p.id p.field p.args to) (option_and_then id_or_null (get_member (codes "to") ms))) (place_of ms))
    (of_and_then IsPlace IsGiven (λ p. option_map (λ to. C.Link p.id p.field p.args to) (option_and_then id_or_null (get_member (codes "to") ms))) (place_of ms) (places ms)
    (λ p is. of_map IsLink IsGiven (λ to. C.Link p.id p.field p.args to) (option_and_then id_or_null (get_member (codes "to") ms)) (of_found IsLink id_or_null links (get_member (codes "to") ms))
    (λ to are. (is.0, is.1, are))))

links_gives : (ms : J.Members) → Gives (links_of ms)
links_gives ms =
    of_true IsGiven (e.has_only (e.place_keys (codes "to")) ms) (option_and_then (λ p. option_map (λ to. C.Links p.id p.field p.args to) (option_and_then ids_of (get_member (codes "to") ms))) (place_of ms))
    (of_and_then IsPlace IsGiven (λ p. option_map (λ to. C.Links p.id p.field p.args to) (option_and_then ids_of (get_member (codes "to") ms))) (place_of ms) (places ms)
    (λ p is. of_map AreLinks IsGiven (λ to. C.Links p.id p.field p.args to) (option_and_then ids_of (get_member (codes "to") ms)) (of_found AreLinks ids_of listed (get_member (codes "to") ms))
    (λ to are. (is.0, is.1, are))))

create_gives : (ms : J.Members) → Gives (create_of ms)
create_gives ms =
    of_true IsGiven (e.has_only (codes "id" ∷ codes "type" ∷ []) ms) (option_and_then (λ id. option_map (λ of. C.Create id of) (text_at (codes "type") ms)) (other_id_at (codes "id") ms))
    (of_and_then IsOther IsGiven (λ id. option_map (λ of. C.Create id of) (text_at (codes "type") ms)) (other_id_at (codes "id") ms) (others (codes "id") ms)
    (λ id is. of_map (λ _. Unit {0}) IsGiven (λ of. C.Create id of) (text_at (codes "type") ms) (of_any (text_at (codes "type") ms)) (λ of _. is)))

delete_gives : (ms : J.Members) → Gives (delete_of ms)
delete_gives ms =
    of_true IsGiven (e.has_only (codes "id" ∷ []) ms) (option_map C.Delete (other_id_at (codes "id") ms))
    (of_map IsOther IsGiven C.Delete (other_id_at (codes "id") ms) (others (codes "id") ms) (λ id is. is))

record IsEdges (x : Edges) : Type 0 where
  of : IsId x.id
  key : is_field_name x.key ≡ true
  node : IsId x.node

edges_give : (ms : J.Members) → Of IsEdges (edges_of ms)
edges_give ms =
    of_and_then IsId IsEdges (λ id. option_and_then (λ key. option_and_then (λ filters. option_map (λ node. record { id = id; key = key; filters = filters; node = node })
    (id_at (codes "node") ms)) (object_at (codes "filters") ms)) (field_name_at (codes "key") ms)) (id_at (codes "id") ms) (ids (codes "id") ms)
    (λ id is.
    of_and_then (λ t. is_field_name t ≡ true) IsEdges (λ key. option_and_then (λ filters. option_map (λ node. record { id = id; key = key; filters = filters; node = node })
    (id_at (codes "node") ms)) (object_at (codes "filters") ms)) (field_name_at (codes "key") ms) (of_passing is_field_name (text_at (codes "key") ms))
    (λ key named.
    of_and_then (λ _. Unit {0}) IsEdges (λ filters. option_map (λ node. record { id = id; key = key; filters = filters; node = node }) (id_at (codes "node") ms))
    (object_at (codes "filters") ms) (of_any (object_at (codes "filters") ms))
    (λ filters _. of_map IsId IsEdges (λ node. record { id = id; key = key; filters = filters; node = node }) (id_at (codes "node") ms) (ids (codes "node") ms)
    (λ node there. record { of = is; key = named; node = there }))))

edit_gives : (ms : J.Members) → Of IsGivenEdit (edit_of ms)
edit_gives ms =
    of_true IsGivenEdit (e.has_only (codes "edge_type" ∷ codes "cursor" ∷ e.edit_keys) ms)
    (option_and_then (λ x. option_and_then (λ edge_type. option_map
    (λ cursor. record { id = x.id; key = x.key; filters = x.filters; node = x.node; edge_type = edge_type; cursor = cursor })
    (plain_or_null (get_member (codes "cursor") ms))) (text_at (codes "edge_type") ms)) (edges_of ms))
    (of_and_then IsEdges IsGivenEdit (λ x. option_and_then (λ edge_type. option_map
    (λ cursor. record { id = x.id; key = x.key; filters = x.filters; node = x.node; edge_type = edge_type; cursor = cursor })
    (plain_or_null (get_member (codes "cursor") ms))) (text_at (codes "edge_type") ms)) (edges_of ms) (edges_give ms)
    (λ x is.
    of_and_then (λ _. Unit {0}) IsGivenEdit (λ edge_type. option_map
    (λ cursor. record { id = x.id; key = x.key; filters = x.filters; node = x.node; edge_type = edge_type; cursor = cursor })
    (plain_or_null (get_member (codes "cursor") ms))) (text_at (codes "edge_type") ms) (of_any (text_at (codes "edge_type") ms))
    (λ edge_type _. of_map (λ _. Unit {0}) IsGivenEdit (λ cursor. record { id = x.id; key = x.key; filters = x.filters; node = x.node; edge_type = edge_type; cursor = cursor })
    (plain_or_null (get_member (codes "cursor") ms)) (of_any (plain_or_null (get_member (codes "cursor") ms))) (λ cursor _. record { of = is.of; key = is.key; node = is.node }))))

delete_edge_gives : (ms : J.Members) → Gives (delete_edge_of ms)
delete_edge_gives ms =
    of_true IsGiven (e.has_only e.edit_keys ms)
    (option_map (λ x. C.DeleteEdge (record { id = x.id; key = x.key; filters = x.filters; node = x.node; edge_type = []; cursor = P.Null })) (edges_of ms))
    (of_map IsEdges IsGiven (λ x. C.DeleteEdge (record { id = x.id; key = x.key; filters = x.filters; node = x.node; edge_type = []; cursor = P.Null })) (edges_of ms) (edges_give ms)
    (λ x is. (record { of = is.of; key = is.key; node = is.node }, refl, refl)))

either : {X : Type 0} (P : X → Type 0) (b : Bool) (x y : X) → P x → P y → P (cond b x y)
either P true x y h k = h
either P false x y h k = k

named_gives : (name : Text) (ms : J.Members) → Gives (command_named name ms)
named_gives name ms =
    either Gives (bytes_eq name (codes "set")) _ _ (set_gives ms)
    (either Gives (bytes_eq name (codes "add")) _ _ (add_gives ms)
    (either Gives (bytes_eq name (codes "link")) _ _ (link_gives ms)
    (either Gives (bytes_eq name (codes "links")) _ _ (links_gives ms)
    (either Gives (bytes_eq name (codes "create")) _ _ (create_gives ms)
    (either Gives (bytes_eq name (codes "delete")) _ _ (delete_gives ms)
    (either Gives (bytes_eq name (codes "append_node")) _ _ (of_map IsGivenEdit IsGiven C.AppendNode (edit_of ms) (edit_gives ms) (λ x is. is))
    (either Gives (bytes_eq name (codes "prepend_node")) _ _ (of_map IsGivenEdit IsGiven C.PrependNode (edit_of ms) (edit_gives ms) (λ x is. is))
    (either Gives (bytes_eq name (codes "delete_edge")) (delete_edge_of ms) None (delete_edge_gives ms) tt))))))))

in_gives : (ms : J.Members) → Gives (command_in ms)
in_gives J.no_members = tt
in_gives (J.member name J.null ms) = tt
in_gives (J.member name (J.boolean b) ms) = tt
in_gives (J.member name (J.number n) ms) = tt
in_gives (J.member name (J.string s) ms) = tt
in_gives (J.member name (J.array ds) ms) = tt
in_gives (J.member name (J.object fields) J.no_members) = named_gives name fields
in_gives (J.member name (J.object fields) (J.member k d ms)) = tt

command_gives : (d : J.Data) → Gives (command_of d)
command_gives J.null = tt
command_gives (J.boolean b) = tt
command_gives (J.number n) = tt
command_gives (J.string s) = tt
command_gives (J.array ds) = tt
command_gives (J.object ms) = in_gives ms

all_give : (ds : J.Items) → Of AreGiven (commands_in ds)
all_give J.no_items = tt
all_give (J.item d ds) =
    of_and_then IsGiven AreGiven (λ c. option_map (λ cs. c ∷ cs) (commands_in ds)) (command_of d) (command_gives d)
    (λ c is. of_map AreGiven AreGiven (λ cs. c ∷ cs) (commands_in ds) (all_give ds) (λ cs are. (is, are)))

commands_give : (d : J.Data) → Of AreGiven (commands_of d)
commands_give J.null = tt
commands_give (J.boolean b) = tt
commands_give (J.number n) = tt
commands_give (J.string s) = tt
commands_give (J.array ds) = all_give ds
commands_give (J.object ms) = tt

-- ---- events

-- an event with whatever commands
abbrev IsShape : Shape → Type 0
IsShape s = (cs : List Command) → AreGiven cs → IsGivenEvent (s.with_updates cs)

abbrev Shapes : Option Shape → Type 0
Shapes o = Of IsShape o

short : (key : Text) (ms : J.Members) → Of IsName (name_at key ms)
short key ms = of_passing is_short (text_at key ms)

-- the event of one name
named_shape : (keys : List Text) (ms : J.Members) (key : Text) (f : Text → Event) → ((name : Text) → IsName name → IsGivenEvent (f name))
    → Shapes (where_true (e.has_only keys ms) (option_map (λ name. plainly (f name)) (name_at key ms)))
named_shape keys ms key f h =
    of_true IsShape (e.has_only keys ms) (option_map (λ name. plainly (f name)) (name_at key ms))
    (of_map IsName IsShape (λ name. plainly (f name)) (name_at key ms) (short key ms) (λ name is cs are. h name is))

retain_shape : (ms : J.Members) → Shapes (retain_of ms)
retain_shape ms =
    of_true IsShape (e.has_only (codes "do" ∷ codes "handle" ∷ codes "op" ∷ codes "vars" ∷ []) ms)
    (option_and_then (λ handle. option_and_then (λ op. option_map (λ vars. plainly (e.retain handle op vars)) (object_at (codes "vars") ms)) (text_at (codes "op") ms)) (name_at (codes "handle") ms))
    (of_and_then IsName IsShape (λ handle. option_and_then (λ op. option_map (λ vars. plainly (e.retain handle op vars)) (object_at (codes "vars") ms)) (text_at (codes "op") ms))
    (name_at (codes "handle") ms) (short (codes "handle") ms)
    (λ handle is.
    of_and_then (λ _. Unit {0}) IsShape (λ op. option_map (λ vars. plainly (e.retain handle op vars)) (object_at (codes "vars") ms)) (text_at (codes "op") ms) (of_any (text_at (codes "op") ms))
    (λ op _. of_map (λ _. Unit {0}) IsShape (λ vars. plainly (e.retain handle op vars)) (object_at (codes "vars") ms) (of_any (object_at (codes "vars") ms)) (λ vars _ cs are. is))))

payload_shape : (ms : J.Members) → Shapes (payload_of ms)
payload_shape ms =
    of_true IsShape (e.has_only (codes "do" ∷ codes "handle" ∷ codes "response" ∷ codes "updates" ∷ []) ms)
    (option_map (λ answer. record { with_updates = λ cs. e.payload answer cs; updates = get_member (codes "updates") ms }) (answer_of ms))
    (of_map (λ _. Unit {0}) IsShape (λ answer. record { with_updates = λ cs. e.payload answer cs; updates = get_member (codes "updates") ms }) (answer_of ms) (of_any (answer_of ms)) (λ answer _ cs are. are))

update_shape : (ms : J.Members) → Shapes (update_of ms)
update_shape ms =
    of_true IsShape (e.has_only (codes "do" ∷ codes "updates" ∷ []) ms) (option_map (λ d. record { with_updates = e.update; updates = Some d }) (get_member (codes "updates") ms))
    (of_map (λ _. Unit {0}) IsShape (λ d. record { with_updates = e.update; updates = Some d }) (get_member (codes "updates") ms) (of_any (get_member (codes "updates") ms)) (λ d _ cs are. are))

layered : (build : Text → Option Answer → List Command → Event) → ((layer : Text) (answer : Option Answer) (cs : List Command) → IsName layer → AreGiven cs → IsGivenEvent (build layer answer cs))
    → (ms : J.Members) → Shapes (layer_shape build ms)
layered build h ms =
    of_true IsShape (e.has_only e.layer_keys ms)
    (option_and_then (λ layer. option_map (λ answer. record { with_updates = λ cs. build layer answer cs; updates = get_member (codes "updates") ms }) (optional_answer ms)) (name_at (codes "layer") ms))
    (of_and_then IsName IsShape (λ layer. option_map (λ answer. record { with_updates = λ cs. build layer answer cs; updates = get_member (codes "updates") ms }) (optional_answer ms))
    (name_at (codes "layer") ms) (short (codes "layer") ms)
    (λ layer is.
    of_map (λ _. Unit {0}) IsShape (λ answer. record { with_updates = λ cs. build layer answer cs; updates = get_member (codes "updates") ms }) (optional_answer ms) (of_any (optional_answer ms))
    (λ answer _ cs are. h layer answer cs is are)))

parts_give : (ms : J.Members) → Of IsGivenPart (part_of ms)
parts_give ms =
    either (Of IsGivenPart) (is_some (get_member (codes "fragment") ms) || is_some (get_member (codes "id") ms) || is_some (get_member (codes "args") ms))
    (option_and_then (λ fragment. option_and_then (λ id. option_map (λ xs. Some (record { fragment = fragment; id = id; args = xs }))
    (object_at (codes "args") ms)) (id_at (codes "id") ms)) (text_at (codes "fragment") ms))
    (Some None)
    (of_and_then (λ _. Unit {0}) IsGivenPart (λ fragment. option_and_then (λ id. option_map (λ xs. Some (record { fragment = fragment; id = id; args = xs }))
    (object_at (codes "args") ms)) (id_at (codes "id") ms)) (text_at (codes "fragment") ms) (of_any (text_at (codes "fragment") ms))
    (λ fragment _.
    of_and_then IsId IsGivenPart (λ id. option_map (λ xs. Some (record { fragment = fragment; id = id; args = xs })) (object_at (codes "args") ms)) (id_at (codes "id") ms) (ids (codes "id") ms)
    (λ id is. of_map (λ _. Unit {0}) IsGivenPart (λ xs. Some (record { fragment = fragment; id = id; args = xs })) (object_at (codes "args") ms) (of_any (object_at (codes "args") ms)) (λ xs _. is))))
    tt

targets_give : (ms : J.Members) → Of IsGivenTarget (target_of ms)
targets_give ms =
    of_and_then IsName IsGivenTarget (λ handle. option_map (λ part. record { handle = handle; part = part }) (part_of ms)) (name_at (codes "handle") ms) (short (codes "handle") ms)
    (λ handle is. of_map IsGivenPart IsGivenTarget (λ part. record { handle = handle; part = part }) (part_of ms) (parts_give ms) (λ part given. (is, given)))

read_shape : (ms : J.Members) → Shapes (read_of ms)
read_shape ms =
    of_true IsShape (e.has_only e.target_keys ms) (option_map (λ target. plainly (e.read target)) (target_of ms))
    (of_map IsGivenTarget IsShape (λ target. plainly (e.read target)) (target_of ms) (targets_give ms) (λ target is cs are. is))

watch_shape : (ms : J.Members) → Shapes (watch_of ms)
watch_shape ms =
    of_true IsShape (e.has_only (codes "watch" ∷ e.target_keys) ms)
    (option_and_then (λ name. option_map (λ target. plainly (e.watch name target)) (target_of ms)) (name_at (codes "watch") ms))
    (of_and_then IsName IsShape (λ name. option_map (λ target. plainly (e.watch name target)) (target_of ms)) (name_at (codes "watch") ms) (short (codes "watch") ms)
    (λ name is. of_map IsGivenTarget IsShape (λ target. plainly (e.watch name target)) (target_of ms) (targets_give ms) (λ target given cs are. (is, given))))

collect_shape : (ms : J.Members) → Shapes (collect_of ms)
collect_shape ms = of_true IsShape (e.has_only (codes "do" ∷ []) ms) (Some (plainly e.collect)) (λ cs are. tt)

shape_gives : (name : Text) (ms : J.Members) → Shapes (shape_named name ms)
shape_gives name ms =
    either Shapes (bytes_eq name (codes "retain")) _ _ (retain_shape ms)
    (either Shapes (bytes_eq name (codes "release")) _ _ (named_shape (codes "do" ∷ codes "handle" ∷ []) ms (codes "handle") e.release (λ name is. is))
    (either Shapes (bytes_eq name (codes "payload")) _ _ (payload_shape ms)
    (either Shapes (bytes_eq name (codes "update")) _ _ (update_shape ms)
    (either Shapes (bytes_eq name (codes "begin")) _ _ (layered e.begin (λ layer answer cs is are. (is, are)) ms)
    (either Shapes (bytes_eq name (codes "finish")) _ _ (layered e.finish (λ layer answer cs is are. (is, are)) ms)
    (either Shapes (bytes_eq name (codes "revert")) _ _ (named_shape (codes "do" ∷ codes "layer" ∷ []) ms (codes "layer") e.revert (λ name is. is))
    (either Shapes (bytes_eq name (codes "read")) _ _ (read_shape ms)
    (either Shapes (bytes_eq name (codes "watch")) _ _ (watch_shape ms)
    (either Shapes (bytes_eq name (codes "unwatch")) _ _ (named_shape (codes "do" ∷ codes "watch" ∷ []) ms (codes "watch") e.unwatch (λ name is. is))
    (either Shapes (bytes_eq name (codes "collect")) (collect_of ms) None (collect_shape ms) tt))))))))))

shapes : (d : J.Data) → Shapes (shape_of d)
shapes J.null = tt
shapes (J.boolean b) = tt
shapes (J.number n) = tt
shapes (J.string s) = tt
shapes (J.array ds) = tt
shapes (J.object ms) = at (text_at (codes "do") ms)
  where
    at : (o : Option Text) → Shapes (option_and_then (λ name. shape_named name ms) o)
    at None = tt
    at (Some name) = shape_gives name ms

-- ---- lines

shape_line : (o : Option Shape) → Shapes o → IsGivenLine (of_shape o)
shape_line None h = tt
shape_line (Some s) h = given s.updates
  where
    with_all : (o : Option (List Command)) → Of AreGiven o → IsGivenLine (with_commands s.with_updates o)
    with_all None are = tt
    with_all (Some cs) are = h cs are

    given : (o : Option J.Data) → IsGivenLine (with_given s.with_updates o)
    given None = h [] tt
    given (Some d) = with_all (commands_of d) (commands_give d)

value_line : (o : Option J.Data) → IsGivenLine (of_value o)
value_line None = tt
value_line (Some d) = shape_line (shape_of d) (shapes d)

text_line : (b : Bool) (bytes : Text) → IsGivenLine (of_text b bytes)
text_line false bytes = tt
text_line true bytes = value_line (read_text bytes)

pub lines_given : LinesAreGiven
lines_given bytes = either IsGivenLine (nat_le (length bytes) max_line) (of_text (is_utf8 bytes) bytes) e.too_long (text_line (is_utf8 bytes) bytes) tt
