-- Worked rows, computed from the definitions: lines that scripts give on the schema of a small product.
use Rattle.std.proofs.Common.{◌≡◌, refl, ℕ, List, [], ◌∷◌, Option, Some, None, codes, true}
use Rattle.std.specs.FinMap.{gets}
use Rattle.std.specs.Fmt.{digits}
use Rattle.std.specs.Prelude.{cond, bytes_eq}
use Rattle.plan_ir.specs.gql_ast.Sels as sels
use Rattle.plan_ir.specs.gql_ast.Sels.{Sels}
use Rattle.plan_ir.specs.gql_ast.Ty as ty
use Rattle.plan_ir.specs.gql_ast.Value as v
use Rattle.plan_ir.specs.gql_ast.declared.directive.Directive.{Directive}
use Rattle.plan_ir.specs.gql_ast.declared.document.Definition.{Definition}
use Rattle.plan_ir.specs.gql_ast.declared.document.Definition.TheVariants as D
use Rattle.plan_ir.specs.gql_ast.declared.document.Kind.TheVariants as K
use Rattle.plan_ir.specs.gql_ast.declared.member.FieldTree.{FieldTree}
use Rattle.plan_ir.specs.gql_ast.declared.member.InputTree.{InputTree}
use Rattle.plan_ir.specs.gql_ast.declared.schema.SchemaDef.TheVariants as S
use Rattle.plan_ir.specs.gql_ast.declared.type_tree.TypeTree.{TypeTree}
use Rattle.plan_ir.specs.gql_ast.declared.type_tree.TypeTree.TheVariants as T
use Rattle.plan_ir.specs.gql_ast.declared.variable.VariableDef.{VariableDef}
use Rattle.plan_ir.specs.gql_lex.Heads.{head}
use Rattle.plan_ir.specs.gql_lex.Sources.{read as read_text}
use Rattle.plan_ir.specs.gql_plain.Tree as t
use Rattle.plan_ir.specs.Expansion.{operation_named}
use Rattle.plan_ir.specs.gql_plain.declared.plain.Plain.TheVariants.{Text as Words}
use Rattle.relay_machine.specs.Machine.{Handle, Project, State, Step, Watch, accept, beginning, confirmed, definitions_in, documents_of, refuse, slots_of, step_event, step_line, view}
use Rattle.relay_machine.specs.Printed.{collect_line, notice_line, read_line}
use Rattle.relay_machine.specs.Refusals.{handles, layers, watches, too_many}
use Rattle.relay_model.specs.Readings.{operation_reads}
use Rattle.plan_ir.specs.schema_tables.Types.{Text, Defs}
use Rattle.plan_ir.specs.schema_types.NameRules.{operations}
use Rattle.plan_ir.specs.schema_types.Sites.{OperationAt}
use Rattle.serde_json.proofs.OnLiterals.{serde_json_on_literals}
use Rattle.serde_json.specs.Data as J
use Rattle.plan_ir.specs.store_model.Events.{Event, retain, release, payload, update, begin, finish, revert, read, watch, unwatch, collect, too_long, not_json, no_event, no_commands}
use Rattle.plan_ir.specs.store_model.declared.command.Command.TheVariants as C
use Rattle.plan_ir.specs.store_model.declared.entry.Entry.{Entry}
use Rattle.plan_ir.specs.store_model.declared.facts.Fact.{Fact}
use Rattle.plan_ir.specs.store_record.declared.field.Field.{Field}
use Rattle.plan_ir.specs.store_record.declared.field.Field.TheVariants.{Leaf, Link}
use Rattle.plan_ir.specs.store_record.declared.record.Slot.{Slot}
use Rattle.plan_ir.specs.store_record.declared.record.Slot.TheVariants.{Alive}
use Rattle.plan_ir.specs.store_model.Walks.{Reading, Slots, reading}

-- ---- the schema: `type Query{me:User node(id:ID!):User} type User{id:ID! name:String age:Int friend:User}`

abbrev with : Text → List InputTree → TypeTree → FieldTree
with n is of = record { name = n; arguments = is; of = of; directives = [] }

abbrev plain : Text → Text → FieldTree
plain n of = with n [] (T.Named of)

abbrev wanted_id : TypeTree
wanted_id = T.NonNull (ty.named (codes "ID"))

abbrev defs : Defs
defs =
    S.Object (codes "Query") [] []
    (plain (codes "me") (codes "User")
    ∷ with (codes "node") (record { name = codes "id"; of = wanted_id; default = None; directives = [] } ∷ []) (T.Named (codes "User")) ∷ [])
    ∷ S.Object (codes "User") [] []
    (with (codes "id") [] wanted_id ∷ plain (codes "name") (codes "String") ∷ plain (codes "age") (codes "Int") ∷ plain (codes "friend") (codes "User") ∷ [])
    ∷ []

-- ---- the documents: `query Q{me{name}} query C{me{name friend{name}}} query N{me{age}} query F{me{...P}}
-- query O($id:ID!){node(id:$id){id}} fragment P on User@argumentDefinitions(n:{type:"Int!"}){name}`

-- a field without alias, arguments and directives
abbrev field : Text → (subs rest : Sels) → Sels
field n s rest = sels.field None n [] [] s rest

abbrev query : Text → List VariableDef → Sels → Definition
query n vs s = D.Operation (record { kind = K.Query; name = Some n; variables = vs; directives = []; selections = s })

abbrev me : Sels → Sels
me s = field (codes "me") s sels.end

abbrev takes_n : Directive
takes_n = record { name = codes "argumentDefinitions"; arguments = (codes "n", v.object (v.member (codes "type") (v.text (codes "Int!")) v.no_members)) ∷ [] }

abbrev project : Project
project = record {
  defs = defs;
  documents = record {
    tree = record {
      definitions =
          query (codes "Q") [] (me (field (codes "name") sels.end sels.end))
          ∷ query (codes "C") [] (me (field (codes "name") sels.end (field (codes "friend") (field (codes "name") sels.end sels.end) sels.end)))
          ∷ query (codes "N") [] (me (field (codes "age") sels.end sels.end))
          ∷ query (codes "F") [] (me (sels.spread (codes "P") [] sels.end))
          ∷ query (codes "O") (record { name = codes "id"; of = wanted_id; default = None; directives = [] } ∷ [])
          (sels.field None (codes "node") ((codes "id", v.variable (codes "id")) ∷ []) [] (field (codes "id") sels.end sels.end) sels.end)
          ∷ D.Fragment (record { name = codes "P"; on = codes "User"; directives = takes_n ∷ []; selections = field (codes "name") sels.end sels.end })
          ∷ [];
    };
    places = [];
  } ∷ [];
}

-- ---- responses

abbrev data_of : J.Data → J.Data
data_of d = J.object (J.member (codes "data") d J.no_members)

abbrev text : Text → Text → J.Members → J.Members
text k s ms = J.member k (J.string s) ms

abbrev object_in : Text → J.Members → J.Members → J.Members
object_in k inside ms = J.member k (J.object inside) ms

abbrev paid : J.Members → Event
paid ms = payload (record { handle = codes "h"; response = data_of (J.object ms) }) []

abbrev ann : J.Members
ann = object_in (codes "me") (text (codes "id") (codes "4") (text (codes "name") (codes "Ann") J.no_members)) J.no_members

-- ---- states

-- the state after events, from the first line on
abbrev after : State → ℕ → List Event → State
after s n [] = s
after s n (e ∷ es) = after (step_event project 10 s n e).state n es

abbrev retained : Text → Event
retained op = retain (codes "h") op []

-- what the last event writes
abbrev writes : List Event → ℕ → Event → Step
writes es n e = step_event project 10 (after beginning 1 es) n e

abbrev read_h : Event
read_h = read (record { handle = codes "h"; part = None })

-- ---- an operation is retained, paid and read

pub an_operation_is_retained : (writes [] 1 (retained (codes "Q"))).text ≡ codes "{\"n\":1,\"ok\":\"retain\"}\n"
unfolding serde_json_on_literals digits read_text head
an_operation_is_retained = refl

pub a_payload_is_confirmed : (writes (retained (codes "Q") ∷ []) 2 (paid ann)).text ≡ codes "{\"n\":2,\"ok\":\"payload\"}\n"
unfolding serde_json_on_literals digits read_text head
a_payload_is_confirmed = refl

-- what is confirmed, and the slots of its two records

abbrev fact : Text → Text → Field → Fact
fact id key value = record { id = id; key = key; value = value }

abbrev ann_entry : Entry
ann_entry = record {
  facts = record {
    facts =
        fact (codes "4") (codes "__typename") (Leaf (Words (codes "User"))) ∷ fact (codes "4") (codes "id") (Leaf (Words (codes "4")))
        ∷ fact (codes "4") (codes "name") (Leaf (Words (codes "Ann"))) ∷ fact (codes "client:root") (codes "__typename") (Leaf (Words (codes "__Root")))
        ∷ fact (codes "client:root") (codes "me") (Link (codes "4")) ∷ [];
    handles = [];
  };
  commands = [];
}

pub a_payload_is_an_entry : (after beginning 1 (retained (codes "Q") ∷ paid ann ∷ [])).entries ≡ confirmed ann_entry ∷ []
unfolding serde_json_on_literals digits read_text head
a_payload_is_an_entry = refl

abbrev ann_state : State
ann_state = record { entries = confirmed ann_entry ∷ []; layers = []; handles = []; released = []; watches = [] }

abbrev root_row : Slot
root_row = Alive (record { type_name = codes "__Root"; fields = (codes "me", Link (codes "4")) ∷ [] })

abbrev ann_row : Slot
ann_row = Alive (record { type_name = codes "User"; fields = (codes "id", Leaf (Words (codes "4"))) ∷ (codes "name", Leaf (Words (codes "Ann"))) ∷ [] })

pub a_root_is_seen : slots_of (view project ann_state) (codes "client:root") ≡ Some root_row
a_root_is_seen = simp (gets) refl

pub a_user_is_seen : slots_of (view project ann_state) (codes "4") ≡ Some ann_row
a_user_is_seen = simp (gets) refl

-- what is read of them

abbrev paid_slots : Slots
paid_slots id = cond (bytes_eq id (codes "client:root")) (Some root_row) (cond (bytes_eq id (codes "4")) (Some ann_row) None)

abbrev no_slots : Slots
no_slots id = None

-- the line of what the operation of a name shows
abbrev line_of_read : (Reading → Text) → Slots → Option OperationAt → Text
line_of_read line m None = []
line_of_read line m (Some o) = line (reading (operation_reads (documents_of project) o [] (codes "h") m (codes "client:root")))

abbrev shows : (Reading → Text) → Text → Slots → Text
shows line name m = line_of_read line m (operation_named (operations (definitions_in project)) name)

abbrev reads : Text → Slots → ℕ → Text
reads name m n = shows (read_line n) name m

pub an_operation_is_read : reads (codes "Q") paid_slots 3
    ≡ codes "{\"data\":{\"me\":{\"name\":\"Ann\"}},\"missing\":false,\"n\":3,\"ok\":\"read\",\"seen\":[\"4\",\"client:root\"]}\n"
unfolding serde_json_on_literals digits read_text head
an_operation_is_read = refl

pub nothing_is_read_of_no_records : reads (codes "Q") no_slots 2
    ≡ codes "{\"data\":null,\"missing\":true,\"n\":2,\"ok\":\"read\",\"seen\":[\"client:root\"]}\n"
unfolding serde_json_on_literals digits read_text head
nothing_is_read_of_no_records = refl

pub a_spread_is_read_as_a_pointer : reads (codes "F") paid_slots 3
    ≡ codes "{\"data\":{\"me\":{\"__fragments\":{\"P\":{\"n\":null}},\"__id\":\"4\",\"__owner\":\"h\"}},\"missing\":false,\"n\":3,\"ok\":\"read\",\"seen\":[\"4\",\"client:root\"]}\n"
unfolding serde_json_on_literals digits read_text head
a_spread_is_read_as_a_pointer = refl

-- ---- payloads that are refused, and change nothing

abbrev refused_with : List ℕ → State → Step
refused_with line s = record { text = line; refused = true; state = s }

abbrev of_h : Text → State
of_h op = after beginning 1 (retained op ∷ [])

pub two_names_conflict : step_event project 10 (of_h (codes "C")) 2
    (paid (object_in (codes "me") (text (codes "id") (codes "4") (text (codes "name") (codes "Ann")
    (object_in (codes "friend") (text (codes "id") (codes "4") (text (codes "name") (codes "Eve") J.no_members)) J.no_members))) J.no_members))
    ≡ refused_with (codes "{\"cause\":\"Conflict\",\"code\":16,\"error\":\"Payload\",\"first\":\"Eve\",\"id\":\"4\",\"key\":\"name\",\"n\":2,\"path\":[\"me\",\"name\"],\"second\":\"Ann\"}\n") (of_h (codes "C"))
unfolding serde_json_on_literals digits read_text head
two_names_conflict = refl

-- a number above 64 bits with its sign
abbrev great_age : J.Members
great_age = object_in (codes "me") (text (codes "id") (codes "4") (J.member (codes "age") (J.number (J.unsigned 9223372036854775808)) J.no_members)) J.no_members

pub a_number_is_not_whole : step_event project 10 (of_h (codes "N")) 2 (paid great_age)
    ≡ refused_with (codes "{\"cause\":\"NotWhole\",\"code\":16,\"error\":\"Payload\",\"n\":2,\"path\":[\"me\",\"age\"]}\n") (of_h (codes "N"))
unfolding serde_json_on_literals digits read_text head
a_number_is_not_whole = refl

-- what is not selected is not looked at
pub another_number_is_not_looked_at : (step_event project 10 (of_h (codes "N")) 2 (payload (record {
  handle = codes "h";
  response = J.object (J.member (codes "data") (J.object (object_in (codes "me") (text (codes "id") (codes "4") J.no_members) J.no_members)) (object_in (codes "extensions") great_age J.no_members));
}) [])).text ≡ codes "{\"n\":2,\"ok\":\"payload\"}\n"
unfolding serde_json_on_literals digits read_text head
another_number_is_not_looked_at = refl

abbrev with_id : Text → J.Members
with_id i = object_in (codes "me") (text (codes "id") i J.no_members) J.no_members

pub an_id_is_reserved : step_event project 10 (of_h (codes "Q")) 2 (paid (with_id (codes "client:root")))
    ≡ refused_with (codes "{\"cause\":\"ReservedId\",\"code\":16,\"error\":\"Payload\",\"n\":2,\"path\":[\"me\",\"id\"]}\n") (of_h (codes "Q"))
unfolding serde_json_on_literals digits read_text head
an_id_is_reserved = refl

pub an_id_is_empty : step_event project 10 (of_h (codes "Q")) 2 (paid (with_id []))
    ≡ refused_with (codes "{\"cause\":\"IdShape\",\"code\":16,\"error\":\"Payload\",\"n\":2,\"path\":[\"me\",\"id\"]}\n") (of_h (codes "Q"))
unfolding serde_json_on_literals digits read_text head
an_id_is_empty = refl

pub a_list_is_no_object : step_event project 10 (of_h (codes "Q")) 2 (paid (J.member (codes "me") (J.array J.no_items) J.no_members))
    ≡ refused_with (codes "{\"cause\":\"Shape\",\"code\":16,\"error\":\"Payload\",\"n\":2,\"path\":[\"me\"]}\n") (of_h (codes "Q"))
unfolding serde_json_on_literals digits read_text head
a_list_is_no_object = refl

pub data_is_null : step_event project 10 (of_h (codes "Q")) 2 (payload (record { handle = codes "h"; response = data_of J.null }) [])
    ≡ refused_with (codes "{\"cause\":\"NoData\",\"code\":16,\"error\":\"Payload\",\"n\":2,\"path\":[]}\n") (of_h (codes "Q"))
unfolding serde_json_on_literals digits read_text head
data_is_null = refl

-- ---- each other refusal

abbrev refuses : State → ℕ → Event → List ℕ → Type 0
refuses s n e line = step_event project 10 s n e ≡ refused_with line s

pub no_json : step_line project 10 beginning 1 not_json ≡ refused_with (codes "{\"code\":1,\"error\":\"NotJson\",\"n\":1}\n") beginning
unfolding serde_json_on_literals digits
no_json = refl

pub no_event_is_it : step_line project 10 beginning 1 no_event ≡ refused_with (codes "{\"code\":2,\"error\":\"EventShape\",\"n\":1}\n") beginning
unfolding serde_json_on_literals digits
no_event_is_it = refl

pub its_updates_are_none : step_line project 10 beginning 1 no_commands ≡ refused_with (codes "{\"code\":3,\"error\":\"UpdateShape\",\"n\":1}\n") beginning
unfolding serde_json_on_literals digits
its_updates_are_none = refl

pub a_line_is_too_long : step_line project 10 beginning 3 too_long ≡ refused_with (codes "{\"code\":4,\"error\":\"LineTooLong\",\"n\":3}\n") beginning
unfolding serde_json_on_literals digits
a_line_is_too_long = refl

pub an_operation_is_unknown : refuses beginning 3 (retained (codes "X")) (codes "{\"code\":5,\"error\":\"UnknownOperation\",\"n\":3,\"name\":\"X\"}\n")
unfolding serde_json_on_literals digits
an_operation_is_unknown = refl

abbrev read_part_of : Text → Text → List (Text × t.Tree) → Event
read_part_of handle name args = read (record { handle = handle; part = Some (record { fragment = name; id = codes "4"; args = args }) })

pub a_fragment_is_unknown : refuses (of_h (codes "F")) 2 (read_part_of (codes "h") (codes "R") []) (codes "{\"code\":6,\"error\":\"UnknownFragment\",\"n\":2,\"name\":\"R\"}\n")
unfolding serde_json_on_literals digits
a_fragment_is_unknown = refl

pub a_handle_is_unknown : refuses beginning 2 (read (record { handle = codes "z"; part = None })) (codes "{\"code\":7,\"error\":\"UnknownHandle\",\"n\":2,\"name\":\"z\"}\n")
unfolding serde_json_on_literals digits
a_handle_is_unknown = refl

-- a handle that is taken comes before an operation that is unknown
pub a_handle_is_taken : refuses (of_h (codes "Q")) 2 (retained (codes "X")) (codes "{\"code\":8,\"error\":\"HandleTaken\",\"n\":2,\"name\":\"h\"}\n")
unfolding serde_json_on_literals digits
a_handle_is_taken = refl

pub a_layer_is_unknown : refuses beginning 1 (finish (codes "z") None []) (codes "{\"code\":10,\"error\":\"UnknownLayer\",\"n\":1,\"name\":\"z\"}\n")
unfolding serde_json_on_literals digits
a_layer_is_unknown = refl

abbrev begun : State
begun = after beginning 1 (begin (codes "a") None (C.Delete (codes "4") ∷ []) ∷ [])

pub a_layer_is_taken : refuses begun 2 (begin (codes "a") None []) (codes "{\"code\":11,\"error\":\"LayerTaken\",\"n\":2,\"name\":\"a\"}\n")
unfolding serde_json_on_literals digits
a_layer_is_taken = refl

pub a_layer_is_reverted : step_event project 10 begun 2 (revert (codes "a")) ≡ accept (codes "{\"n\":2,\"ok\":\"revert\"}\n") beginning
unfolding serde_json_on_literals digits
a_layer_is_reverted = refl

pub a_layer_is_finished : step_event project 10 begun 2 (finish (codes "a") None (C.Delete (codes "5") ∷ []))
    ≡ accept (codes "{\"n\":2,\"ok\":\"finish\"}\n") (record {
      entries = confirmed (record { facts = record { facts = []; handles = [] }; commands = C.Delete (codes "5") ∷ [] }) ∷ [];
      layers = [];
      handles = [];
      released = [];
      watches = [];
    })
unfolding serde_json_on_literals digits
a_layer_is_finished = refl

-- the first name of a command that is no object type
pub a_type_is_unknown : refuses beginning 1 (update (C.Create (codes "t1") (codes "User") ∷ C.Create (codes "t2") (codes "Node") ∷ C.Create (codes "t3") (codes "Uzer") ∷ []))
    (codes "{\"code\":14,\"error\":\"UnknownType\",\"n\":1,\"name\":\"Node\"}\n")
unfolding serde_json_on_literals digits
a_type_is_unknown = refl

pub a_variable_is_missing : refuses beginning 5 (retained (codes "O")) (codes "{\"cause\":\"Missing\",\"code\":15,\"error\":\"Variables\",\"n\":5,\"variable\":\"id\"}\n")
unfolding serde_json_on_literals digits
a_variable_is_missing = refl

pub a_variable_does_not_fit : refuses beginning 5 (retain (codes "h") (codes "O") ((codes "id", t.truth true) ∷ [])) (codes "{\"cause\":\"Unfit\",\"code\":15,\"error\":\"Variables\",\"n\":5,\"variable\":\"id\"}\n")
unfolding serde_json_on_literals digits
a_variable_does_not_fit = refl

pub a_local_variable_is_missing : refuses (of_h (codes "F")) 2 (read_part_of (codes "h") (codes "P") []) (codes "{\"cause\":\"Missing\",\"code\":15,\"error\":\"Variables\",\"n\":2,\"variable\":\"n\"}\n")
unfolding serde_json_on_literals digits read_text head
a_local_variable_is_missing = refl

pub a_local_variable_does_not_fit : refuses (of_h (codes "F")) 2 (read_part_of (codes "h") (codes "P") ((codes "n", t.null) ∷ [])) (codes "{\"cause\":\"Unfit\",\"code\":15,\"error\":\"Variables\",\"n\":2,\"variable\":\"n\"}\n")
unfolding serde_json_on_literals digits read_text head
a_local_variable_does_not_fit = refl

-- ---- releases, sweeps and watches

pub an_operation_is_released : (step_event project 10 (of_h (codes "Q")) 2 (release (codes "h"))).text ≡ codes "{\"n\":2,\"ok\":\"release\"}\n"
unfolding serde_json_on_literals digits read_text head
an_operation_is_released = refl

pub its_handle_is_gone : (step_event project 10 (of_h (codes "Q")) 2 (release (codes "h"))).state.handles ≡ []
unfolding serde_json_on_literals digits read_text head
its_handle_is_gone = refl

pub a_handle_to_release_is_unknown : refuses beginning 2 (release (codes "z")) (codes "{\"code\":7,\"error\":\"UnknownHandle\",\"n\":2,\"name\":\"z\"}\n")
unfolding serde_json_on_literals digits
a_handle_to_release_is_unknown = refl

pub a_sweep_does_not_wait : collect_line 2 3 ≡ codes "{\"dropped\":3,\"n\":2,\"ok\":\"collect\",\"waiting\":false}\n"
unfolding serde_json_on_literals digits
a_sweep_does_not_wait = refl

pub layers_stay_live : (step_event project 10 begun 2 collect).state.layers ≡ begun.layers
layers_stay_live = refl

-- a watch of each handle's operation, which showed nothing
abbrev watches_on : List Handle → List Watch
watches_on [] = []
watches_on (h ∷ hs) = record { name = codes "w"; handle = h; part = None; value = t.null; missing = true } ∷ watches_on hs

abbrev watched : State
watched =
    record { entries = []; layers = []; handles = (of_h (codes "Q")).handles; released = []; watches = watches_on (of_h (codes "Q")).handles }

abbrev target_h : Event
target_h = watch (codes "w") (record { handle = codes "h"; part = None })

pub a_handle_is_in_use : refuses watched 3 (release (codes "h")) (codes "{\"code\":9,\"error\":\"HandleInUse\",\"n\":3,\"name\":\"h\"}\n")
unfolding serde_json_on_literals digits
a_handle_is_in_use = refl

pub a_watch_is_unknown : refuses beginning 3 (unwatch (codes "w")) (codes "{\"code\":12,\"error\":\"UnknownWatch\",\"n\":3,\"name\":\"w\"}\n")
unfolding serde_json_on_literals digits
a_watch_is_unknown = refl

pub a_watch_is_taken : refuses watched 3 target_h (codes "{\"code\":13,\"error\":\"WatchTaken\",\"n\":3,\"name\":\"w\"}\n")
unfolding serde_json_on_literals digits
a_watch_is_taken = refl

pub a_watch_ends : (step_event project 10 watched 3 (unwatch (codes "w"))).text ≡ codes "{\"n\":3,\"ok\":\"unwatch\"}\n"
unfolding serde_json_on_literals digits
a_watch_ends = refl

pub a_change_is_told : shows (notice_line 5 (codes "w")) (codes "Q") paid_slots
    ≡ codes "{\"data\":{\"me\":{\"name\":\"Ann\"}},\"missing\":false,\"n\":5,\"notice\":\"w\",\"seen\":[\"4\",\"client:root\"]}\n"
unfolding serde_json_on_literals digits read_text head
a_change_is_told = refl

-- ---- as many as may be live

pub there_are_too_many_handles : (refuse beginning 4 (too_many handles)).text ≡ codes "{\"code\":17,\"error\":\"TooMany\",\"kind\":\"handles\",\"limit\":10000,\"n\":4}\n"
unfolding serde_json_on_literals digits
there_are_too_many_handles = refl

pub there_are_too_many_layers : (refuse beginning 1001 (too_many layers)).text ≡ codes "{\"code\":17,\"error\":\"TooMany\",\"kind\":\"layers\",\"limit\":1000,\"n\":1001}\n"
unfolding serde_json_on_literals digits
there_are_too_many_layers = refl

pub there_are_too_many_watches : (refuse beginning 7 (too_many watches)).text ≡ codes "{\"code\":17,\"error\":\"TooMany\",\"kind\":\"watches\",\"limit\":10000,\"n\":7}\n"
unfolding serde_json_on_literals digits
there_are_too_many_watches = refl
