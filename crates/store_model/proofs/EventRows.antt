-- Worked rows of events, computed from the definitions.
use Rattle.std.proofs.Common.{◌≡◌, refl, [], ◌∷◌, Some, None, codes}
use Rattle.std.specs.Prelude.{pos}
use Rattle.serde_json.specs.Data as J
use Rattle.store_record.specs.Keys.{Text}
use Rattle.store_model.specs.Events.{Line, not_json, no_event, no_commands, event, retain, begin, update, collect, of_value}
use Rattle.store_model.specs.declared.command.Command.TheVariants as C

abbrev pair : Text → Text → J.Members → J.Members
pair k s ms = J.member k (J.string s) ms

abbrev line : J.Members → Line
line ms = of_value (Some (J.object ms))

abbrev command : Text → J.Members → J.Data
command name ms = J.array (J.item (J.object (J.member name (J.object ms) J.no_members)) J.no_items)

abbrev with_updates : J.Data → Line
with_updates updates = line (pair (codes "do") (codes "update") (J.member (codes "updates") updates J.no_members))

pub an_unknown_event_is_none : line (pair (codes "do") (codes "fly") J.no_members) ≡ no_event
an_unknown_event_is_none = refl

pub a_further_key_is_refused : line (pair (codes "do") (codes "collect") (pair (codes "n") (codes "1") J.no_members)) ≡ no_event
a_further_key_is_refused = refl

pub a_sweep_has_no_other_key : line (pair (codes "do") (codes "collect") J.no_members) ≡ event collect
a_sweep_has_no_other_key = refl

pub an_update_wants_its_commands : line (pair (codes "do") (codes "update") J.no_members) ≡ no_event
an_update_wants_its_commands = refl

pub an_unknown_command_is_none : with_updates (command (codes "fly") J.no_members) ≡ no_commands
an_unknown_command_is_none = refl

pub updates_are_a_list : with_updates J.null ≡ no_commands
updates_are_a_list = refl

pub the_root_is_not_created : with_updates (command (codes "create") (pair (codes "id") (codes "client:root") (pair (codes "type") (codes "User") J.no_members))) ≡ no_commands
the_root_is_not_created = refl

pub a_record_is_created : with_updates (command (codes "create") (pair (codes "id") (codes "t1") (pair (codes "type") (codes "User") J.no_members)))
    ≡ event (update (C.Create (codes "t1") (codes "User") ∷ []))
a_record_is_created = refl

abbrev add_by : J.Data → J.Data
add_by by = command (codes "add") (J.member (codes "by") by (pair (codes "field") (codes "age") (pair (codes "id") (codes "4") J.no_members)))

pub a_whole_number_is_added : with_updates (add_by (J.number (J.unsigned 1))) ≡ event (update (C.Add (codes "4") (codes "age") [] (pos 1) ∷ []))
a_whole_number_is_added = refl

pub a_text_is_not_added : with_updates (add_by (J.string (codes "1"))) ≡ no_commands
a_text_is_not_added = refl

pub a_reserved_field_is_not_set : with_updates (command (codes "set") (pair (codes "field") (codes "__typename") (pair (codes "id") (codes "4") (pair (codes "value") (codes "x") J.no_members)))) ≡ no_commands
a_reserved_field_is_not_set = refl

pub a_layer_may_have_neither_handle_nor_response : line (pair (codes "do") (codes "begin") (pair (codes "layer") (codes "a") J.no_members)) ≡ event (begin (codes "a") None [])
a_layer_may_have_neither_handle_nor_response = refl

pub a_handle_without_a_response_is_none : line (pair (codes "do") (codes "begin") (pair (codes "handle") (codes "h") (pair (codes "layer") (codes "a") J.no_members))) ≡ no_event
a_handle_without_a_response_is_none = refl

pub an_id_without_a_fragment_is_none : line (pair (codes "do") (codes "read") (pair (codes "handle") (codes "h") (pair (codes "id") (codes "4") J.no_members))) ≡ no_event
an_id_without_a_fragment_is_none = refl

pub variables_are_an_object : line (pair (codes "do") (codes "retain") (pair (codes "handle") (codes "h") (pair (codes "op") (codes "Q") (J.member (codes "vars") J.null J.no_members)))) ≡ no_event
variables_are_an_object = refl

pub variables_may_be_left_out : line (pair (codes "do") (codes "retain") (pair (codes "handle") (codes "h") (pair (codes "op") (codes "Q") J.no_members))) ≡ event (retain (codes "h") (codes "Q") [])
variables_may_be_left_out = refl

pub an_empty_handle_is_none : line (pair (codes "do") (codes "release") (pair (codes "handle") [] J.no_members)) ≡ no_event
an_empty_handle_is_none = refl

pub other_values_are_no_event : of_value (Some J.null) ≡ no_event
other_values_are_no_event = refl

pub no_value_is_no_json : of_value None ≡ not_json
no_value_is_no_json = refl
