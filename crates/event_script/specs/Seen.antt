-- What the code reads, as the store's meaning has it.
use Rattle.std.specs.Prelude.{◌≡◌, List, [], Option, Some, None, option_map, option_and_then, codes, Result, Ok, Err}
use Rattle.serde_json.specs.Data as J
use Rattle.store_model.specs.store_record.Keys.{Text}
use Rattle.store_model.specs.Events as events
use Rattle.store_model.specs.declared.command.Command.{Command}
use Rattle.serde_json.specs.Find.{get_member}
use Rattle.serde_json.specs.View.{view}
use Rattle.store_model.specs.declared.event.Answer.{Answer}
use Rattle.store_model.specs.declared.event.Event.{Event}
use Rattle.store_model.specs.declared.event.Event.TheVariants as E
use Rattle.store_model.specs.declared.event.Part.{Part}
use Rattle.store_model.specs.declared.event.Target.{Target}
use Rattle.event_script.specs.declared.fault.LineFault.{LineFault}
use Rattle.event_script.specs.declared.fault.LineFault.TheVariants.{NotJson, EventShape, UpdateShape, LineTooLong, NoMemory}
use Rattle.event_script.specs.declared.text.TextFault.{TextFault}
use Rattle.event_script.specs.declared.text.TextFault.TheVariants as T
use Rattle.serde_json.specs.declared.value.Value.{Value}
use Rattle.event_script.specs.declared.commands.Place.{Place}
use Rattle.event_script.specs.declared.commands.Edges.{Edges}

abbrev pub place_seen : Place → events.Place
place_seen p = record { id = p.id; field = p.field; args = p.args }

abbrev pub edges_seen : Edges → events.Edges
edges_seen e = record { id = e.id; key = e.key; filters = e.filters; node = e.node }

-- the member of an object that has no other
abbrev pub only_member : J.Members → Option (Text × J.Data)
only_member J.no_members = None
only_member (J.member k d J.no_members) = Some (k, d)
only_member (J.member k d (J.member l e ms)) = None

-- the command of that name, whose keys stand in the value
abbrev pub command_under : Text → J.Data → Option Command
command_under name J.null = None
command_under name (J.boolean b) = None
command_under name (J.number n) = None
command_under name (J.string s) = None
command_under name (J.array ds) = None
command_under name (J.object ms) = events.command_named name ms

-- the commands that are given as updates; none where they are left out
abbrev pub updates_of : Option J.Data → Option (List Command)
updates_of None = Some []
updates_of (Some d) = events.commands_of d

abbrev pub part_seen : Part → events.Part
part_seen p = record { fragment = p.fragment; id = p.id; args = p.args }

abbrev pub target_seen : Target → events.Target
target_seen t = record { handle = t.handle; part = option_map part_seen t.part }

abbrev pub answer_seen : Answer → events.Answer
answer_seen a = record { handle = a.handle; response = view a.response }

abbrev pub handle_of : events.Answer → Text
handle_of a = a.handle

-- the response that the handle was given
abbrev pub answer_to : Text → J.Members → Option events.Answer
answer_to handle ms = option_map (λ response. record { handle = handle; response = response }) (get_member (codes "response") ms)

-- the same, where there is a handle
abbrev pub optional_answer_to : Option Text → J.Members → Option (Option events.Answer)
optional_answer_to None ms = Some None
optional_answer_to (Some handle) ms = option_map Some (answer_to handle ms)

-- an event, its response as the data that the JSON value stands for
abbrev pub event_seen : Event → events.Event
event_seen (E.Retain handle op vars) = events.retain handle op vars
event_seen (E.Release handle) = events.release handle
event_seen (E.Payload answer updates) = events.payload (answer_seen answer) updates
event_seen (E.Update updates) = events.update updates
event_seen (E.Begin layer answer updates) = events.begin layer (option_map answer_seen answer) updates
event_seen (E.Finish layer answer updates) = events.finish layer (option_map answer_seen answer) updates
event_seen (E.Revert layer) = events.revert layer
event_seen (E.Read target) = events.read (target_seen target)
event_seen (E.Watch name target) = events.watch name (target_seen target)
event_seen (E.Unwatch name) = events.unwatch name
event_seen E.Collect = events.collect

-- the fragment, the id and the arguments, where all are there
abbrev pub whole_part_of : J.Members → Option events.Part
whole_part_of ms =
    option_and_then (λ fragment. option_and_then (λ id. option_map (λ args. record { fragment = fragment; id = id; args = args })
    (events.object_at (codes "args") ms)) (events.id_at (codes "id") ms)) (events.text_at (codes "fragment") ms)

-- a text is read as the answer says; want of memory says nothing
abbrev pub Reads : Result Value TextFault → Option J.Data → Type 0
Reads (Ok v) read = read ≡ Some (view v)
Reads (Err T.NotJson) read = read ≡ None
Reads (Err T.NoMemory) read = Unit {0}

-- the line is what the answer says of it; want of memory says nothing
abbrev pub Says : Result Event LineFault → events.Line → Type 0
Says (Ok e) line = line ≡ events.event (event_seen e)
Says (Err NotJson) line = line ≡ events.not_json
Says (Err EventShape) line = line ≡ events.no_event
Says (Err UpdateShape) line = line ≡ events.no_commands
Says (Err LineTooLong) line = line ≡ events.too_long
Says (Err NoMemory) line = Unit {0}
