-- What a line does: the entries that it confirms, those of the layers that are live after it, and the reads of its answer.
use Rattle.std.specs.Prelude.{Bool, true, false, List, [], ◌∷◌, drop, length, Option, Some, None}
use Rattle.plan_ir.specs.relay_marks.Locals.{locals_of}
use Rattle.relay_machine.specs.Machine.{Confirmation, confirmed, swept, Handle, Project, State, definitions_in, fragment_read, handle_named, operation_read, scope_given, view}
use Rattle.plan_ir.specs.schema_types.NameRules.{fragment_named, fragments}
use Rattle.plan_ir.specs.schema_types.Sites.{FragmentAt}
use Rattle.plan_ir.specs.store_model.Events as e
use Rattle.plan_ir.specs.store_model.Events.{Event, Line}
use Rattle.plan_ir.specs.store_model.Records.{Records}
use Rattle.plan_ir.specs.store_model.Walks.{Found}
use Rattle.plan_ir.specs.store_model.declared.entry.Entry.{Entry}

-- ---- entries

-- without the sweeps
abbrev pub entries_in : List Confirmation → List Entry
entries_in [] = []
entries_in (confirmed e ∷ cs) = e ∷ entries_in cs
entries_in (swept rs live ∷ cs) = entries_in cs

-- the entries that the state after a line has confirmed, and the one before it has not
abbrev pub newly_confirmed : (before after : State) → List Entry
newly_confirmed s t = entries_in (drop (length s.entries) t.entries)

-- ---- the reads of an answer: one, where the handle is live and the fragment is there

abbrev pub reads_of_fragment : Project → Records → Handle → e.Part → Option FragmentAt → List Found
reads_of_fragment p m h part None = []
reads_of_fragment p m h part (Some f) = fragment_read p m h f (scope_given (locals_of f.directives) part.args) part.id ∷ []

abbrev pub reads_of_part : Project → Records → Handle → Option e.Part → List Found
reads_of_part p m h None = operation_read p m h ∷ []
reads_of_part p m h (Some part) = reads_of_fragment p m h part (fragment_named (fragments (definitions_in p)) part.fragment)

abbrev pub reads_of_target : Project → Records → e.Target → Option Handle → List Found
reads_of_target p m target None = []
reads_of_target p m target (Some h) = reads_of_part p m h target.part

-- an event that shows something reads it in the view
abbrev pub answer_reads : Project → State → Event → List Found
answer_reads p s (e.retain handle op given) = []
answer_reads p s (e.release handle) = []
answer_reads p s (e.payload answer commands) = []
answer_reads p s (e.update commands) = []
answer_reads p s (e.begin layer answer commands) = []
answer_reads p s (e.finish layer answer commands) = []
answer_reads p s (e.revert layer) = []
answer_reads p s (e.read target) = reads_of_target p (view p s) target (handle_named s.handles target.handle)
answer_reads p s (e.watch name target) = reads_of_target p (view p s) target (handle_named s.handles target.handle)
answer_reads p s (e.unwatch name) = []
answer_reads p s e.collect = []

-- ---- sweeps

-- whether an event sweeps
abbrev pub event_sweeps : Event → Bool
event_sweeps (e.retain handle op given) = false
event_sweeps (e.release handle) = false
event_sweeps (e.payload answer commands) = false
event_sweeps (e.update commands) = false
event_sweeps (e.begin layer answer commands) = false
event_sweeps (e.finish layer answer commands) = false
event_sweeps (e.revert layer) = false
event_sweeps (e.read target) = false
event_sweeps (e.watch name target) = false
event_sweeps (e.unwatch name) = false
event_sweeps e.collect = true

-- whether a line sweeps
abbrev pub sweeps : Line → Bool
sweeps e.too_long = false
sweeps e.not_json = false
sweeps e.no_event = false
sweeps e.no_commands = false
sweeps (e.event event) = event_sweeps event
