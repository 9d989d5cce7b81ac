-- The machine: at each line it folds what was confirmed, entries and sweeps, and then the live layers into fresh records, and reads them along
-- the documents.
use Rattle.std.specs.Prelude.{ℕ, ◌+◌, ◌-◌, List, [], ◌∷◌, ◌++◌, map, drop, length, take, Bool, true, false, not, ◌&&◌, ◌||◌, ◌==◌, cond, codes, bytes_eq, Option, Some, None, is_some}
use Rattle.std.specs.Bool.{beq}
use Rattle.std.specs.List.{filter, list_any}
use Rattle.plan_ir.specs.gql_ast.Value.{Val}
use Rattle.plan_ir.specs.gql_ast.declared.document.Document.{Document}
use Rattle.plan_ir.specs.gql_ast.declared.place.Placed.{Placed}
use Rattle.plan_ir.specs.Expansion as plans
use Rattle.plan_ir.specs.Expansion.{operation_named, variable_trees}
use Rattle.plan_ir.specs.Projects as projects
use Rattle.plan_ir.specs.relay_marks.Locals.{Local, locals_of}
use Rattle.relay_machine.specs.Printed.{collect_line, event_line, notice_line, read_line, refusal_line, watch_line}
use Rattle.relay_machine.specs.Refusals.{Refusal, not_json, event_shape, update_shape, line_too_long, unknown_operation, unknown_fragment, unknown_handle, handle_taken, handle_in_use, unknown_layer, layer_taken, unknown_watch, watch_taken, unknown_type, variables, payload, too_many, handles, layers, watches, most}
use Rattle.relay_model.specs.Readings.{fragment_reads, no_place, operation_reads}
use Rattle.relay_model.specs.Reaches.{operation_reaches}
use Rattle.relay_model.specs.Responses.{operation_says}
use Rattle.plan_ir.specs.schema_rules.Rules.{is_object}
use Rattle.plan_ir.specs.schema_tables.Fits.{is_non_null}
use Rattle.plan_ir.specs.schema_tables.Types.{Text, Defs, root}
use Rattle.plan_ir.specs.schema_types.DocumentRules.{trees_of}
use Rattle.plan_ir.specs.schema_types.Environments.{Failure, Values, environment, evaluation, first_failure, first_of, fits, missing, unfit, with_pair}
use Rattle.plan_ir.specs.schema_types.NameRules.{fragment_named, fragments, operations}
use Rattle.plan_ir.specs.schema_types.Sites.{DefinitionAt, FragmentAt, OperationAt, all_definitions}
use Rattle.plan_ir.specs.gql_plain.Equal.{tree_eq}
use Rattle.plan_ir.specs.gql_plain.Order.{has_text, member_at}
use Rattle.plan_ir.specs.gql_plain.Tree as t
use Rattle.plan_ir.specs.gql_plain.Tree.{Tree}
use Rattle.serde_json.specs.Data as J
use Rattle.plan_ir.specs.store_model.Entries.{all_named, apply, fold_entries}
use Rattle.plan_ir.specs.store_model.Events as e
use Rattle.plan_ir.specs.store_model.Events.{Event, Line, line_of}
use Rattle.plan_ir.specs.store_model.Leads.{leads}
use Rattle.plan_ir.specs.store_model.Records.{Records, no_records, slot_at}
use Rattle.plan_ir.specs.store_model.Said.{Said}
use Rattle.plan_ir.specs.store_model.Sweeps.{dropped, sweep}
use Rattle.plan_ir.specs.store_model.Verdicts.{Verdict, refusal, content}
use Rattle.plan_ir.specs.store_model.Walks.{Found, Reading, Slots, reading}
use Rattle.plan_ir.specs.store_model.declared.command.Command.{Command}
use Rattle.plan_ir.specs.store_model.declared.command.Command.TheVariants as C
use Rattle.plan_ir.specs.store_model.declared.entry.Entry.{Entry}
use Rattle.plan_ir.specs.store_record.Keys as keys

-- ---- projects and states

-- an accepted project: what its schema says, and its documents
pub record Project : Type 0 where
  pub defs : Defs
  pub documents : List (Placed Document)

abbrev pub definitions_in : Project → List DefinitionAt
definitions_in p = all_definitions p.defs (trees_of p.documents)

abbrev pub documents_of : Project → plans.Project
documents_of p = projects.project p.defs p.documents

-- a live handle: its operation, and the values of the operation's variables
pub record Handle : Type 0 where
  pub name : Text
  pub operation : OperationAt
  pub values : Values

-- a live optimistic layer
pub record Layer : Type 0 where
  pub name : Text
  pub entry : Entry

-- an operation, and the values of its variables
pub record Retained : Type 0 where
  pub operation : OperationAt
  pub values : Values

-- what confirms records: an entry, or a sweep with the operations that were retained then, and the entries of the layers that were live
pub data Confirmation : Type 0 where
  confirmed : Entry → Confirmation
  swept : List Retained → List Entry → Confirmation

-- a fragment at an id, with the values of its local variables
pub record PartShown : Type 0 where
  pub fragment : FragmentAt
  pub scope : Values
  pub id : Text

-- a live watch: its name, what it shows (the operation of a handle, or a part of it), and the data and the missing mark of its last snapshot
pub record Watch : Type 0 where
  pub name : Text
  pub handle : Handle
  pub part : Option PartShown
  pub value : Tree
  pub missing : Bool

-- what was confirmed, the live layers and handles, the operations that were released, the latest last, and the live watches, each in order of start
pub record State : Type 0 where
  pub entries : List Confirmation
  pub layers : List Layer
  pub handles : List Handle
  pub released : List Retained
  pub watches : List Watch

abbrev pub beginning : State
beginning = record { entries = []; layers = []; handles = []; released = []; watches = [] }

-- ---- retention

abbrev pub retained_by : Handle → Retained
retained_by h = record { operation = h.operation; values = h.values }

-- the last so many of a list
abbrev pub last_of : {X : Type 0} → ℕ → List X → List X
last_of n xs = drop (length xs - n) xs

-- the operations of the live handles, and those that were released last, so many of them
abbrev pub retained : (buffer : ℕ) → State → List Retained
retained buffer s = map retained_by s.handles ++ last_of buffer s.released

-- whether an id is in the reach of one of the operations, in these records
abbrev pub is_reached : Project → List Retained → Records → Text → Bool
is_reached p rs m id = list_any (λ (r : Retained). has_text (operation_reaches (documents_of p) no_place r.operation r.values (λ j. slot_at j m) keys.root) id) rs

-- ---- records

-- whether one of the operations reaches an id, or the entries lead to it, in these records
abbrev pub is_held : Project → List Retained → List Entry → Records → Text → Bool
is_held p rs live m id = is_reached p rs m id || has_text (leads m (all_named live)) id

-- the records without the ids that no operation reaches, and no entry leads to
abbrev pub sweep_of : Project → List Retained → List Entry → Records → Records
sweep_of p rs live m = sweep (is_held p rs live m) m

abbrev pub confirm_one : Project → Confirmation → Records → Records
confirm_one p (confirmed e) m = apply e m
confirm_one p (swept rs live) m = sweep_of p rs live m

abbrev pub fold_confirmed : Project → List Confirmation → Records → Records
fold_confirmed p [] m = m
fold_confirmed p (c ∷ cs) m = fold_confirmed p cs (confirm_one p c m)

-- the records that are confirmed
abbrev pub base : Project → State → Records
base p s = fold_confirmed p s.entries no_records

-- the entries of the live layers, in order of start
abbrev pub layer_entries : State → List Entry
layer_entries s = map (λ (l : Layer). l.entry) s.layers

-- the records that are seen: the live layers on what is confirmed
abbrev pub view : Project → State → Records
view p s = fold_entries (layer_entries s) (base p s)

abbrev pub slots_of : Records → Slots
slots_of m id = slot_at id m

-- ---- a part of the state in place of the one that was

abbrev pub with_entries : List Confirmation → State → State
with_entries es s = record { entries = es; layers = s.layers; handles = s.handles; released = s.released; watches = s.watches }

abbrev pub with_layers : List Layer → State → State
with_layers ls s = record { entries = s.entries; layers = ls; handles = s.handles; released = s.released; watches = s.watches }

abbrev pub with_handles : List Handle → List Retained → State → State
with_handles hs rs s = record { entries = s.entries; layers = s.layers; handles = hs; released = rs; watches = s.watches }

abbrev pub with_watches : List Watch → State → State
with_watches ws s = record { entries = s.entries; layers = s.layers; handles = s.handles; released = s.released; watches = ws }

-- ---- names

abbrev pub handle_named : List Handle → Text → Option Handle
handle_named [] name = None
handle_named (h ∷ hs) name = cond (bytes_eq h.name name) (Some h) (handle_named hs name)

abbrev pub is_layer : List Layer → Text → Bool
is_layer [] name = false
is_layer (l ∷ ls) name = bytes_eq l.name name || is_layer ls name

abbrev pub is_watch : List Watch → Text → Bool
is_watch ws name = list_any (λ (w : Watch). bytes_eq w.name name) ws

-- whether a watch was started with the handle of a name
abbrev pub is_in_use : List Watch → Text → Bool
is_in_use ws name = list_any (λ (w : Watch). bytes_eq w.handle.name name) ws

-- the handles but for the one of a name
abbrev pub without_handle : Text → List Handle → List Handle
without_handle name [] = []
without_handle name (h ∷ hs) = cond (bytes_eq h.name name) hs (h ∷ without_handle name hs)

-- the watches but for the one of a name
abbrev pub without_watch : Text → List Watch → List Watch
without_watch name [] = []
without_watch name (w ∷ ws) = cond (bytes_eq w.name name) ws (w ∷ without_watch name ws)

-- the layers without those of a name
abbrev pub without_layer : Text → List Layer → List Layer
without_layer name ls = filter (λ (l : Layer). not (bytes_eq l.name name)) ls

-- ---- a step

-- what a line writes, whether it is refused, and the state after it
pub record Step : Type 0 where
  pub text : Text
  pub refused : Bool
  pub state : State

abbrev pub refuse : State → ℕ → Refusal → Step
refuse s n r = record { text = refusal_line n r; refused = true; state = s }

abbrev pub accept : Text → State → Step
accept text s = record { text = text; refused = false; state = s }

-- the first refusal that comes, else the step
abbrev pub unless : State → ℕ → Bool → Refusal → Step → Step
unless s n true r step = refuse s n r
unless s n false r step = step

abbrev pub unless_failure : State → ℕ → Option Failure → Step → Step
unless_failure s n None step = step
unless_failure s n (Some f) step = refuse s n (variables f)

-- ---- retain

abbrev pub with_handle : Handle → State → State
with_handle h s = with_handles (s.handles ++ h ∷ []) s.released s

abbrev pub retain_operation : Project → State → ℕ → (name : Text) → OperationAt → (given : Values) → Step
retain_operation p s n name o given =
    unless s n (length s.handles == most handles) (too_many handles)
    (unless_failure s n (first_failure p.defs (variable_trees o.variables) given)
    (accept (event_line (codes "retain") n) (with_handle (record { name = name; operation = o; values = environment (variable_trees o.variables) given }) s)))

abbrev pub retain_named : Project → State → ℕ → (name op : Text) → Option OperationAt → (given : Values) → Step
retain_named p s n name op None given = refuse s n (unknown_operation op)
retain_named p s n name op (Some o) given = retain_operation p s n name o given

abbrev pub step_retain : Project → State → ℕ → (name op : Text) → (given : Values) → Step
step_retain p s n name op given =
    unless s n (is_some (handle_named s.handles name)) (handle_taken name)
    (retain_named p s n name op (operation_named (operations (definitions_in p)) op) given)

-- ---- release

abbrev pub released_by : Option Handle → List Retained
released_by None = []
released_by (Some h) = retained_by h ∷ []

-- the handle leaves, and its operation is the latest that was released
abbrev pub release_handle : Text → State → State
release_handle name s = with_handles (without_handle name s.handles) (s.released ++ released_by (handle_named s.handles name)) s

abbrev pub step_release : State → ℕ → (name : Text) → Step
step_release s n name =
    unless s n (not (is_some (handle_named s.handles name))) (unknown_handle name)
    (unless s n (is_in_use s.watches name) (handle_in_use name)
    (accept (event_line (codes "release") n) (release_handle name s)))

-- ---- entries

-- what a command names as a type, where that is no object type of the schema
abbrev pub type_refused : Defs → Text → Option Text
type_refused defs of = cond (is_object defs of) None (Some of)

abbrev pub refused_in : Defs → Command → Option Text
refused_in defs (C.Set id field args value) = None
refused_in defs (C.Add id field args by) = None
refused_in defs (C.Link id field args to) = None
refused_in defs (C.Links id field args to) = None
refused_in defs (C.Create id of) = type_refused defs of
refused_in defs (C.Delete id) = None
refused_in defs (C.AppendNode e) = type_refused defs e.edge_type
refused_in defs (C.PrependNode e) = type_refused defs e.edge_type
refused_in defs (C.DeleteEdge e) = None

abbrev pub or_later : Option Text → Option Text → Option Text
or_later None later = later
or_later (Some name) later = Some name

-- the first name of a command that is none of an object type
abbrev pub first_refused : Defs → List Command → Option Text
first_refused defs [] = None
first_refused defs (c ∷ cs) = or_later (refused_in defs c) (first_refused defs cs)

abbrev pub unless_unknown : State → ℕ → Option Text → Step → Step
unless_unknown s n None step = step
unless_unknown s n (Some name) step = refuse s n (unknown_type name)

-- what a handle's response says, and then the commands
abbrev pub entry_of : Said → List Command → Entry
entry_of said commands = record { facts = said; commands = commands }

abbrev pub nothing_said : Said
nothing_said = record { facts = []; handles = [] }

abbrev pub said_to : Project → Handle → (response : J.Data) → Verdict
said_to p h response = operation_says (documents_of p) no_place h.operation h.values response

-- ---- payload

abbrev pub confirm : Entry → State → State
confirm e s = with_entries (s.entries ++ confirmed e ∷ []) s

-- an entry of a verdict, or the refusal of the response
abbrev pub of_verdict : State → ℕ → Verdict → List Command → (take : Entry → Step) → Step
of_verdict s n (refusal f) commands take = refuse s n (payload f)
of_verdict s n (content said) commands take = take (entry_of said commands)

-- the step of an answer to a handle, after the refusals that come before those of its commands
abbrev pub answer_to : Project → State → ℕ → Option Handle → e.Answer → List Command → (before : Step → Step) → (take : Entry → Step) → Step
answer_to p s n None a commands before take = refuse s n (unknown_handle a.handle)
answer_to p s n (Some h) a commands before take =
    before (unless_unknown s n (first_refused p.defs commands) (of_verdict s n (said_to p h a.response) commands take))

abbrev pub step_payload : Project → State → ℕ → e.Answer → List Command → Step
step_payload p s n a commands =
    answer_to p s n (handle_named s.handles a.handle) a commands (λ step. step) (λ entry. accept (event_line (codes "payload") n) (confirm entry s))

abbrev pub step_update : Project → State → ℕ → List Command → Step
step_update p s n commands =
    unless_unknown s n (first_refused p.defs commands) (accept (event_line (codes "update") n) (confirm (entry_of nothing_said commands) s))

-- ---- layers

-- an answer may be left out
abbrev pub result_of : Project → State → ℕ → Option e.Answer → List Command → (before : Step → Step) → (take : Entry → Step) → Step
result_of p s n None commands before take = before (unless_unknown s n (first_refused p.defs commands) (take (entry_of nothing_said commands)))
result_of p s n (Some a) commands before take = answer_to p s n (handle_named s.handles a.handle) a commands before take

abbrev pub with_layer : Text → Entry → State → State
with_layer name entry s = with_layers (s.layers ++ record { name = name; entry = entry } ∷ []) s

abbrev pub drop_layer : Text → State → State
drop_layer name s = with_layers (without_layer name s.layers) s

abbrev pub step_begin : Project → State → ℕ → Text → Option e.Answer → List Command → Step
step_begin p s n name answer commands =
    unless s n (is_layer s.layers name) (layer_taken name)
    (result_of p s n answer commands (unless s n (length s.layers == most layers) (too_many layers))
    (λ entry. accept (event_line (codes "begin") n) (with_layer name entry s)))

-- the layer is dropped, and then the entry is confirmed
abbrev pub step_finish : Project → State → ℕ → Text → Option e.Answer → List Command → Step
step_finish p s n name answer commands =
    unless s n (not (is_layer s.layers name)) (unknown_layer name)
    (result_of p s n answer commands (λ step. step) (λ entry. accept (event_line (codes "finish") n) (confirm entry (drop_layer name s))))

abbrev pub step_revert : State → ℕ → Text → Step
step_revert s n name = unless s n (not (is_layer s.layers name)) (unknown_layer name) (accept (event_line (codes "revert") n) (drop_layer name s))

-- ---- read

abbrev pub root_type : Project → Handle → Text
root_type p h = plans.name_or (root p.defs h.operation.kind)

-- why values given to local variables are refused
abbrev pub local_failure : Defs → Local → Option Tree → Option Failure
local_failure defs l None = cond (is_non_null l.of && not (is_some l.default)) (Some (missing l.name)) None
local_failure defs l (Some x) = cond (fits defs x l.of) None (Some (unfit l.name))

abbrev pub first_local_failure : Defs → List Local → (given : Values) → Option Failure
first_local_failure defs [] given = None
first_local_failure defs (l ∷ ls) given = first_of (local_failure defs l (member_at given l.name)) (first_local_failure defs ls given)

abbrev pub default_of : Option Val → Tree
default_of None = t.null
default_of (Some v) = evaluation [] v

-- the value that is given, else the default, else null
abbrev pub given_or : Option Tree → Tree → Tree
given_or None default = default
given_or (Some x) default = x

abbrev pub scope_given : List Local → (given : Values) → Values
scope_given [] given = []
scope_given (l ∷ ls) given = with_pair l.name (given_or (member_at given l.name) (default_of l.default)) (scope_given ls given)

abbrev pub operation_read : Project → Records → Handle → Found
operation_read p m h = operation_reads (documents_of p) h.operation h.values h.name (slots_of m) keys.root

abbrev pub fragment_read : Project → Records → Handle → FragmentAt → (scope : Values) → (id : Text) → Found
fragment_read p m h f scope id = fragment_reads (documents_of p) f (root_type p h) h.values scope h.name (slots_of m) id

-- what the operation of a handle shows in records, or a part of it
abbrev pub shown : Project → Records → Handle → Option PartShown → Reading
shown p m h None = reading (operation_read p m h)
shown p m h (Some q) = reading (fragment_read p m h q.fragment q.scope q.id)

-- `before` is what comes before the values of local variables are looked at
abbrev pub of_fragment : Project → State → ℕ → e.Part → Option FragmentAt → (before : Step → Step) → (take : Option PartShown → Step) → Step
of_fragment p s n part None before take = refuse s n (unknown_fragment part.fragment)
of_fragment p s n part (Some f) before take =
    before (unless_failure s n (first_local_failure p.defs (locals_of f.directives) part.args)
    (take (Some (record { fragment = f; scope = scope_given (locals_of f.directives) part.args; id = part.id }))))

abbrev pub of_part : Project → State → ℕ → Option e.Part → (before : Step → Step) → (take : Option PartShown → Step) → Step
of_part p s n None before take = before (take None)
of_part p s n (Some part) before take = of_fragment p s n part (fragment_named (fragments (definitions_in p)) part.fragment) before take

abbrev pub of_target : Project → State → ℕ → e.Target → Option Handle → (before : Step → Step) → (take : Handle → Option PartShown → Step) → Step
of_target p s n target None before take = refuse s n (unknown_handle target.handle)
of_target p s n target (Some h) before take = of_part p s n target.part before (take h)

abbrev pub step_read : Project → State → ℕ → e.Target → Step
step_read p s n target =
    of_target p s n target (handle_named s.handles target.handle) (λ step. step) (λ h part. accept (read_line n (shown p (view p s) h part)) s)

-- ---- watches

abbrev pub started : Text → Handle → Option PartShown → Reading → Watch
started name h part r = record { name = name; handle = h; part = part; value = r.value; missing = r.missing }

-- the watch starts after all others, with what is shown
abbrev pub start_watch : Project → State → ℕ → (name : Text) → Handle → Option PartShown → Step
start_watch p s n name h part =
    accept (watch_line n (shown p (view p s) h part)) (with_watches (s.watches ++ started name h part (shown p (view p s) h part) ∷ []) s)

abbrev pub step_watch : Project → State → ℕ → (name : Text) → e.Target → Step
step_watch p s n name target =
    unless s n (is_watch s.watches name) (watch_taken name)
    (of_target p s n target (handle_named s.handles target.handle) (unless s n (length s.watches == most watches) (too_many watches)) (start_watch p s n name))

abbrev pub step_unwatch : State → ℕ → (name : Text) → Step
step_unwatch s n name =
    unless s n (not (is_watch s.watches name)) (unknown_watch name) (accept (event_line (codes "unwatch") n) (with_watches (without_watch name s.watches) s))

-- whether the data or the missing mark differs from the last snapshot
abbrev pub is_changed : Watch → Reading → Bool
is_changed w r = not (beq w.missing r.missing) || not (tree_eq w.value r.value)

abbrev pub shown_by : Project → Records → Watch → Reading
shown_by p m w = shown p m w.handle w.part

-- a watch keeps a new snapshot where it differs
abbrev pub read_again : Project → Records → Watch → Watch
read_again p m w = cond (is_changed w (shown_by p m w)) (started w.name w.handle w.part (shown_by p m w)) w

-- the notice of a watch, where its snapshot differs
abbrev pub notice_of : Project → Records → ℕ → Watch → Text
notice_of p m n w = cond (is_changed w (shown_by p m w)) (notice_line n w.name (shown_by p m w)) []

abbrev pub notices_of : Project → Records → ℕ → List Watch → Text
notices_of p m n [] = []
notices_of p m n (w ∷ ws) = notice_of p m n w ++ notices_of p m n ws

-- the first so many watches are read again in the view, in order of start; the others were started by the line itself
abbrev pub with_notices : Project → ℕ → (earlier : ℕ) → Step → Step
with_notices p n earlier step = record {
  text = step.text ++ notices_of p (view p step.state) n (take earlier step.state.watches);
  refused = step.refused;
  state = with_watches (map (read_again p (view p step.state)) (take earlier step.state.watches) ++ drop earlier step.state.watches) step.state;
}

-- after a line that is not refused, each watch that it did not start is read again
abbrev pub noticed : Project → ℕ → (earlier : ℕ) → Step → Step
noticed p n earlier step = cond step.refused step (with_notices p n earlier step)

-- ---- collect

-- the ids that leave the base: those that no retained operation reaches, and no live layer leads to
abbrev pub dropped_ids : Project → (buffer : ℕ) → State → List Text
dropped_ids p buffer s = dropped (is_held p (retained buffer s) (layer_entries s) (base p s)) (base p s)

-- the state with a sweep added to what was confirmed
abbrev pub swept_state : (buffer : ℕ) → State → State
swept_state buffer s = with_entries (s.entries ++ swept (retained buffer s) (layer_entries s) ∷ []) s

abbrev pub step_collect : Project → (buffer : ℕ) → State → ℕ → Step
step_collect p buffer s n = accept (collect_line n (length (dropped_ids p buffer s))) (swept_state buffer s)

-- ---- lines

-- what an event does, the notices of the watches apart
abbrev pub act : Project → (buffer : ℕ) → State → ℕ → Event → Step
act p buffer s n (e.retain handle op given) = step_retain p s n handle op given
act p buffer s n (e.release handle) = step_release s n handle
act p buffer s n (e.payload answer commands) = step_payload p s n answer commands
act p buffer s n (e.update commands) = step_update p s n commands
act p buffer s n (e.begin layer answer commands) = step_begin p s n layer answer commands
act p buffer s n (e.finish layer answer commands) = step_finish p s n layer answer commands
act p buffer s n (e.revert layer) = step_revert s n layer
act p buffer s n (e.read target) = step_read p s n target
act p buffer s n (e.watch name target) = step_watch p s n name target
act p buffer s n (e.unwatch name) = step_unwatch s n name
act p buffer s n e.collect = step_collect p buffer s n

-- the answer of the event, and then the notices
abbrev pub step_event : Project → (buffer : ℕ) → State → ℕ → Event → Step
step_event p buffer s n event = noticed p n (length s.watches) (act p buffer s n event)

abbrev pub step_line : Project → (buffer : ℕ) → State → ℕ → Line → Step
step_line p buffer s n e.too_long = refuse s n line_too_long
step_line p buffer s n e.not_json = refuse s n not_json
step_line p buffer s n e.no_event = refuse s n event_shape
step_line p buffer s n e.no_commands = refuse s n update_shape
step_line p buffer s n (e.event event) = step_event p buffer s n event

-- the step of a line of the script, where so many released operations are kept
abbrev pub step : Project → (buffer : ℕ) → State → ℕ → Text → Step
step p buffer s n bytes = step_line p buffer s n (line_of bytes)

-- ---- the whole script

-- what the lines write from a state on, numbered from n
abbrev pub output_from : Project → (buffer : ℕ) → State → ℕ → List Text → Text
output_from p buffer s n [] = []
output_from p buffer s n (line ∷ lines) = (step p buffer s n line).text ++ output_from p buffer (step p buffer s n line).state (n + 1) lines

-- whether one of the lines is refused
abbrev pub refused_from : Project → (buffer : ℕ) → State → ℕ → List Text → Bool
refused_from p buffer s n [] = false
refused_from p buffer s n (line ∷ lines) = (step p buffer s n line).refused || refused_from p buffer (step p buffer s n line).state (n + 1) lines

-- what the lines of a script write, where so many released operations are kept: 1 to 100
abbrev pub output : Project → (buffer : ℕ) → List Text → Text
output p buffer lines = output_from p buffer beginning 1 lines

-- whether one of the lines of a script is refused
abbrev pub some_refused : Project → (buffer : ℕ) → List Text → Bool
some_refused p buffer lines = refused_from p buffer beginning 1 lines
