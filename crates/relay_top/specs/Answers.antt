-- What the answers of a call owe.
use Rattle.std.specs.Prelude.{◌≡◌, ◌⊎◌, ◌↔◌, ℕ, ◌+◌, ◌≤◌, [], ◌∷◌, ◌++◌, length, take, Bool, false, Option, Some, None, ⊤, IsTrue, IsFalse}
use Rattle.std.specs.Io.KnownBytes.{IsAtEnd}
use Rattle.bulk_laws.specs.BulkProject.{bulk_project}
use Rattle.relay_forms.specs.relay_io.Streams.{append, prepend}
use Rattle.plan_ir.specs.schema_tables.Types.{Text}
use Rattle.relay_forms.specs.relay_machine.Bulk.{bulk_summary}
use Rattle.relay_forms.specs.relay_machine.Machine.{Project}
use Rattle.relay_forms.specs.relay_machine.Printed.{project_fault}
use Rattle.relay_forms.specs.Artifacts.{EndsLine, artifacts_text}
use Rattle.relay_forms.specs.Files.{Files, IsFirstAbsent, IsTheFaultOf, IsTheProjectOf}
use Rattle.relay_forms.specs.Scripts.{max_script}
use Rattle.relay_forms.specs.Statuses.{IsDone}
use Rattle.relay_forms.specs.Words.{Asked, Form, run, compile, on_files, bulk, file_names}
use Rattle.relay_top.specs.Output.{output_text, has_refusal}
use Rattle.relay_forms.specs.declared.status.Status.{Status}
use Rattle.relay_forms.specs.declared.status.Status.TheVariants.{Done, DoneWithRefusals, ProjectRefused, ReadFault, WriteFault, NoMemory, ScriptTooLong}

-- ---- the course of a call

-- what came to be known of the project: nothing, its fault, or that it is accepted
pub data Course : Type 0 where
  unknown : Course
  refused : (file : Text) (line column : ℕ) (rule : Text) → Course
  accepted : (project : Project) → Course

-- the files, where they are told, give the course
abbrev pub IsCourse : Option Files → Form → Course → Type 0
IsCourse files form unknown = ⊤
IsCourse files form (refused file line column rule) = IsTheFaultOf files form file line column rule
IsCourse files form (accepted project) = IsTheProjectOf files form project

-- what a form writes for an accepted project, where the script gave these bytes and has ended or not
abbrev pub output_of : Form → Project → Text → Bool → Text
output_of (run buffer schema documents) project taken ended = output_text project buffer taken ended
output_of (compile schema documents) project taken ended = artifacts_text project.defs project.documents

-- what is due of a form where the script gave these bytes and has ended or not
abbrev pub due : Form → Course → Text → Bool → Text
due form unknown taken ended = []
due form (refused file line column rule) taken ended = project_fault file line column rule
due form (accepted project) taken ended = output_of form project taken ended

-- whether a form refuses, for an accepted project, one of the lines of these bytes
abbrev pub has_refusal_in : Form → Project → Text → Bool
has_refusal_in (run buffer schema documents) project taken = has_refusal project buffer taken
has_refusal_in (compile schema documents) project taken = false

-- the same in a course
abbrev pub refuses : Form → Course → Text → Bool
refuses form unknown taken = false
refuses form (refused file line column rule) taken = false
refuses form (accepted project) taken = has_refusal_in form project taken

-- what is left of a script whose bytes a form has read, where its work is done
abbrev pub left_over : Form → Text → Text
left_over (run buffer schema documents) bytes = []
left_over (compile schema documents) bytes = bytes

-- a script that is not too long for the form
abbrev pub IsScriptFor : Form → Text → Type 0
IsScriptFor (run buffer schema documents) bytes = length bytes ≤ max_script
IsScriptFor (compile schema documents) bytes = ⊤

-- a script was read as far as the form reads it
abbrev pub IsReadWhole : Form → (taken : Text) → (after : Option Text) → Type 0
IsReadWhole (run buffer schema documents) taken after = IsAtEnd after × (length taken ≤ max_script)
IsReadWhole (compile schema documents) taken after = taken ≡ []

-- what a form may take of the script where the project is accepted
abbrev pub IsReadBy : Form → Text → Type 0
IsReadBy (run buffer schema documents) taken = ⊤
IsReadBy (compile schema documents) taken = taken ≡ []

-- the script is read only by a form that runs it, and only where the project is accepted
abbrev pub IsReadIn : Form → Course → Text → Type 0
IsReadIn form unknown taken = taken ≡ []
IsReadIn form (refused file line column rule) taken = taken ≡ []
IsReadIn form (accepted project) taken = IsReadBy form taken

-- the script has ended, where the form runs it
abbrev pub IsEndedFor : Form → Bool → Type 0
IsEndedFor (run buffer schema documents) ended = IsTrue ended
IsEndedFor (compile schema documents) ended = ⊤

-- a stream, of which so much is known, and which was called so often, is as it was
abbrev pub IsUntouched : (before after : Option Text) → (calls calls_now : ℕ) → Type 0
IsUntouched before after calls calls_now = (after ≡ before) × (calls_now ≡ calls)

-- what holds where the form runs no script
abbrev pub IfScriptless : Form → Type 0 → Type 0
IfScriptless (run buffer schema documents) holds = ⊤
IfScriptless (compile schema documents) holds = holds

-- what holds where the script is not called: the project is not accepted, or the form runs no script
abbrev pub IfUnread : Form → Course → Type 0 → Type 0
IfUnread form unknown holds = holds
IfUnread form (refused file line column rule) holds = holds
IfUnread form (accepted project) holds = IfScriptless form holds

-- what holds where nothing came to be known of the project
abbrev pub IfUnknown : Course → Type 0 → Type 0
IfUnknown unknown holds = holds
IfUnknown (refused file line column rule) holds = ⊤
IfUnknown (accepted project) holds = ⊤

-- what the script, which had `before` and has `after`, gave in a call that is answered so
pub record Took (form : Form) (course : Course) (status : Status) (before after : Option Text) (taken : Text) (ended : Bool) : Type 0 where
  pub is : before ≡ prepend taken after
  pub read : IsReadIn form course taken
  pub end : IsTrue ended → IsAtEnd after
  pub short : IsTrue ended → length taken ≤ max_script
  pub most : length taken ≤ max_script + 1
  pub over : length taken ≡ max_script + 1 → (status ≡ ScriptTooLong) ⊎ ((status ≡ WriteFault) ⊎ (status ≡ NoMemory))
  pub too_long : status ≡ ScriptTooLong → (length taken ≡ max_script + 1) × IsFalse ended
  pub read_fault : status ≡ ReadFault → IsFalse ended
  pub done : IsDone status → IsEndedFor form ended

-- which answers come by a form where the project is accepted, each with what it comes by
abbrev pub AnsweringBy : Form → Status → (script sink : Type 0) → Type 0
AnsweringBy (run buffer schema documents) status script sink =
    IsDone status ⊎ (((status ≡ ReadFault) × script) ⊎ (((status ≡ WriteFault) × sink) ⊎ ((status ≡ NoMemory) ⊎ (status ≡ ScriptTooLong))))
AnsweringBy (compile schema documents) status script sink = IsDone status ⊎ (((status ≡ WriteFault) × sink) ⊎ (status ≡ NoMemory))

-- which answers come in a course
abbrev pub Answering : Form → Course → Status → (vault script sink : Type 0) → Type 0
Answering form unknown status vault script sink = ((status ≡ ReadFault) × vault) ⊎ (status ≡ NoMemory)
Answering form (refused file line column rule) status vault script sink = (status ≡ ProjectRefused) ⊎ (((status ≡ WriteFault) × sink) ⊎ (status ≡ NoMemory))
Answering form (accepted project) status vault script sink = AnsweringBy form status script sink

-- what is due was written whole
abbrev pub IsWhole : Status → Type 0
IsWhole status = IsDone status ⊎ ((status ≡ ProjectRefused) ⊎ ((status ≡ ReadFault) ⊎ (status ≡ ScriptTooLong)))

-- what a call took of the script and gave to the sink, and how often it called them at most
pub record Ran (form : Form) (course : Course) (status : Status) (left left_now : Option Text) (reads reads_now : ℕ) (held held_now : Option Text) (puts puts_now : ℕ) : Type 0 where
  pub taken : Text
  pub ended : Bool
  pub took : Took form course status left left_now taken ended
  pub reads_most : reads_now ≤ reads + length taken + 1
  pub unread : IfUnread form course (IsUntouched left left_now reads reads_now)
  pub added : Text
  pub adds : held_now ≡ append held added
  pub puts_most : puts_now ≤ puts + length added + 1
  pub unwritten : IfUnknown course (IsUntouched held held_now puts puts_now)
  pub ends : (status ≡ WriteFault) ⊎ EndsLine added
  pub more : Text
  pub part : added ++ more ≡ due form course (take max_script taken) ended
  pub whole : IsWhole status → more ≡ []
  pub refusals : IsDone status → (status ≡ DoneWithRefusals) ↔ IsTrue (refuses form course taken)

-- a call that is answered so: the course that it took, what the answer comes by, and what was read and written
abbrev pub IsCall : (files : Option Files) (form : Form) (status : Status) (vault script sink : Type 0) (left left_now : Option Text) (reads reads_now : ℕ) (held held_now : Option Text) (puts puts_now : ℕ) → Type 0
IsCall files form status vault script sink left left_now reads reads_now held held_now puts puts_now =
    (course : Course) × IsCourse files form course × Answering form course status (vault ⊎ IsFirstAbsent files form) script sink
    × Ran form course status left left_now reads reads_now held held_now puts puts_now

-- ---- the summary of the large script

-- which answers come where the summary is asked for, each with what it comes by
abbrev pub AnsweringBulk : Status → (sink : Type 0) → Type 0
AnsweringBulk status sink = (status ≡ Done) ⊎ (((status ≡ WriteFault) × sink) ⊎ (status ≡ NoMemory))

-- what a call that writes a text, and is answered so, gave to the sink, and how often it called it at most
pub record Wrote (text : Text) (status : Status) (held held_now : Option Text) (puts puts_now : ℕ) : Type 0 where
  pub added : Text
  pub adds : held_now ≡ append held added
  pub puts_most : puts_now ≤ puts + length added + 1
  pub ends : (status ≡ WriteFault) ⊎ EndsLine added
  pub more : Text
  pub part : added ++ more ≡ text
  pub whole : status ≡ Done → more ≡ []

-- a call that asks for the summary, and is answered so: neither files nor the script are called
pub record IsBulkCall (seed count : ℕ) (status : Status) (sink : Type 0) (looks looks_now : ℕ) (left left_now : Option Text) (reads reads_now : ℕ) (held held_now : Option Text) (puts puts_now : ℕ) : Type 0 where
  pub answers : AnsweringBulk status sink
  pub wrote : Wrote (bulk_summary bulk_project seed count) status held held_now puts puts_now
  pub unread : IsUntouched left left_now reads reads_now
  pub unopened : looks_now ≡ looks

-- a call by what is asked for
abbrev pub IsAnswered : (files : Option Files) (asked : Asked) (status : Status) (vault script sink : Type 0) (looks looks_now : ℕ) (left left_now : Option Text) (reads reads_now : ℕ) (held held_now : Option Text) (puts puts_now : ℕ) → Type 0
IsAnswered files (on_files form) status vault script sink looks looks_now left left_now reads reads_now held held_now puts puts_now =
    IsCall files form status vault script sink left left_now reads reads_now held held_now puts puts_now × (looks_now ≤ looks + length (file_names form))
IsAnswered files (bulk seed count) status vault script sink looks looks_now left left_now reads reads_now held held_now puts puts_now =
    IsBulkCall seed count status sink looks looks_now left left_now reads reads_now held held_now puts puts_now
