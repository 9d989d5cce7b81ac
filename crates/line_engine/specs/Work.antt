-- How often a step may look at records, and apply entries (this project's own).
use Rattle.std.specs.Prelude.{◌≡◌, ℕ, ◌+◌, ◌*◌, ◌≤◌, Bool, false, ◌||◌, List, [], ◌∷◌, ◌++◌, cond, drop, length, map}
use Rattle.std.specs.List.{list_any}
use Rattle.line_engine.specs.Kept.{Kept}
use Rattle.line_engine.specs.Stands.{StandsFor, layer_of}
use Rattle.relay_machine.specs.Effects.{answer_reads, newly_confirmed, sweeps}
use Rattle.relay_machine.specs.Machine.{Project, State, Step, act, base, layer_entries, view}
use Rattle.plan_ir.specs.schema_tables.Types.{Text}
use Rattle.store_layers.specs.Changed.{is_changed_by}
use Rattle.store_layers.specs.Layered.{Layer, above, below, entries_of, from_on, view_of}
use Rattle.store_layers.specs.Work.{counted, weights}
use Rattle.plan_ir.specs.store_model.Entries.{fold_entries}
use Rattle.plan_ir.specs.store_model.Events as e
use Rattle.plan_ir.specs.store_model.Events.{Event, Line}
use Rattle.plan_ir.specs.store_model.Records.{Records}
use Rattle.plan_ir.specs.store_model.Walks.{Found, Slots, standings}
use Rattle.plan_ir.specs.store_model.declared.entry.Entry.{Entry}
use Rattle.store_watch.specs.store_read.Reading.{slots}
use Rattle.store_watch.specs.Watching.{Look, Watch, read_of}

-- ---- entries

-- entries over some records give way to others; those that come after are applied
pub record Change : Type 0 where
  pub under : Records
  pub before : List Entry
  pub after : List Entry

-- over the base: what was live gives way to the entry that is confirmed and what is live then
abbrev pub confirming : Project → (before after : State) → Change
confirming p s t = record { under = base p s; before = layer_entries s; after = newly_confirmed s t ++ layer_entries t }

-- over the view: a layer that starts
abbrev pub starting : Project → (before after : State) → Change
starting p s t = record { under = view p s; before = []; after = drop (length s.layers) (layer_entries t) }

-- over what lies under a layer that is dropped: it, and those above it, give way to those above it
abbrev pub dropping : Project → State → List Layer → Text → Change
dropping p s layers name = record { under = fold_entries (entries_of (below name layers)) (base p s); before = entries_of (from_on name layers); after = entries_of (above name layers) }

abbrev pub no_change : Project → State → Change
no_change p s = record { under = base p s; before = []; after = [] }

-- what the one call of the layers changes that an event makes
abbrev pub change_of : Project → (before after : State) → Event → Change
change_of p s t (e.retain handle op given) = no_change p s
change_of p s t (e.release handle) = no_change p s
change_of p s t (e.payload answer commands) = confirming p s t
change_of p s t (e.update commands) = confirming p s t
change_of p s t (e.begin layer answer commands) = starting p s t
change_of p s t (e.finish layer answer commands) = confirming p s t
change_of p s t (e.revert layer) = dropping p s (map layer_of s.layers) layer
change_of p s t (e.read target) = no_change p s
change_of p s t (e.watch name target) = no_change p s
change_of p s t (e.unwatch name) = no_change p s
change_of p s t e.collect = no_change p s

-- at most 8 looks for each fact, page and command that is applied, and for each id that one asks for
abbrev pub change_work : Change → ℕ
change_work c = 8 * weights c.after c.under

-- whether one of the entries changes the slot of an id, before or after
abbrev pub is_touched : Change → Text → Bool
is_touched c id = is_changed_by c.before c.under id || is_changed_by c.after c.under id

-- ---- reads

-- how often reads stand at records
abbrev pub read_work : List Found → ℕ
read_work [] = 0
read_work (r ∷ rs) = standings r + read_work rs

-- how often the reads of the watches do that saw a touched id
abbrev pub notice_work : (touched : Text → Bool) → Slots → List Watch → ℕ
notice_work touched m [] = 0
notice_work touched m (w ∷ ws) = cond (list_any touched w.kept.seen) (standings (read_of m w.what)) 0 + notice_work touched m ws

-- ---- lines

-- an event that is refused looks at nothing; every other one: for its change, for the read of its answer, and for the notices
abbrev pub event_work : Project → Kept → (before : State) → Event → Step → ℕ
event_work p k s event step =
    cond step.refused 0
    (change_work (change_of p s step.state event) + read_work (answer_reads p s event)
    + notice_work (is_touched (change_of p s step.state event)) (slots (view p step.state)) k.watches)

abbrev pub line_work : Project → Kept → State → ℕ → Line → ℕ
line_work p k s n e.too_long = 0
line_work p k s n e.not_json = 0
line_work p k s n e.no_event = 0
line_work p k s n e.no_commands = 0
line_work p k s n (e.event event) = event_work p k s event (act p k.buffer s n event)

-- the looks of a line that does not sweep, whichever state the engine stood for, and whatever is answered
abbrev pub IsWithinWork : Kept → ℕ → Line → (before after : ℕ) → Type 0
IsWithinWork k n line before after = (p : Project) (s : State) → StandsFor k p s → sweeps line ≡ false → after ≤ before + line_work p k s n line

-- a layer that is dropped applies exactly those above it again
abbrev pub AppliesAbove : Kept → Line → (refused : Bool) → (before after : ℕ) → Type 0
AppliesAbove k line refused before after = (layer : Text) → line ≡ e.event (e.revert layer) → refused ≡ false → after ≡ counted (length (above layer k.layers.live)) before

-- ---- parts of lines

-- the looks of an event, whichever state the engine stood for
abbrev pub EventWithin : Kept → Event → (step : Project → State → Step) → (before after : ℕ) → Type 0
EventWithin k event step before after = (p : Project) (s : State) → StandsFor k p s → after ≤ before + event_work p k s event (step p s)

-- the looks of a change that leads from one state to the next, with those of its notices
abbrev pub changing_work : Project → Kept → Change → (after : State) → ℕ
changing_work p k c t = change_work c + notice_work (is_touched c) (slots (view p t)) k.watches

abbrev pub ChangesWithin : Kept → (change : Project → (before after : State) → Change) → (next : State → State) → (before after : ℕ) → Type 0
ChangesWithin k change next before after = (p : Project) (s : State) → StandsFor k p s → after ≤ before + changing_work p k (change p s (next s)) (next s)

-- the looks of a read
abbrev pub ReadsWithin : Kept → Look → (before after : ℕ) → Type 0
ReadsWithin k look before after = after ≤ before + standings (read_of (slots (view_of k.layers)) look)
