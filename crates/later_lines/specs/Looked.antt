-- The ids that a line looks at (this project's own).
use Rattle.std.specs.Prelude.{ℕ, List, [], ◌∷◌, ◌++◌, take, length, cond}
use Rattle.relay_machine.specs.Effects.{answer_reads, newly_confirmed}
use Rattle.relay_machine.specs.Machine.{Project, State, Step, Watch, act, base, layer_entries, shown_by, view}
use Rattle.plan_ir.specs.schema_tables.Types.{Text}
use Rattle.plan_ir.specs.store_model.Entries.{apply, looks}
use Rattle.plan_ir.specs.store_model.Events as e
use Rattle.plan_ir.specs.store_model.Events.{Event, Line}
use Rattle.plan_ir.specs.store_model.Records.{Records}
use Rattle.plan_ir.specs.store_model.Walks.{Found, reading}
use Rattle.plan_ir.specs.store_model.declared.entry.Entry.{Entry}

-- what entries ask for, each on the records that those before it leave
abbrev pub looks_of_all : List Entry → Records → List Text
looks_of_all [] m = []
looks_of_all (e ∷ es) m = looks e m ++ looks_of_all es (apply e m)

-- the entry that a line confirms, on the base, and the entry of each layer that is live after it, on what lies under that layer
abbrev pub looked_by_entries : Project → (before after : State) → List Text
looked_by_entries p s t = looks_of_all (newly_confirmed s t ++ layer_entries t) (base p s)

abbrev pub seen_by_all : List Found → List Text
seen_by_all [] = []
seen_by_all (r ∷ rs) = (reading r).seen ++ seen_by_all rs

abbrev pub seen_by_watches : Project → Records → List Watch → List Text
seen_by_watches p m [] = []
seen_by_watches p m (w ∷ ws) = (shown_by p m w).seen ++ seen_by_watches p m ws

-- the read of the answer, and those of the watches that the event did not start, in the view after it
abbrev pub looked_by_reads : Project → (before after : State) → Event → List Text
looked_by_reads p s t event = seen_by_all (answer_reads p s event) ++ seen_by_watches p (view p t) (take (length s.watches) t.watches)

-- an event that is refused looks at nothing
abbrev pub looked_in : Project → State → Event → Step → List Text
looked_in p s event step = cond step.refused [] (looked_by_entries p s step.state ++ looked_by_reads p s step.state event)

-- the ids that a line looks at from a state
abbrev pub looked : Project → (buffer : ℕ) → State → ℕ → Line → List Text
looked p buffer s n e.too_long = []
looked p buffer s n e.not_json = []
looked p buffer s n e.no_event = []
looked p buffer s n e.no_commands = []
looked p buffer s n (e.event event) = looked_in p s event (act p buffer s n event)
