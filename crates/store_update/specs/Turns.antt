-- The turns that ids take in an entry: an id that facts and commands name in a row takes one.
use Rattle.std.specs.Prelude.{◌≡◌, ◌&&◌, ℕ, leb, Bool, true, false, List, [], ◌∷◌, ◌++◌, map, cond, Option, Some, None}
use Rattle.std.specs.List.{count_by, list_all, prefix_len}
use Rattle.std.specs.Str.{bytes_eq}
use Rattle.store_conn.specs.store_record.Keys.{Text}
use Rattle.store_conn.specs.store_model.declared.command.Command.{Command}
use Rattle.store_conn.specs.store_model.declared.command.Command.TheVariants as C
use Rattle.store_conn.specs.store_model.declared.entry.Entry.{Entry}
use Rattle.store_conn.specs.store_model.declared.facts.Fact.{Fact}
use Rattle.store_conn.specs.store_model.declared.facts.FactRow.{FactRow}
use Rattle.store_update.specs.Slots.{id_of}

-- ---- commands of one id

-- a command that changes the slot of its own id alone
abbrev pub is_of_record : Command → Bool
is_of_record (C.Set id field args value) = true
is_of_record (C.Add id field args by) = true
is_of_record (C.Link id field args to) = true
is_of_record (C.Links id field args to) = true
is_of_record (C.Create id of) = true
is_of_record (C.Delete id) = true
is_of_record (C.AppendNode e) = false
is_of_record (C.PrependNode e) = false
is_of_record (C.DeleteEdge e) = false

-- whether a command changes the slot of that id alone
abbrev pub goes_with : Text → Command → Bool
goes_with id c = is_of_record c && bytes_eq (id_of c) id

-- commands that change the slot of one id alone
abbrev pub AreOf : Text → List Command → Type 0
AreOf id commands = list_all (goes_with id) commands ≡ true

-- how many commands behind one on a record are on the same, and none behind one on edges
abbrev pub run_behind : Command → List Command → ℕ
run_behind c later = cond (is_of_record c) (prefix_len (goes_with (id_of c)) later) 0

-- whether a command changes the slot of that id alone, where there is one
abbrev pub goes_on : Option Text → Command → Bool
goes_on None c = false
goes_on (Some id) c = goes_with id c

-- the id of the last row
abbrev pub last_id : List FactRow → Option Text
last_id [] = None
last_id (r ∷ []) = Some r.id
last_id (r ∷ s ∷ rows) = last_id (s ∷ rows)

-- ---- turns

-- an id before others, unless it stands first among them
abbrev pub turn_before : Text → List Text → List Text
turn_before id [] = id ∷ []
turn_before id (next ∷ ids) = cond (bytes_eq next id) (next ∷ ids) (id ∷ next ∷ ids)

-- ids, each once where it stands several times in a row
abbrev pub turns : List Text → List Text
turns [] = []
turns (id ∷ ids) = turn_before id (turns ids)

-- the turns of ids in the facts and then the commands of an entry
abbrev pub turns_of : Entry → List Text
turns_of e = turns (map (λ (f : Fact). f.id) e.facts.facts ++ map id_of e.commands)

-- an entry without pages, whose commands change the slots of their own ids alone
abbrev pub IsOfRecords : Entry → Type 0
IsOfRecords e = (e.facts.handles ≡ []) × (list_all is_of_record e.commands ≡ true)

-- how often an id stands among others, and whether that is more than once
abbrev pub times : List Text → Text → ℕ
times ids id = count_by (λ one. bytes_eq one id) ids

abbrev pub stands_again : List Text → Text → Bool
stands_again ids id = leb 2 (times ids id)

-- how many of ids stand among them more than once, as often as they stand there
abbrev pub number_again : List Text → ℕ
number_again ids = count_by (stands_again ids) ids
