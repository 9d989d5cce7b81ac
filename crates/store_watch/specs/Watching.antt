-- Watches: what a plan shows of a record, kept since it was read last, and which watches a change of the records tells of (this project's own).
use Rattle.std.specs.Prelude.{◌≡◌, ℕ, zero, suc, ◌+◌, ◌||◌, Bool, true, false, not, List, [], ◌∷◌, cond, bytes_eq, Option}
use Rattle.std.specs.Bool.{beq}
use Rattle.std.specs.List.{AllByRecursion, list_any}
use Rattle.plan_ir.specs.gql_plain.Equal.{tree_eq}
use Rattle.plan_ir.specs.gql_plain.Order.{has_text}
use Rattle.plan_ir.specs.Reader.{Reader}
use Rattle.plan_ir.specs.ReaderMeaning.{plan_reads}
use Rattle.plan_ir.specs.schema_types.Environments.{Values}
use Rattle.plan_ir.specs.store_model.Walks.{Found, Reading, Slots, reading, standings, type_of_record}
use Rattle.plan_ir.specs.store_record.Keys.{Text}

-- what a watch shows: the plan of an operation, or of a fragment, under an environment, of the record at an id, which may be of these types
pub record Look : Type 0 where
  pub handle : Text
  pub fragment : Option Text
  pub root : Text
  pub environment : Values
  pub steps : Reader
  pub types : List Text
  pub id : Text

-- a watch: its name, what it shows, and what its read gave the last time
pub record Watch : Type 0 where
  pub name : Text
  pub what : Look
  pub kept : Reading

-- the read of a watch in records; its handle owns the pointers
abbrev pub read_of : Slots → Look → Found
read_of m look = plan_reads (type_of_record look.root) look.handle m look.environment look.steps look.types look.id

abbrev pub shows : Slots → Look → Reading
shows m look = reading (read_of m look)

-- ---- watches by name, in order of start

abbrev pub is_live : List Watch → Text → Bool
is_live ws name = list_any (λ (w : Watch). bytes_eq name w.name) ws

-- whether a watch shows a plan of the handle
abbrev pub uses : List Watch → Text → Bool
uses ws handle = list_any (λ (w : Watch). bytes_eq w.what.handle handle) ws

-- all but the one of the name
abbrev pub without : Text → List Watch → List Watch
without name [] = []
without name (w ∷ ws) = cond (bytes_eq name w.name) ws (w ∷ without name ws)

abbrev pub with_kept : List Watch → ℕ → Reading → List Watch
with_kept [] place gives = []
with_kept (w ∷ ws) zero gives = record { name = w.name; what = w.what; kept = gives } ∷ ws
with_kept (w ∷ ws) (suc place) gives = w ∷ with_kept ws place gives

-- ---- notices

-- the place of a watch, what its read gives now, and whether this is told
pub record Telling : Type 0 where
  pub place : ℕ
  pub gives : Reading
  pub told : Bool

-- whether the data or the missing mark differs
abbrev pub differs : Reading → Reading → Bool
differs old new = not (beq old.missing new.missing) || not (tree_eq old.value new.value)

abbrev pub notice_of : Slots → ℕ → Watch → Telling
notice_of m place w = record { place = place; gives = shows m w.what; told = differs w.kept (shows m w.what) }

-- whether ids that were seen are among the touched ones
abbrev pub meets : List Text → List Text → Bool
meets seen touched = list_any (has_text touched) seen

-- the notices of the watches that saw a touched id, in order of start; the first watch has the given place
abbrev pub notices_from : Slots → (touched : List Text) → ℕ → List Watch → List Telling
notices_from m touched place [] = []
notices_from m touched place (w ∷ ws) =
    cond (meets w.kept.seen touched) (notice_of m place w ∷ notices_from m touched (suc place) ws) (notices_from m touched (suc place) ws)

abbrev pub notices : Slots → (touched : List Text) → List Watch → List Telling
notices m touched ws = notices_from m touched 0 ws

-- how often the reads of these watches stand at records
abbrev pub work : Slots → (touched : List Text) → List Watch → ℕ
work m touched [] = 0
work m touched (w ∷ ws) = cond (meets w.kept.seen touched) (standings (read_of m w.what)) 0 + work m touched ws

-- the watches keep what notices give
abbrev pub accepted : List Telling → List Watch → List Watch
accepted [] ws = ws
accepted (n ∷ ns) ws = accepted ns (with_kept ws n.place n.gives)

-- ---- what a change of the records leaves

-- each watch keeps what its read gives in these records
abbrev pub AreShown : Slots → List Watch → Type 0
AreShown m ws = AllByRecursion (λ (w : Watch). w.kept ≡ shows m w.what) ws

-- so does each watch that no notice is of
abbrev pub OthersAreShown : Slots → (touched : List Text) → List Watch → Type 0
OthersAreShown m touched ws = AllByRecursion (λ (w : Watch). meets w.kept.seen touched ≡ false → w.kept ≡ shows m w.what) ws

-- slots that differ at touched ids alone
abbrev pub DifferAt : (touched : List Text) → Slots → Slots → Type 0
DifferAt touched m n = (id : Text) → has_text touched id ≡ false → m id ≡ n id
