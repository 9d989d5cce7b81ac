-- The rows of watches, and what the index has of them.
use Rattle.std.specs.Prelude.{◌≡◌, ℕ, zero, suc, ◌<◌, Bool, false, List, [], ◌∷◌, map, Option, Some, None, String, string_bytes}
use Rattle.std.specs.List.{AllByRecursion}
use Rattle.std.specs.declared.alloc.Global.{Global}
use Rattle.store_read.specs.Reading.{reading_of}
use Rattle.store_read.specs.declared.snapshot.Snapshot.{Snapshot}
use Rattle.plan_ir.specs.store_record.Keys.{Text}
use Rattle.store_watch.specs.Numbers.{IsComplete, Rises, Seen, Table, number_at, numbers_of, seen_at}
use Rattle.store_watch.specs.Watching.{Look, Telling, Watch, meets}
use Rattle.store_watch.specs.declared.notices.Notice.{Notice}
use Rattle.store_watch.specs.declared.rows.Row.{Row}
use Rattle.store_watch.specs.declared.watched.Watched.{Watched}

abbrev pub look_of : Watched → Look
look_of what = record {
  handle = what.handle;
  fragment = what.fragment;
  root = what.env.value.root;
  environment = what.env.value.values;
  steps = what.plan.value.steps;
  types = what.types;
  id = what.id;
}

-- a row under its name
abbrev pub watch_of : String Global × Row → Watch
watch_of named = record { name = string_bytes named.0; what = look_of named.1.what; kept = reading_of named.1.kept }

abbrev pub watches_of : List (String Global × Row) → List Watch
watches_of named = map watch_of named

abbrev pub seen_of : List Row → List Seen
seen_of rows = map (λ r. (r.number, r.kept.seen)) rows

-- the rows with a snapshot in place of the one at a place
abbrev pub with_snapshot : List (String Global × Row) → ℕ → Snapshot → List (String Global × Row)
with_snapshot [] place s = []
with_snapshot (e ∷ es) zero s = (e.0, record { number = e.1.number; what = e.1.what; kept = s }) ∷ es
with_snapshot (e ∷ es) (suc place) s = e ∷ with_snapshot es place s

-- the number at a place, or none where the ids are the ones that were seen there
abbrev pub IsNumberAt : List Seen → ℕ → List Text → Option ℕ → Type 0
IsNumberAt ws place ids None = ids ≡ seen_at ws place
IsNumberAt ws place ids (Some n) = n ≡ number_at ws place

-- whether a row saw a touched id
abbrev pub met_by : List Text → Row → Bool
met_by touched r = meets r.kept.seen touched

abbrev pub telling_of : Notice → Telling
telling_of n = record { place = n.place; gives = reading_of n.snapshot; told = n.told }

abbrev pub tellings_of : List Notice → List Telling
tellings_of ns = map telling_of ns

-- numbers rise, and the index and the late ones find every watch, unless all are to be looked at
pub record IsSound (table : Table) (late : List ℕ) (all : Bool) (next : ℕ) (ws : List Seen) : Type 0 where
  pub complete : all ≡ false → IsComplete table late ws
  pub rises : Rises (numbers_of ws)
  pub below : AllByRecursion (λ (w : Seen). w.0 < next) ws
