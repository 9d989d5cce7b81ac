-- What is read at places of rows.
use Rattle.std.specs.Prelude.{ℕ, ◌+◌, List, [], ◌∷◌, ◌++◌, slice_get}
use Rattle.std.specs.Option.{option_map_or}
use Rattle.plan_ir.specs.store_model.Walks.{Slots, standings}
use Rattle.store_read.specs.Reading.{reading_of}
use Rattle.store_watch.specs.Rows.{look_of}
use Rattle.store_watch.specs.Watching.{Telling, differs, read_of, shows}
use Rattle.store_watch.specs.declared.rows.Row.{Row}

abbrev pub telling_at : Slots → ℕ → Row → Telling
telling_at m place r = record { place = place; gives = shows m (look_of r.what); told = differs (reading_of r.kept) (shows m (look_of r.what)) }

-- the notice of the row at a place, where there is one
abbrev pub told_at : Slots → List Row → ℕ → List Telling
told_at m rows place = option_map_or (λ r. telling_at m place r ∷ []) (slice_get rows place) []

abbrev pub told_of : Slots → List Row → List ℕ → List Telling
told_of m rows [] = []
told_of m rows (place ∷ places) = told_at m rows place ++ told_of m rows places

-- how often the read of that row stands at records
abbrev pub work_at : Slots → List Row → ℕ → ℕ
work_at m rows place = option_map_or (λ r. standings (read_of m (look_of r.what))) (slice_get rows place) 0

abbrev pub work_of : Slots → List Row → List ℕ → ℕ
work_of m rows [] = 0
work_of m rows (place ∷ places) = work_at m rows place + work_of m rows places
