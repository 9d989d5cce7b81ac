-- What a walk that writes met so far, with the ids that it stood at: one that is the last id kept is not kept again.
use Rattle.std.specs.Prelude.{Bool, false, ◌||◌, cond, List, [], ◌∷◌, ◌++◌, Option, Some, None}
use Rattle.std.specs.List.{last_or}
use Rattle.std.specs.Str.{bytes_eq}
use Rattle.plan_ir.specs.store_model.Walks.{Trace}
use Rattle.store_read.specs.Meeting.{Meeting}
use Rattle.plan_ir.specs.store_record.Keys.{Text}

-- whether there is a text, and it is this one
abbrev pub is_text : Option Text → Text → Bool
is_text None id = false
is_text (Some text) id = bytes_eq text id

-- whether the last of the ids is this one
abbrev pub ends_with : List Text → Text → Bool
ends_with kept id = is_text (last_or None kept) id

-- the ids with one more at the end, unless it is there
abbrev pub stood_at : List Text → Text → List Text
stood_at kept id = cond (ends_with kept id) kept (kept ++ id ∷ [])

-- the ids with more of them, one after another
abbrev pub stood_all : List Text → List Text → List Text
stood_all kept [] = kept
stood_all kept (id ∷ ids) = stood_all (stood_at kept id) ids

-- and then what a trace tells
abbrev pub stood_onto : Meeting → Trace → Meeting
stood_onto m t = record { missing = m.missing || t.missing; seen = stood_all m.seen t.seen }
