-- A base of records with layers over it, and what the calls make of them (this project's own).
use Rattle.std.specs.Prelude.{List, [], ◌∷◌, ◌++◌, map, Bool, cond, bytes_eq}
use Rattle.std.specs.List.{list_any}
use Rattle.store_update.specs.gql_plain.Order.{has_text}
use Rattle.store_update.specs.store_record.Keys.{Text}
use Rattle.store_update.specs.store_model.Entries.{apply, fold_entries}
use Rattle.store_update.specs.store_model.Records.{Records}
use Rattle.store_update.specs.store_model.Sweeps.{sweep}
use Rattle.store_update.specs.store_model.declared.entry.Entry.{Entry}

-- the name of a layer, and its entry
abbrev pub Layer : Type 0
Layer = Text × Entry

-- the records that are confirmed, and the live layers in order of start
pub record Layered : Type 0 where
  pub base : Records
  pub live : List Layer

abbrev pub entries_of : List Layer → List Entry
entries_of layers = map (λ (l : Layer). l.1) layers

-- the base with the entries of the live layers applied to it, in order of start
abbrev pub view_of : Layered → Records
view_of s = fold_entries (entries_of s.live) s.base

abbrev pub is_live : List Layer → Text → Bool
is_live layers name = list_any (λ (l : Layer). bytes_eq name l.0) layers

-- ---- the layers around the first one of a name

-- those that started before it
abbrev pub below : Text → List Layer → List Layer
below name [] = []
below name (l ∷ ls) = cond (bytes_eq name l.0) [] (l ∷ below name ls)

-- it, and those that started after it
abbrev pub from_on : Text → List Layer → List Layer
from_on name [] = []
from_on name (l ∷ ls) = cond (bytes_eq name l.0) (l ∷ ls) (from_on name ls)

-- those that started after it
abbrev pub above : Text → List Layer → List Layer
above name [] = []
above name (l ∷ ls) = cond (bytes_eq name l.0) ls (above name ls)

-- all but it
abbrev pub without : Text → List Layer → List Layer
without name [] = []
without name (l ∷ ls) = cond (bytes_eq name l.0) ls (l ∷ without name ls)

-- ---- the calls

-- an entry is confirmed below all layers
abbrev pub committed : Entry → Layered → Layered
committed e s = record { base = apply e s.base; live = s.live }

-- a layer starts above all others
abbrev pub begun : Text → Entry → Layered → Layered
begun name e s = record { base = s.base; live = s.live ++ (name, e) ∷ [] }

-- a layer is dropped, and then an entry is confirmed
abbrev pub finished : Text → Entry → Layered → Layered
finished name e s = record { base = apply e s.base; live = without name s.live }

-- a layer is dropped
abbrev pub reverted : Text → Layered → Layered
reverted name s = record { base = s.base; live = without name s.live }

-- the base without the ids that are not kept
abbrev pub swept : List Text → Layered → Layered
swept keep s = record { base = sweep (has_text keep) s.base; live = s.live }
