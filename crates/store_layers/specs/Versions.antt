-- The versions of the records that the layers keep.
use Rattle.std.specs.Prelude.{◌≡◌, ℕ, ◌+◌, ◌<◌, List, [], ◌∷◌, ◌++◌, map, drop, take, length, Bool, String, string_bytes}
use Rattle.std.specs.List.{flat_map, list_any, slice_range}
use Rattle.std.specs.declared.alloc.Global.{Global}
use Rattle.std.specs.declared.rc.Rc.{Rc}
use Rattle.store_update.specs.gql_plain.Order.{has_text}
use Rattle.store_update.specs.store_record.Keys.{Text}
use Rattle.store_update.specs.store_model.Entries.{apply}
use Rattle.store_update.specs.store_model.Records.{Records}
use Rattle.store_update.specs.store_model.declared.entry.Entry.{Entry}
use Rattle.store_update.specs.Touched.{AreTouched}
use Rattle.store_update.specs.declared.entry.Changed.{Changed}
use Rattle.store_layers.specs.Layered.{Layer, Layered, entries_of, below, from_on, above, without}

-- ---- what a version holds

-- the records after a layer, and the ids whose slot the layer changes
pub record Version : Type 0 where
  pub records : Records
  pub touched : List Text

abbrev pub shown : {S C : Type 0} → (S → Records) → List (Changed S C) → List Version
shown records versions = map (λ v. record { records = records v.source; touched = v.touched }) versions

-- the entry of each layer, one after another, leads to its version
abbrev pub AreVersions : Records → List Entry → List Version → Type 0
AreVersions m [] [] = Unit {0}
AreVersions m [] (v ∷ vs) = ⊥
AreVersions m (e ∷ es) [] = ⊥
AreVersions m (e ∷ es) (v ∷ vs) = (v.records ≡ apply e m) × AreTouched m (apply e m) v.touched × AreVersions (apply e m) es vs

-- the newest records: those of the last version, or the base where there is none
abbrev pub newest : Records → List Version → Records
newest m [] = m
newest m (v ∷ vs) = newest v.records vs

-- the ids that versions change, those of one after another
abbrev pub touched_by : List Version → List Text
touched_by versions = flat_map (λ (v : Version). v.touched) versions

-- whether a version changes the slot of an id
abbrev pub is_noted : List Version → Text → Bool
is_noted versions id = list_any (λ (v : Version). has_text v.touched id) versions

-- ---- layers by name

-- the name and the entry of a layer
abbrev pub layer_of : String Global × Rc Entry Global → Layer
layer_of named = (string_bytes named.0, named.1.value)

abbrev pub layers_of : List (String Global × Rc Entry Global) → List Layer
layers_of named = map layer_of named

-- the records of a base and layers
abbrev pub layered_of : Records → List (String Global × Rc Entry Global) → Layered
layered_of base named = record { base = base; live = layers_of named }

-- the entries of the layers from one place up to another
abbrev pub entries_within : ℕ → ℕ → List (String Global × Rc Entry Global) → List Entry
entries_within from end named = slice_range (entries_of (layers_of named)) from end

-- a list but for what stands at a place
abbrev pub all_but : {X : Type 0} → ℕ → List X → List X
all_but at xs = take at xs ++ drop (at + 1) xs

-- the place of the first layer of a name, and the layers around it
pub record IsPlaceOf (name : Text) (layers : List Layer) (at : ℕ) : Type 0 where
  pub within : at < length layers
  pub below : below name layers ≡ take at layers
  pub from_on : from_on name layers ≡ drop at layers
  pub above : above name layers ≡ drop (at + 1) layers
  pub without : without name layers ≡ take at layers ++ drop (at + 1) layers

-- each live layer has its version
pub record AreKept (base : Records) (layers : List Layer) (kept : List Version) : Type 0 where
  pub versions : AreVersions base (entries_of layers) kept
