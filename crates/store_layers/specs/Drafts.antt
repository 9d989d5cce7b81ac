-- Changes of the layers that are built aside, and what is there once they are settled.
use Rattle.std.specs.Prelude.{◌≡◌, ℕ, ◌+◌, ◌<◌, List, Option, None, Some, take, drop, length, false}
use Rattle.store_update.specs.store_model.Entries.{apply, fold_entries}
use Rattle.store_update.specs.store_model.Records.{Records}
use Rattle.store_update.specs.store_model.declared.entry.Entry.{Entry}
use Rattle.store_update.specs.Touched.{AreTouched}
use Rattle.store_layers.specs.Layered.{Layered, begun, entries_of, is_live, view_of}
use Rattle.store_layers.specs.Versions.{AreVersions, all_but, shown}
use Rattle.store_layers.specs.declared.drafts.Draft.{Draft}
use Rattle.store_layers.specs.declared.drafts.Placing.{Placing}
use Rattle.store_layers.specs.declared.drafts.Placing.TheVariants as P

-- a list, or all but what stands at the place that goes
abbrev pub left_of : {X : Type 0} → Option ℕ → List X → List X
left_of None xs = xs
left_of (Some at) xs = all_but at xs

-- the place that goes is one of the list's
abbrev pub IsWithin : {X : Type 0} → Option ℕ → List X → Type 0
IsWithin None xs = Unit {0}
IsWithin (Some at) xs = at < length xs

-- ---- the calls, where the layer that goes is known by its place

-- a layer is dropped, and then an entry is confirmed
abbrev pub finished_at : ℕ → Entry → Layered → Layered
finished_at at e from = record { base = apply e from.base; live = all_but at from.live }

-- a layer is dropped
abbrev pub reverted_at : ℕ → Layered → Layered
reverted_at at from = record { base = from.base; live = all_but at from.live }

-- ---- the layers, once a change of them is settled

abbrev pub placed_by : {S C : Type 0} → (S → Records) → Layered → Placing S C → Layered
placed_by records from P.Kept = from
placed_by records from (P.Begun name entry version) = begun name entry from
placed_by records from (P.Reverted at versions) = reverted_at at from
placed_by records from (P.Confirmed base gone versions) = record { base = records base; live = left_of gone from.live }

abbrev pub placed : {S C : Type 0} → (S → Records) → Layered → Draft S C → Layered
placed records from draft = placed_by records from draft.placing

-- ---- what a change holds is right for the layers that it is of

abbrev pub Suits : {S C : Type 0} → (S → Records) → Layered → Placing S C → Type 0
Suits records from P.Kept = Unit {0}
Suits records from (P.Begun name entry version) =
    (is_live from.live name ≡ false) × (records version.source ≡ apply entry (view_of from)) × AreTouched (view_of from) (records version.source) version.touched
Suits records from (P.Reverted at versions) =
    (at < length from.live) × AreVersions (fold_entries (take at (entries_of from.live)) from.base) (drop (at + 1) (entries_of from.live)) (shown records versions.items)
Suits records from (P.Confirmed base gone versions) =
    IsWithin gone from.live × AreVersions (records base) (left_of gone (entries_of from.live)) (shown records versions.items)

-- a change is of these layers, and what it shows is their view once it is settled
pub record Fits {S C : Type 0} (records : S → Records) (from : Layered) (draft : Draft S C) : Type 0 where
  pub suits : Suits records from draft.placing
  pub view : records draft.view ≡ view_of (placed records from draft)
