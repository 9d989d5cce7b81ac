-- Entries over a base, and over what a sweep left of it: what is the same in both.
use Rattle.std.specs.Prelude.{◌≡◌, ℕ, ◌≤◌, Bool, true, false, ◌||◌, List, [], ◌∷◌, ◌++◌, codes, nat_eq, Option, Some, None}
use Rattle.std.specs.List.{AllByRecursion, starts_with}
use Rattle.store_model.specs.gql_plain.Order.{has_text}
use Rattle.store_model.specs.store_record.Keys.{Text, Arguments}
use Rattle.store_model.specs.store_record.declared.field.Field.{Field}
use Rattle.store_model.specs.store_record.declared.record.Slot.{Slot}
use Rattle.store_model.specs.store_record.declared.record.Slot.TheVariants.{Deleted, Alive}
use Rattle.store_model.specs.Enough.{SameAt}
use Rattle.store_model.specs.Items.{Pointer, Collect}
use Rattle.store_model.specs.Reaches.{reach_at}
use Rattle.store_model.specs.Retention.{Covers, pointer_read}
use Rattle.store_model.specs.Walks.{Slots, read_at, pointers_in_turn}
use Rattle.store_model.specs.Entries.{ids_in, some_id, ids_named, all_named, apply, fold_entries}
use Rattle.store_model.specs.Leads.{leads}
use Rattle.store_model.specs.Merge.{link_of, info_id}
use Rattle.store_model.specs.Records.{Records, slot_at, with_slot}
use Rattle.store_model.specs.Said.{HaveHandleKeys}
use Rattle.store_model.specs.Sweeps.{sweep, dropped}
use Rattle.store_model.specs.declared.entry.Entry.{Entry}

-- ---- a set of ids that entries do not lead out of

-- as the handle key of a connection does
abbrev pub is_handle : Text → Bool
is_handle key = starts_with nat_eq key (codes "__")

abbrev pub Held : (Text → Bool) → Text → Type 0
Held holds id = holds id ≡ true

abbrev pub HeldWithInfo : (Text → Bool) → Text → Type 0
HeldWithInfo holds id = (holds id ≡ true) × (holds (info_id id) ≡ true)

-- the ids that a field links to are in the set; under a handle key the page information of the one linked to is too
abbrev pub FieldStays : (Text → Bool) → Text × Field → Type 0
FieldStays holds f = AllByRecursion (Held holds) (ids_in f.1) × (is_handle f.0 ≡ true → AllByRecursion (λ id. holds (info_id id) ≡ true) (some_id (link_of f.1)))

abbrev pub FieldsStay : (Text → Bool) → List (Text × Field) → Type 0
FieldsStay holds fields = AllByRecursion (FieldStays holds) fields

abbrev pub SlotStays : (Text → Bool) → Slot → Type 0
SlotStays holds Deleted = Unit {0}
SlotStays holds (Alive row) = FieldsStay holds row.fields

abbrev pub Stays : (Text → Bool) → Option Slot → Type 0
Stays holds None = Unit {0}
Stays holds (Some slot) = SlotStays holds slot

-- both maps have the same slots in the set, and no live record of it leads out
pub record AreWithin (holds : Text → Bool) (m n : Records) : Type 0 where
  pub same : (id : Text) → holds id ≡ true → SameAt m n id
  pub stays : (id : Text) → holds id ≡ true → Stays holds (slot_at id m)

-- what an entry names is in the set, with its page information; and its handle keys are such
pub record IsNamedIn (holds : Text → Bool) (e : Entry) : Type 0 where
  pub named : AllByRecursion (HeldWithInfo holds) (ids_named e)
  pub keys : HaveHandleKeys e.facts.handles

-- ---- writes

abbrev pub write_all : List (Text × Slot) → Records → Records
write_all [] m = m
write_all (w ∷ ws) m = write_all ws (with_slot w.0 w.1 m)

abbrev pub ids_written : List (Text × Slot) → List Text
ids_written [] = []
ids_written (w ∷ ws) = w.0 ∷ ids_written ws

-- the set with the ids that were written
abbrev pub grown : (Text → Bool) → List (Text × Slot) → Text → Bool
grown holds ws id = holds id || has_text (ids_written ws) id

-- ---- one step on both maps

-- from maps m and n to a and b: they are within a larger set, have the same slot wherever they had it, and outside of the
-- larger set each is as before
pub record Goes (holds : Text → Bool) (m n a b : Records) : Type 0 where
  pub larger : Text → Bool
  pub wider : (id : Text) → holds id ≡ true → larger id ≡ true
  pub within : AreWithin larger a b
  pub same : (id : Text) → SameAt m n id → SameAt a b id
  pub outside : (id : Text) → larger id ≡ false → SameAt a m id × SameAt b n id

-- ---- laws

-- some of the entries, in their order
abbrev pub chosen : List Bool → List Entry → List Entry
chosen [] es = []
chosen (b ∷ bs) [] = []
chosen (true ∷ bs) (e ∷ es) = e ∷ chosen bs es
chosen (false ∷ bs) (e ∷ es) = chosen bs es

-- within a set that an entry does not lead out of, it does the same on both maps, and leads out of the larger set no more
abbrev pub EntriesStayWithin : Type 0
EntriesStayWithin = (holds : Text → Bool) (e : Entry) (m n : Records) → AreWithin holds m n → IsNamedIn holds e → Goes holds m n (apply e m) (apply e n)

-- what ids lead to is such a set, for a base and for what a sweep leaves of it that keeps them all
abbrev pub LeadsAreWithin : Type 0
LeadsAreWithin = (m : Records) (ids : List Text) (keep : Text → Bool)
    → ((id : Text) → has_text (leads m ids) id ≡ true → keep id ≡ true)
    → AreWithin (has_text (leads m ids)) m (sweep keep m)

-- for each choice of the entries: their fold over the base and over the swept base differs at most at the ids that are
-- taken out
abbrev pub SweepsAreUnderLayers : Type 0
SweepsAreUnderLayers = (base : Records) (entries : List Entry) (keep : Text → Bool) (choice : List Bool)
    → AllByRecursion (λ e. HaveHandleKeys e.facts.handles) entries
    → ((id : Text) → has_text (leads base (all_named entries)) id ≡ true → keep id ≡ true)
    → (id : Text) → has_text (dropped keep base) id ≡ false
    → SameAt (fold_entries (chosen choice entries) base) (fold_entries (chosen choice entries) (sweep keep base)) id

-- maps with the same slots at all that ids lead to in the one: the ids lead to the same in the other
abbrev pub LeadsAreEnough : Type 0
LeadsAreEnough = (m n : Records) (ids : List Text) → ((id : Text) → has_text (leads m ids) id ≡ true → SameAt m n id)
    → (id : Text) → has_text (leads m ids) id ≡ has_text (leads n ids) id

-- ---- reads under layers

abbrev pub slots_in : Records → Slots
slots_in m id = slot_at id m

-- a base, entries over it, and what a sweep is to keep: all that the entries lead to
pub record IsKeptUnder (base : Records) (entries : List Entry) (keep : Text → Bool) : Type 0 where
  pub keys : AllByRecursion (λ e. HaveHandleKeys e.facts.handles) entries
  pub led : (id : Text) → has_text (leads base (all_named entries)) id ≡ true → keep id ≡ true

-- where the ids of a reach in the base are kept, the ids of the reach in the fold of chosen entries over it have the same slots in
-- their fold over the swept base
abbrev pub ReachesStayUnderLayers : Type 0 → Type 0
ReachesStayUnderLayers F = (collect : Collect F) (typed : Text → Text) (base : Records) (entries : List Entry) (keep : Text → Bool) (choice : List Bool) → IsKeptUnder base entries keep
    → (depth : ℕ) (types : List Text) (fs : List F) (id : Text) → AllByRecursion (λ j. keep j ≡ true) (reach_at collect typed (slots_in base) depth types fs id)
    → AllByRecursion (SameAt (fold_entries (chosen choice entries) base) (fold_entries (chosen choice entries) (sweep keep base)))
    (reach_at collect typed (slots_in (fold_entries (chosen choice entries) base)) depth types fs id)

-- so a masked read, and the reads of the pointers that it gives, and in turn of those that these give, are the same in both folds
abbrev pub ReadsStayUnderLayers : Type 0 → Type 0
ReadsStayUnderLayers F = (masked whole : Collect F) (deep : ℕ → F → Bool) (tied : Pointer F → Bool) (typed : Text → Text) (owner : Text) (types_for : Text → List Text) (body_of : Text → Arguments → F)
    → Covers masked whole (λ n f. deep n f ≡ true) (λ p. tied p ≡ true)
    → ((f : F) → deep 0 f ≡ false)
    → ((p : Pointer F) → tied p ≡ true → p.body ≡ body_of p.fragment p.scope)
    → (base : Records) (entries : List Entry) (keep : Text → Bool) (choice : List Bool) → IsKeptUnder base entries keep
    → (most depth deeper turns : ℕ) → depth ≤ deeper → depth ≤ most → (types : List Text) (fs : List F) (id : Text)
    → AllByRecursion (λ f. deep depth f ≡ true) fs
    → AllByRecursion (λ j. keep j ≡ true) (reach_at whole typed (slots_in base) deeper types fs id)
    → (read_at masked typed owner (slots_in (fold_entries (chosen choice entries) (sweep keep base))) depth types fs id
    ≡ read_at masked typed owner (slots_in (fold_entries (chosen choice entries) base)) depth types fs id)
    × AllByRecursion (λ i. pointer_read masked typed owner most types_for body_of (slots_in (fold_entries (chosen choice entries) (sweep keep base))) i
    ≡ pointer_read masked typed owner most types_for body_of (slots_in (fold_entries (chosen choice entries) base)) i)
    (pointers_in_turn (pointer_read masked typed owner most types_for body_of (slots_in (fold_entries (chosen choice entries) base))) turns
    (read_at masked typed owner (slots_in (fold_entries (chosen choice entries) base)) depth types fs id).1.issued)
