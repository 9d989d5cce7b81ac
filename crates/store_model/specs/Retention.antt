-- What retention keeps: reads that leave spreads out, beside the reach that enters all of them.
use Rattle.std.specs.Prelude.{◌≡◌, ℕ, suc, ◌≤◌, Bool, true, false, List, [], ◌∷◌}
use Rattle.std.specs.List.{AllByRecursion}
use Rattle.store_record.specs.Keys.{Text, Arguments}
use Rattle.store_model.specs.Alike.{Among}
use Rattle.store_model.specs.Items.{Asked, Pointer, Item, asked, pointed, asked_of, Collect}
use Rattle.store_model.specs.Reaches.{reach_at}
use Rattle.store_model.specs.Walks.{Slots, Issued, Found, read_at, pointers_in_turn}

-- Deep holds of parts that are so deep, all their spreads entered; Tied of a pointer whose body is that of its fragment and
-- scope.
module _ {F : Type 0} (masked whole : Collect F) (Deep : ℕ → F → Type 0) (Tied : Pointer F → Type 0) where
  -- a field is one of the whole, and what a pointer's body gives is; what stands below is less deep, and each pointer is tied
  abbrev pub Covered : ℕ → Text → F → Item F → Type 0
  Covered n T f (asked a) = Among a (asked_of (whole T f)) × Deep n a.part
  Covered n T f (pointed p) = ((x : Asked F) → Among x (asked_of (whole T p.body)) → Among x (asked_of (whole T f))) × (Deep n p.body × Tied p)

  abbrev pub Covers : Type 0
  Covers = (n : ℕ) (T : Text) (f : F) → Deep (suc n) f → AllByRecursion (Covered n T f) (masked T f)

-- the read of a pointer: the parts of its fragment under its scope, at most so many records down
abbrev pub pointer_read : {F : Type 0} → Collect F → (Text → Text) → Text → ℕ → (Text → List Text) → (Text → Arguments → F) → Slots → Issued → Found
pointer_read masked typed owner most types_for body_of m i = read_at masked typed owner m most (types_for i.fragment) (body_of i.fragment i.scope ∷ []) i.id

-- a masked read, and the reads of the pointers that it gives, and in turn of those that these give, stay the same in every
-- map with the same slots at the ids of the reach
abbrev pub ReadsAreRetained : Type 0 → Type 0
ReadsAreRetained F = (masked whole : Collect F) (deep : ℕ → F → Bool) (tied : Pointer F → Bool) (typed : Text → Text) (owner : Text) (types_for : Text → List Text) (body_of : Text → Arguments → F)
    → Covers masked whole (λ n f. deep n f ≡ true) (λ p. tied p ≡ true)
    → ((f : F) → deep 0 f ≡ false)
    → ((p : Pointer F) → tied p ≡ true → p.body ≡ body_of p.fragment p.scope)
    → (m n : Slots) (most depth deeper turns : ℕ) → depth ≤ deeper → depth ≤ most → (types : List Text) (fs : List F) (id : Text)
    → AllByRecursion (λ f. deep depth f ≡ true) fs
    → AllByRecursion (λ j. m j ≡ n j) (reach_at whole typed m deeper types fs id)
    → (read_at masked typed owner n depth types fs id ≡ read_at masked typed owner m depth types fs id)
    × AllByRecursion (λ i. pointer_read masked typed owner most types_for body_of n i ≡ pointer_read masked typed owner most types_for body_of m i)
    (pointers_in_turn (pointer_read masked typed owner most types_for body_of m) turns (read_at masked typed owner m depth types fs id).1.issued)
