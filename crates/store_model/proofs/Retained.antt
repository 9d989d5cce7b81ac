-- A sweep that keeps the ids of a reach keeps what its masked read, and in turn the reads of its pointers, give.
use Rattle.std.proofs.Common.{◌≡◌, ℕ, suc, ◌≤◌, true, true≢false, List, [], ◌∷◌, sym, ◌∙◌}
use Rattle.store_record.specs.Keys.{Text}
use Rattle.store_model.proofs.Deep.{LessDeep, read_deep}
use Rattle.store_model.proofs.Kept.{kept_in_turn, all_in_turn}
use Rattle.store_model.proofs.Least.{Each, each_so}
use Rattle.store_model.proofs.SameSlots.{read_same_seen}
use Rattle.store_model.proofs.Seated.{each_among, among_all}
use Rattle.store_model.specs.Items.{Pointer, Item, asked, pointed, Collect}
use Rattle.store_model.specs.Retention.{Covered, pointer_read, ReadsAreRetained}
use Rattle.store_model.specs.Walks.{read_at, pointers_in_turn}

less_deep : {F : Type 0} (masked whole : Collect F) (Deep : ℕ → F → Type 0) (Tied : Pointer F → Type 0) (n : ℕ) (T : Text) (f : F) (x : Item F) → Covered masked whole Deep Tied n T f x → LessDeep masked Deep n x
less_deep masked whole Deep Tied n T f (asked a) h = h.1
less_deep masked whole Deep Tied n T f (pointed p) h = h.1.0

pub reads_retained : {F : Type 0} → ReadsAreRetained F
reads_retained {F} masked whole deep tied typed owner types_for body_of covers none bodies m n most depth deeper turns le short types fs id depths reach =
    let Deep : ℕ → F → Type 0 = λ k f. deep k f ≡ true in
    let Tied : Pointer F → Type 0 = λ p. tied p ≡ true in
    let less : (k : ℕ) (T : Text) (f : F) → Deep (suc k) f → Each (LessDeep masked Deep k) (masked T f)
    = λ k T f h. each_so (Covered masked whole Deep Tied k T f) (LessDeep masked Deep k) (masked T f) (less_deep masked whole Deep Tied k T f) (covers k T f h) in
    let enough : (k : ℕ) → k ≤ most → (types : List Text) (f : F) (id : Text) → Deep k f → read_at masked typed owner m most types (f ∷ []) id ≡ read_at masked typed owner m k types (f ∷ []) id
    = λ k short types f id h. read_deep masked Deep less (λ g e. true≢false (sym e ∙ none g)) typed owner m k most short types f id h in
    let held = kept_in_turn masked whole Deep Tied covers typed owner m most types_for body_of bodies enough (λ j. m j ≡ n j) (suc turns) depth deeper le short types types fs fs id
    (λ name is h. h) (λ name is. each_among _ fs (λ f h x here. among_all whole (typed name) f fs x h here)) depths reach in (
      read_same_seen masked typed owner m n depth types fs id held.0,
      each_so _ _ (pointers_in_turn (pointer_read masked typed owner most types_for body_of m) turns (read_at masked typed owner m depth types fs id).1.issued)
          (λ i seen. read_same_seen masked typed owner m n most (types_for i.fragment) (body_of i.fragment i.scope ∷ []) i.id seen)
          (all_in_turn masked whole Deep Tied covers typed owner m most types_for body_of bodies enough (λ j. m j ≡ n j) turns (read_at masked typed owner m depth types fs id).1.issued held.1),
    )
