-- The laws of likeness for the widest relation.
use Rattle.std.proofs.Common.{◌≡◌, ℕ, zero, suc, Bool, true, false, true≢false, ◌∷◌, sym, refl, ◌∙◌, arith}
use Rattle.store_record.proofs.gql_plain_laws.Booleans.{both_ways}
use Rattle.store_record.specs.gql_plain.Order.{has_text}
use Rattle.store_record.specs.Keys.{Text}
use Rattle.store_model.proofs.AlikeReaches.{reach_same}
use Rattle.store_model.proofs.AlikeSays.{response_alike}
use Rattle.store_model.proofs.Deep.{LessDeep, reads_deep, reaches_deep}
use Rattle.store_model.proofs.Least.{Each, In, each_from, each_so, of_member}
use Rattle.store_model.proofs.Widest.{alike_keeps, AlikeEver, ever_keeps}
use Rattle.store_model.specs.Alike.{Alike}
use Rattle.store_model.specs.Items.{Item, asked, pointed, Collect}
use Rattle.store_model.specs.Laws.{ReachesAreAlike, ResponsesAreAlike, IsLessDeep, DepthsAreEnough}
use Rattle.store_model.specs.Reaches.{reach_at}

pub reach_alike : {F G : Type 0} → ReachesAreAlike F G
reach_alike collect gather typed m depth types fs gs id h j =
    let xs = reach_at collect typed m depth types fs id in
    let ys = reach_at gather typed m depth types gs id in
    let same = reach_same collect gather typed m (Alike collect gather) (alike_keeps collect gather) depth types fs gs id h in
    both_ways (has_text xs j) (has_text ys j)
    (of_member (λ k. In k ys) xs j ((same (λ k. In k ys)).1 (each_from (λ k. In k ys) ys (λ k there. there))))
    (of_member (λ k. In k xs) ys j ((same (λ k. In k xs)).0 (each_from (λ k. In k xs) xs (λ k there. there))))

pub responses_alike : {F G : Type 0} → ResponsesAreAlike F G
responses_alike collect gather root_type fs gs h response =
    response_alike (AlikeEver collect gather) collect gather (ever_keeps collect gather) root_type fs gs h response

less_deep : {F : Type 0} (collect : Collect F) (deep : ℕ → F → Bool) (n : ℕ) (x : Item F) → IsLessDeep deep n x → LessDeep collect (λ k f. deep k f ≡ true) n x
less_deep collect deep n (asked a) h = h
less_deep collect deep n (pointed p) h = h

pub depths_enough : {F : Type 0} → DepthsAreEnough F
depths_enough {F} collect deep typed owner m none less n depth le types f fs id h =
    let Deep : ℕ → F → Type 0 = λ k g. deep k g ≡ true in
    let below : (k : ℕ) (T : Text) (g : F) → Deep (suc k) g → Each (LessDeep collect Deep k) (collect T g)
    = λ k T g d. each_so (IsLessDeep deep k) (LessDeep collect Deep k) (collect T g) (less_deep collect deep k) (less k T g d) in
    let empty : (g : F) → Deep zero g → ⊥ = λ g e. true≢false (sym e ∙ none g) in
    let xs = reach_at collect typed m depth types (f ∷ fs) id in
    let ys = reach_at collect typed m n types (f ∷ fs) id in (
      reads_deep collect Deep below empty typed owner m n depth le types f fs id h,
      λ j. both_ways (has_text xs j) (has_text ys j)
          (of_member (λ k. In k ys) xs j (reaches_deep collect Deep below (λ k. In k ys) empty typed m n n depth (omega arith) le types f fs id h (each_from (λ k. In k ys) ys (λ k there. there))))
          (of_member (λ k. In k xs) ys j (reaches_deep collect Deep below (λ k. In k xs) empty typed m n depth n le (omega arith) types f fs id h (each_from (λ k. In k xs) xs (λ k there. there)))),
    )
