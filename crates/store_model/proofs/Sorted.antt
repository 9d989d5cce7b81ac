-- Lists whose elements rise strictly.
use Rattle.std.proofs.Common.{◌≡◌, List, [], ◌∷◌, ◌++◌, Ordering, Less}
use Rattle.std.specs.List.{AllByRecursion}
use Rattle.std.specs.List.Sorted.{IsStrictlySortedBy}

pub sorted-none : {X : Type 0} (c : X → X → Ordering) → IsStrictlySortedBy c []
unfolding IsStrictlySortedBy
sorted-none c = tt

below_push : {X : Type 0} (P : X → Type 0) (xs : List X) (x : X) → AllByRecursion P xs → P x → AllByRecursion P (xs ++ x ∷ [])
below_push P [] x all here = (here, tt)
below_push P (y ∷ xs) x all here = (all.0, below_push P xs x all.1 here)

-- an element that stands after each of the list keeps the order
pub sorted-push : {X : Type 0} (c : X → X → Ordering) (xs : List X) (x : X) → IsStrictlySortedBy c xs → AllByRecursion (λ y. c y x ≡ Less) xs → IsStrictlySortedBy c (xs ++ x ∷ [])
unfolding IsStrictlySortedBy
sorted-push c [] x order after = (tt, tt)
sorted-push c (y ∷ xs) x order after = (below_push (λ z. c y z ≡ Less) xs x order.0 after.0, sorted-push c xs x order.1 after.1)
