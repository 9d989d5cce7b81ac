-- What is sorted of moved texts is sorted of the texts.
use Rattle.std.proofs.Common.{List, ℕ}
use Rattle.std.proofs.lemmas.List.Sorted.{Contains-permutation, IsPermutation-sym}
use Rattle.std.specs.List.Sorted.{IsPermutation}
use Rattle.gql_plain.specs.Order.{AreInOrder, AreSortedOf}

pub in_order_of_moved : (given moved : List (List ℕ)) → IsPermutation given moved → AreInOrder moved → AreSortedOf given moved
in_order_of_moved given moved is order = (
  order,
  λ text. (
    λ h. Contains-permutation moved given text (IsPermutation-sym given moved is) h,
    λ h. Contains-permutation given moved text is h,
  ),
)

pub sorted_of_moved : (given moved sorted : List (List ℕ)) → IsPermutation given moved → AreSortedOf moved sorted → AreSortedOf given sorted
sorted_of_moved given moved sorted is are = (
  are.0,
  λ text. (
    λ h. Contains-permutation moved given text (IsPermutation-sym given moved is) ((are.1 text).0 h),
    λ h. (are.1 text).1 (Contains-permutation given moved text is h),
  ),
)
