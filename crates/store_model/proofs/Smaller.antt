-- A value that is found in an object or an array is less deep.
use Rattle.std.proofs.Common.{ℕ, zero, suc, ◌≤◌, ◌<◌, max, List, Option, Some, None, Ordering, Less, Equal, Greater, subst, arith, nat_cmp}
use Rattle.std.proofs.Math.Nat.{le-max_left, le-max_right}
use Rattle.std.specs.Cmp.Lexicographic.{slice_cmp}
use Rattle.std.specs.Ordering.{match_ordering}
use Rattle.serde_json.specs.Data as J
use Rattle.serde_json.specs.Find.{get_member, get_item}
use Rattle.store_model.specs.Smaller.{FoundIsSmaller}

abbrev depth_of : Option J.Data → ℕ
depth_of None = 0
depth_of (Some d) = J.depth d

later : (a b n : ℕ) → n ≤ b → n ≤ max a b
later a b n h = let r : b ≤ max a b = le-max_right a b in omega (arith, h, r)

member_depth : (key : List ℕ) (ms : J.Members) → depth_of (get_member key ms) ≤ J.members_depth ms
member_depth key J.no_members = omega arith
member_depth key (J.member k d ms) = at (slice_cmp nat_cmp key k) (later (J.depth d) (J.members_depth ms) (depth_of (get_member key ms)) (member_depth key ms))
  where
    at : (o : Ordering) → depth_of (get_member key ms) ≤ max (J.depth d) (J.members_depth ms)
        → depth_of (match_ordering o (get_member key ms) (Some d) (get_member key ms)) ≤ max (J.depth d) (J.members_depth ms)
    at Less rest = rest
    at Equal rest = le-max_left (J.depth d) (J.members_depth ms)
    at Greater rest = rest

item_depth : (i : ℕ) (ds : J.Items) → depth_of (get_item i ds) ≤ J.items_depth ds
item_depth i J.no_items = nothing i
  where
    nothing : (i : ℕ) → depth_of (get_item i J.no_items) ≤ 0
    nothing zero = omega arith
    nothing (suc i) = omega arith
item_depth zero (J.item d ds) = le-max_left (J.depth d) (J.items_depth ds)
item_depth (suc i) (J.item d ds) = later (J.depth d) (J.items_depth ds) (depth_of (get_item i ds)) (item_depth i ds)

below_next : (n m : ℕ) → n ≤ m → n < suc m
below_next n m h = omega (arith, h)

pub found_smaller : FoundIsSmaller
found_smaller = (
  λ key ms d e. below_next (J.depth d) (J.members_depth ms) (subst (λ o. depth_of o ≤ J.members_depth ms) e (member_depth key ms)),
  λ i ds d e. below_next (J.depth d) (J.items_depth ds) (subst (λ o. depth_of o ≤ J.items_depth ds) e (item_depth i ds)),
)
