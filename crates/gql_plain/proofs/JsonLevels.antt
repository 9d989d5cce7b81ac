-- A JSON value and its plain tree, level by level.
use Rattle.std.proofs.Common.{◌≡◌, ℕ, Bool, true, false, true≢false, List, [], ◌∷◌, ◌++◌, ◌&&◌, map, refl, ap, sym, ◌∙◌, string_bytes, string_cmp, nat_cmp, Less, Greater}
use Rattle.std.proofs.lemmas.List.{map-append}
use Rattle.std.specs.Cmp.Lexicographic.{slice_cmp, nat_list_cmp_total}
use Rattle.std.specs.List.{list_all, AllByRecursion}
use Rattle.std.specs.List.Sorted.{IsStrictlySortedBy}
use Rattle.std.specs.Map.{keys_of}
use Rattle.std.specs.Ordering.{ordering_reverse}
use Rattle.serde_json.specs.Data as json
use Rattle.serde_json.specs.Data.{put}
use Rattle.serde_json.proofs.Views.{view-Array, view-Object, Entry}
use Rattle.serde_json.specs.View.{view, items_of, items_view, members_view}
use Rattle.serde_json.specs.declared.value.Value.{Value}
use Rattle.gql_plain.specs.FromJson.{is_whole, items_are_whole, members_are_whole, plain_tree, plain_trees, plain_members}
use Rattle.gql_plain.specs.Order.{IsAfter}
use Rattle.gql_plain.specs.ToJson.{data_of, items_data, members_data}
use Rattle.gql_plain.specs.Tree.{Tree, tree, trees_of, member, members_of}

pub plain_trees-items_view : (vs : List Value) → plain_trees (items_view vs) ≡ trees_of (map (λ v. plain_tree (view v)) vs)
plain_trees-items_view [] = refl
plain_trees-items_view (v ∷ vs) = ap (tree (plain_tree (view v))) (plain_trees-items_view vs)

pub plain_members-members_view : (es : List Entry) → plain_members (members_view es) ≡ members_of (map (λ m. (string_bytes m.0, plain_tree (view m.1))) es)
plain_members-members_view [] = refl
plain_members-members_view (e ∷ es) = ap (member (string_bytes e.0) (plain_tree (view e.1))) (plain_members-members_view es)

pub items_are_whole-items_view : (vs : List Value) → items_are_whole (items_view vs) ≡ list_all (λ v. is_whole (view v)) vs
items_are_whole-items_view [] = refl
items_are_whole-items_view (v ∷ vs) = ap (λ b. is_whole (view v) && b) (items_are_whole-items_view vs)

pub members_are_whole-members_view : (es : List Entry) → members_are_whole (members_view es) ≡ list_all (λ m. is_whole (view m.1)) es
members_are_whole-members_view [] = refl
members_are_whole-members_view (e ∷ es) = ap (λ b. is_whole (view e.1) && b) (members_are_whole-members_view es)

pub items_data-trees_of : (ts : List Tree) → items_data (trees_of ts) ≡ items_of (map data_of ts)
items_data-trees_of [] = refl
items_data-trees_of (t ∷ ts) = ap (json.item (data_of t)) (items_data-trees_of ts)

abbrev pub plain_pair : Entry → List ℕ × Tree
plain_pair e = (string_bytes e.0, plain_tree (view e.1))

and_first : (a b : Bool) → (a && b) ≡ true → a ≡ true
and_first true b h = refl
and_first false b h = h

and_second : (a b : Bool) → (a && b) ≡ true → b ≡ true
and_second true b h = h
and_second false b h = absurd (true≢false (sym h))

-- one more member of an object
pub plain_pairs_more : (done : List Entry) (e : Entry) (pairs : List (List ℕ × Tree)) (name : List ℕ) (t : Tree)
    → pairs ≡ map plain_pair done → name ≡ string_bytes e.0 → t ≡ plain_tree (view e.1) → pairs ++ (name, t) ∷ [] ≡ map plain_pair (done ++ e ∷ [])
plain_pairs_more done e pairs name t before key value = (λ i. before i ++ (key i, value i) ∷ []) ∙ sym (map-append plain_pair done (e ∷ []))

pub whole_more : (done : List Entry) (e : Entry) → list_all (λ m. is_whole (view m.1)) done ≡ true → is_whole (view e.1) ≡ true → list_all (λ m. is_whole (view m.1)) (done ++ e ∷ []) ≡ true
whole_more [] e before here = rw here
whole_more (first ∷ done) e before here =
    rw (and_first (is_whole (view first.1)) _ before) (whole_more done e (and_second (is_whole (view first.1)) _ before) here)

below_middle : (first : Entry) (done : List Entry) (e : Entry) (left : List Entry) → AllByRecursion (λ y. string_cmp first.0 y ≡ Less) (keys_of (done ++ e ∷ left)) → string_cmp first.0 e.0 ≡ Less
below_middle first [] e left h = h.0
below_middle first (x ∷ done) e left h = below_middle first done e left h.1

-- the next member's key stands after those before it
pub IsAfter-next : (done : List Entry) (e : Entry) (left : List Entry) → IsStrictlySortedBy string_cmp (keys_of (done ++ e ∷ left)) → IsAfter (string_bytes e.0) (keys_of (map plain_pair done))
unfolding IsStrictlySortedBy
IsAfter-next [] e left h = tt
IsAfter-next (first ∷ done) e left h = (below_middle first done e left h.0, IsAfter-next done e left h.1)

-- a member whose key stands after the last one goes last
pub put-last : (ms : List (List ℕ × Tree)) (key : List ℕ) (t : Tree) → IsAfter key (keys_of ms) → put key (data_of t) (members_data (members_of ms)) ≡ members_data (members_of (ms ++ (key, t) ∷ []))
put-last [] key t after = refl
put-last (m ∷ ms) key t after =
    let above : slice_cmp nat_cmp key m.0 ≡ Greater = nat_list_cmp_total.antisymm key m.0 ∙ ap ordering_reverse after.0 in
    rw above (ap (json.member m.0 (data_of m.1)) (put-last ms key t after.1))

pub ruleset levels = (view-Array, view-Object, plain_trees-items_view, plain_members-members_view, items_are_whole-items_view, members_are_whole-members_view, items_data-trees_of)
