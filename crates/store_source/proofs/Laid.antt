-- The newest changes over a tree: what a look-up, a change, the number of nodes and the keys are there.
use Rattle.std.proofs.Common.{◌≡◌, ℕ, ◌+◌, ◌*◌, ◌<◌, ◌≤◌, Bool, true, false, true≢false, cond, List, [], ◌∷◌, ◌++◌, map, Option, Some, None, nat_cmp, length, drop, get_or, append_assoc, add-one, drop-cons, refl, sym, ap, subst, ◌∙◌, arith}
use Rattle.std.specs.Prelude.{not, is_some}
use Rattle.std.specs.Cmp.{alike_right, eq_by_cmp_equiv}
use Rattle.std.specs.Cmp.Lexicographic.{slice_cmp, nat_list_cmp_total}
use Rattle.std.specs.FinMap.{find, put, get, insert, remove, keys, len, contains_key, from_sorted, from_entries, get-from_sorted, get-from_entries, get-insert, get-remove, len-insert, same_map, slice_cmp-IsAntisymmetric, nat_cmp-IsAntisymmetric}
use Rattle.std.specs.FinMap.Entries.{find-where_key}
use Rattle.std.specs.Ordering.{eq_by_cmp, is_eq}
use Rattle.store_tree.specs.gql_plain.Order.{AreSortedOf}
use Rattle.store_record.specs.declared.record.Slot.{Slot}
use Rattle.store_tree.specs.Contents.{KeysRise, binary_digits, keys_of, without_key}
use Rattle.store_tree.proofs.AsMap.{from_sorted-put, from_sorted-without_key}
use Rattle.store_tree.proofs.ByBytes.{sorted_keys}
use Rattle.store_tree.proofs.Low.{binary_digits-rise}
use Rattle.store_source.proofs.InMemory.{entries_made}
use Rattle.store_source.proofs.InTree.{tree_keys, tree_nodes}
use Rattle.store_source.specs.Newest.{laid}
use Rattle.store_source.specs.Records.{Records, most_nodes}

abbrev Changes : Type 0
Changes = List (List ℕ × Slot)

-- ---- look-ups

abbrev over : Option Slot → Option Slot → Option Slot
over (Some slot) below = Some slot
over None below = below

over_cond : (b : Bool) (slot : Slot) (found below : Option Slot) → cond b (Some slot) (over found below) ≡ over (cond b (Some slot) found) below
over_cond true slot found below = refl
over_cond false slot found below = refl

laid-get : (changes : Changes) (m : Records) (q : List ℕ) → get (laid changes m) q ≡ over (find (slice_cmp nat_cmp) q changes) (get m q)
laid-get [] m q = refl
laid-get (e ∷ es) m q =
    get-insert nat_list_cmp_total (laid es m) e.0 e.1 q
    ∙ ap (cond (eq_by_cmp (slice_cmp nat_cmp) q e.0) (Some e.1)) (laid-get es m q)
    ∙ over_cond (eq_by_cmp (slice_cmp nat_cmp) q e.0) e.1 (find (slice_cmp nat_cmp) q es) (get m q)

module _ (changes pairs : Changes) (seen : Records) (is : laid changes (from_sorted pairs) ≡ seen) (q : List ℕ) where
  pub found_newest : (slot : Slot) → Some slot ≡ find (slice_cmp nat_cmp) q changes → Some slot ≡ get seen q
  found_newest slot e =
      ap (λ f. over f (get (from_sorted {R = slice_cmp nat_cmp} pairs) q)) e ∙ sym (laid-get changes (from_sorted pairs) q) ∙ ap (λ m. get m q) is

  pub found_below : (below : Option Slot) → KeysRise pairs → None ≡ find (slice_cmp nat_cmp) q changes → below ≡ find (slice_cmp nat_cmp) q pairs → below ≡ get seen q
  found_below below rise e b =
      b ∙ sym (get-from_sorted (slice_cmp nat_cmp) pairs q rise)
      ∙ ap (λ f. over f (get (from_sorted {R = slice_cmp nat_cmp} pairs) q)) e ∙ sym (laid-get changes (from_sorted pairs) q) ∙ ap (λ m. get m q) is

-- ---- going over the changes

one_and_rest : (b : Bool) (x : List ℕ × Slot) (rest : Changes) → cond (not b) (x ∷ []) [] ++ rest ≡ cond (not b) (x ∷ rest) rest
one_and_rest true x rest = refl
one_and_rest false x rest = refl

drop_at : (xs : Changes) (i : ℕ) (x : List ℕ × Slot) → i < length xs → x ≡ get_or xs i x → drop i xs ≡ x ∷ drop (i + 1) xs
drop_at xs i x within is = drop-cons xs i x within ∙ (λ j. sym is j ∷ drop (sym (add-one i) j) xs)

module _ (xs : Changes) (q : List ℕ) (i : ℕ) (x : List ℕ × Slot) (within : i < length xs) (is : x ≡ get_or xs i x) where
  pub found_here : (slot : Slot) → eq_by_cmp (slice_cmp nat_cmp) q x.0 ≡ true → slot ≡ x.1 → find (slice_cmp nat_cmp) q (drop i xs) ≡ find (slice_cmp nat_cmp) q xs
      → Some slot ≡ find (slice_cmp nat_cmp) q xs
  found_here slot ties same so_far =
      ap Some same ∙ ap (λ b. cond b (Some x.1) (find (slice_cmp nat_cmp) q (drop (i + 1) xs))) (sym ties) ∙ ap (find (slice_cmp nat_cmp) q) (sym (drop_at xs i x within is)) ∙ so_far

  pub found_later : eq_by_cmp (slice_cmp nat_cmp) q x.0 ≡ false → find (slice_cmp nat_cmp) q (drop i xs) ≡ find (slice_cmp nat_cmp) q xs
      → find (slice_cmp nat_cmp) q (drop (i + 1) xs) ≡ find (slice_cmp nat_cmp) q xs
  found_later differs so_far =
      ap (λ b. cond b (Some x.1) (find (slice_cmp nat_cmp) q (drop (i + 1) xs))) (sym differs) ∙ ap (find (slice_cmp nat_cmp) q) (sym (drop_at xs i x within is)) ∙ so_far

  pub others_next : (old new whole : Changes) → new ≡ old ++ without_key q (x ∷ []) → old ++ without_key q (drop i xs) ≡ whole → new ++ without_key q (drop (i + 1) xs) ≡ whole
  others_next old new whole put so_far =
      let rest : Changes = without_key q (drop (i + 1) xs) in
      ap (λ (l : Changes). l ++ rest) put
      ∙ append_assoc old (without_key q (x ∷ [])) rest
      ∙ ap (λ (l : Changes). old ++ l) (one_and_rest (eq_by_cmp (slice_cmp nat_cmp) q x.0) x rest)
      ∙ ap (λ (l : Changes). old ++ without_key q l) (sym (drop_at xs i x within is))
      ∙ so_far

-- a list without a change of an id is the one without its changes
pub without_absent : (xs : Changes) (q : List ℕ) → find (slice_cmp nat_cmp) q xs ≡ None → xs ≡ without_key q xs
without_absent [] q none = refl
without_absent (x ∷ xs) q none =
    elim (eq_by_cmp (slice_cmp nat_cmp) q x.0) as (λ b. cond b (Some x.1) (find (slice_cmp nat_cmp) q xs) ≡ None → x ∷ xs ≡ cond (not b) (x ∷ without_key q xs) (without_key q xs)) [
      | true ↦ λ found. absurd (true≢false (ap is_some found))
      | false ↦ λ rest. ap (λ ys. x ∷ ys) (without_absent xs q rest)
    ] none

-- ---- the oldest change

laid-last : (changes : Changes) (e : List ℕ × Slot) (m : Records) → laid (changes ++ e ∷ []) m ≡ laid changes (insert m e.0 e.1)
laid-last [] e m = refl
laid-last (c ∷ changes) e m = ap (λ n. insert n c.0 c.1) (laid-last changes e m)

-- it goes into the tree
pub laid_oldest : (changes left : Changes) (e : List ℕ × Slot) (pairs after : Changes) → KeysRise pairs → changes ≡ left ++ e ∷ [] → after ≡ put (slice_cmp nat_cmp) e.0 e.1 pairs
    → laid left (from_sorted after) ≡ laid changes (from_sorted pairs)
laid_oldest changes left e pairs after rise whole is =
    ap (λ ps. laid left (from_sorted ps)) is
    ∙ ap (laid left) (from_sorted-put pairs rise e.0 e.1)
    ∙ sym (laid-last left e (from_sorted pairs))
    ∙ ap (λ all. laid all (from_sorted pairs)) (sym whole)

-- ---- a removal

without_over : (b : Bool) (found below : Option Slot) → over (cond (not b) found None) (cond b None below) ≡ cond b None (over found below)
without_over true found below = refl
without_over false found below = refl

laid-without : (changes : Changes) (m : Records) (id : List ℕ) → laid (without_key id changes) (remove m id) ≡ remove (laid changes m) id
laid-without changes m id =
    same_map nat_list_cmp_total (slice_cmp-IsAntisymmetric nat_cmp-IsAntisymmetric) _ _
    (λ q. laid-get (without_key id changes) (remove m id) q
    ∙ (λ i. over (find-where_key (slice_cmp nat_cmp) (λ other. not (eq_by_cmp (slice_cmp nat_cmp) id other)) q (λ x t. ap (λ r. not (is_eq r)) (sym (alike_right nat_list_cmp_total q x id t))) changes i) (get-remove nat_list_cmp_total m id q i))
    ∙ ap (λ b. over (cond (not b) (find (slice_cmp nat_cmp) q changes) None) (cond (eq_by_cmp (slice_cmp nat_cmp) q id) None (get m q))) ((eq_by_cmp_equiv nat_list_cmp_total).symm id q)
    ∙ without_over (eq_by_cmp (slice_cmp nat_cmp) q id) (find (slice_cmp nat_cmp) q changes) (get m q)
    ∙ ap (cond (eq_by_cmp (slice_cmp nat_cmp) q id) None) (sym (laid-get changes m q))
    ∙ sym (get-remove nat_list_cmp_total (laid changes m) id q))

pub laid_removed : (changes left pairs after : Changes) (seen : Records) → laid changes (from_sorted pairs) ≡ seen → KeysRise pairs → (id : List ℕ) → left ≡ without_key id changes → after ≡ without_key id pairs
    → laid left (from_sorted after) ≡ remove seen id
laid_removed changes left pairs after seen is rise id e f =
    (λ i. laid (e i) (from_sorted (f i)))
    ∙ ap (laid (without_key id changes)) (from_sorted-without_key pairs rise id)
    ∙ laid-without changes (from_sorted pairs) id
    ∙ ap (λ m. remove m id) is

-- ---- the number of nodes

one_more : (b : Bool) (n : ℕ) → n ≤ cond b n (n + 1)
one_more true n = omega arith
one_more false n = omega arith

laid-len : (changes : Changes) (m : Records) → len m ≤ len (laid changes m)
laid-len [] m = omega arith
laid-len (e ∷ es) m =
    let below : len m ≤ len (laid es m) = laid-len es m in
    let more : len (laid es m) ≤ cond (contains_key (laid es m) e.0) (len (laid es m)) (len (laid es m) + 1) = one_more (contains_key (laid es m) e.0) (len (laid es m)) in
    let is : len (laid (e ∷ es) m) ≡ cond (contains_key (laid es m) e.0) (len (laid es m)) (len (laid es m) + 1) = len-insert nat_list_cmp_total (laid es m) e.0 e.1 in
    omega (arith, below, more, is)

-- the bound of the tree is no more than that of the map
pub laid_nodes : (changes pairs : Changes) (seen : Records) → laid changes (from_sorted pairs) ≡ seen → KeysRise pairs → (before after : ℕ) → after ≤ before + 8 * (2 * binary_digits (length pairs) + 1)
    → after ≤ before + most_nodes seen
laid_nodes changes pairs seen is rise before after bound =
    let below : after ≤ before + most_nodes (from_sorted pairs) = tree_nodes pairs (from_sorted pairs) refl rise before after bound in
    let more : binary_digits (len (from_sorted {R = slice_cmp nat_cmp} pairs)) ≤ binary_digits (len (laid changes (from_sorted pairs))) = binary_digits-rise _ _ (laid-len changes (from_sorted pairs)) in
    subst (λ m. after ≤ before + most_nodes m) is (omega (arith, below, more))

-- ---- the keys

laid-from_entries : (changes pairs : Changes) → from_entries {R = slice_cmp nat_cmp} (changes ++ pairs) ≡ laid changes (from_entries pairs)
laid-from_entries [] pairs = refl
laid-from_entries (e ∷ es) pairs = ap (λ m. insert m e.0 e.1) (laid-from_entries es pairs)

in_order_of_rising : (pairs : Changes) → KeysRise pairs → from_entries {R = slice_cmp nat_cmp} pairs ≡ from_sorted pairs
in_order_of_rising pairs rise =
    same_map nat_list_cmp_total (slice_cmp-IsAntisymmetric nat_cmp-IsAntisymmetric) _ _
    (λ q. get-from_entries nat_list_cmp_total pairs q ∙ sym (get-from_sorted (slice_cmp nat_cmp) pairs q rise))

keys-append : (changes pairs : Changes) → keys_of changes ++ keys_of pairs ≡ keys_of (changes ++ pairs)
keys-append [] pairs = refl
keys-append (e ∷ es) pairs = ap (λ ks. e.0 ∷ ks) (keys-append es pairs)

pub laid_keys : (changes pairs : Changes) (seen : Records) → laid changes (from_sorted pairs) ≡ seen → KeysRise pairs → (below ids : List (List ℕ)) → below ≡ keys_of pairs
    → AreSortedOf (keys_of changes ++ below) ids → ids ≡ keys seen
laid_keys changes pairs seen is rise below ids e h =
    sorted_keys (changes ++ pairs) (keys_of changes ++ below) ids (ap (λ ks. keys_of changes ++ ks) e ∙ keys-append changes pairs) h
    ∙ ap (map (λ pair. pair.0)) (sym (entries_made (changes ++ pairs)))
    ∙ ap keys (laid-from_entries changes pairs ∙ ap (laid changes) (in_order_of_rising pairs rise) ∙ is)

-- with no change they are the tree's
pub bare_keys : (changes pairs : Changes) (seen : Records) → laid changes (from_sorted pairs) ≡ seen → KeysRise pairs → changes ≡ [] → keys_of pairs ≡ keys seen
bare_keys changes pairs seen is rise none = tree_keys pairs seen (ap (λ es. laid es (from_sorted pairs)) (sym none) ∙ is) rise
