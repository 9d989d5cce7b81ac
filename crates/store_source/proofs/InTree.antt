-- The records of a tree: what its keys and the number of its nodes are there.
use Rattle.std.proofs.Common.{◌≡◌, ℕ, ◌+◌, ◌*◌, ◌≤◌, List, [], length, sym, ap, subst, ◌∙◌, nat_cmp}
use Rattle.std.specs.Cmp.Lexicographic.{slice_cmp, nat_list_cmp_total}
use Rattle.std.specs.FinMap.{empty, keys, len, from_sorted, get-empty, get-from_sorted, len-entries, entries-from_sorted, same_map, slice_cmp-IsAntisymmetric, nat_cmp-IsAntisymmetric}
use Rattle.store_record.specs.declared.record.Slot.{Slot}
use Rattle.store_tree.specs.Contents.{KeysRise, binary_digits, keys_of}
use Rattle.store_tree.proofs.AsMap.{keys-from_sorted}
use Rattle.store_source.specs.Records.{Records, most_nodes}

pub tree_empty : (pairs : List (List ℕ × Slot)) → pairs ≡ [] → from_sorted {R = slice_cmp nat_cmp} pairs ≡ empty
tree_empty pairs e =
    ap from_sorted e
    ∙ same_map nat_list_cmp_total (slice_cmp-IsAntisymmetric nat_cmp-IsAntisymmetric) _ _
    (λ q. get-from_sorted (slice_cmp nat_cmp) [] q tt ∙ sym (get-empty (slice_cmp nat_cmp) q))

module _ (pairs : List (List ℕ × Slot)) (seen : Records) (is : from_sorted pairs ≡ seen) (rise : KeysRise pairs) where
  pub tree_keys : keys_of pairs ≡ keys seen
  tree_keys = sym (keys-from_sorted pairs rise) ∙ ap keys is

  tree_len : length pairs ≡ len seen
  tree_len = ap length (sym (entries-from_sorted (slice_cmp nat_cmp) pairs rise)) ∙ sym (len-entries (from_sorted {R = slice_cmp nat_cmp} pairs)) ∙ ap len is

  -- the bound of the tree is that of the records
  pub tree_nodes : (before after : ℕ) → after ≤ before + 8 * (2 * binary_digits (length pairs) + 1) → after ≤ before + most_nodes seen
  tree_nodes before after bound = subst (λ n. after ≤ before + 8 * (2 * binary_digits n + 1)) tree_len bound
