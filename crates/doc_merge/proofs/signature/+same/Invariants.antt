-- What is left differs where the whole does.
use Rattle.std.proofs.Common.{◌≡◌, ◌≤◌, ◌-◌, length, drop}
use Rattle.doc_merge.proofs.ListEnds.{same_lists, same_pairs}
use Rattle.doc_merge.proofs.signature.+same.Given as goal

abbrev pub invariant-same_values-items : goal.invariant-same_values-items
invariant-same_values-items l = record {
  within : l.at ≤ length l.a-inside.items.items;
  as_long : length l.a-inside.items.items ≡ length l.b-inside.items.items;
  left : same_lists l.a-inside.items.items l.b-inside.items.items ≡ same_lists (drop l.at l.a-inside.items.items) (drop l.at l.b-inside.items.items);
}

abbrev pub decreases-same_values-items : goal.decreases-same_values-items
decreases-same_values-items l = length l.a-inside.items.items - l.at

abbrev pub invariant-same_members-items : goal.invariant-same_members-items
invariant-same_members-items l = record {
  within : l.at ≤ length l.a-inside.items.items;
  as_long : length l.a-inside.items.items ≡ length l.b-inside.items.items;
  left : same_pairs l.a-inside.items.items l.b-inside.items.items ≡ same_pairs (drop l.at l.a-inside.items.items) (drop l.at l.b-inside.items.items);
}

abbrev pub decreases-same_members-items : goal.decreases-same_members-items
decreases-same_members-items l = length l.a-inside.items.items - l.at
