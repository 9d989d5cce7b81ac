use Rattle.std.proofs.Common.{◌≡◌, ◌≤◌, ◌-◌, length, drop}
use Rattle.gql_plain.proofs.equal.+same.Given as goal
use Rattle.gql_plain.specs.Equal.{list_eq, object_eq}
use Rattle.gql_plain.specs.Shown.{plain_trees, shown_members}

abbrev pub invariant-same_lists-items : goal.invariant-same_lists-items
invariant-same_lists-items l = record {
  within : l.at ≤ length l.a-inside.items.items;
  as_long : length l.a-inside.items.items ≡ length l.b-inside.items.items;
  left : list_eq (plain_trees l.a-inside.items.items) (plain_trees l.b-inside.items.items)
      ≡ list_eq (plain_trees (drop l.at l.a-inside.items.items)) (plain_trees (drop l.at l.b-inside.items.items));
}

abbrev pub decreases-same_lists-items : goal.decreases-same_lists-items
decreases-same_lists-items l = length l.a-inside.items.items - l.at

abbrev pub invariant-same_objects-entries : goal.invariant-same_objects-entries
invariant-same_objects-entries l = record {
  within : l.at ≤ length l.a-inside.entries.items;
  as_long : length l.a-inside.entries.items ≡ length l.b-inside.entries.items;
  left : object_eq (shown_members l.a-inside.entries.items) (shown_members l.b-inside.entries.items)
      ≡ object_eq (shown_members (drop l.at l.a-inside.entries.items)) (shown_members (drop l.at l.b-inside.entries.items));
}

abbrev pub decreases-same_objects-entries : goal.decreases-same_objects-entries
decreases-same_objects-entries l = length l.a-inside.entries.items - l.at
