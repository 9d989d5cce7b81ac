use Rattle.std.proofs.Common.{◌≡◌, ◌++◌, drop}
use Rattle.store_record.specs.gql_plain.Shown.{plain_trees, shown_members}
use Rattle.store_record.specs.gql_plain.Tree.{trees_of, members_of}
use Rattle.image_marks.proofs.Values.{AreValues, HaveValues}
use Rattle.image_marks.specs.MarkTokens.{items_tokens, members_tokens}
use Rattle.image_marks.proofs.write.+write_marks.Given as goal

abbrev pub decreases-write_items : goal.decreases-write_items
decreases-write_items l = goal.size-write_items l

abbrev pub decreases-write_marks : goal.decreases-write_marks
decreases-write_marks l = goal.size-write_marks l

abbrev pub decreases-write_members : goal.decreases-write_members
decreases-write_members l = goal.size-write_members l

-- what is written, followed by the tokens of what is left, is the whole; and all are values if those that are left are
abbrev pub invariant-write_items-items : goal.invariant-write_items-items
invariant-write_items-items l = record {
  before : l.out.before ≡ l.initial.out.before;
  whole : l.out.tokens ++ items_tokens (trees_of (plain_trees (drop l.plain-index l.plain-items))) ≡ l.initial.out.tokens ++ items_tokens (trees_of (plain_trees l.plain-items));
  made : AreValues (trees_of (plain_trees (drop l.plain-index l.plain-items))) → AreValues (trees_of (plain_trees l.plain-items));
}

abbrev pub invariant-write_members-pairs : goal.invariant-write_members-pairs
invariant-write_members-pairs l = record {
  before : l.out.before ≡ l.initial.out.before;
  whole : l.out.tokens ++ members_tokens (members_of (shown_members (drop l.key-index l.key-items))) ≡ l.initial.out.tokens ++ members_tokens (members_of (shown_members l.key-items));
  made : HaveValues (members_of (shown_members (drop l.key-index l.key-items))) → HaveValues (members_of (shown_members l.key-items));
}
