use Rattle.std.proofs.Common.{◌≡◌, ◌++◌, drop}
use Rattle.gql_plain.proofs.to_text.+write_plain.Given as goal
use Rattle.gql_plain.specs.Shown.{plain_trees, shown_members}
use Rattle.gql_plain.specs.ToJson.{trees_tokens, members_tokens}
use Rattle.gql_plain.specs.Tree.{trees_of, members_of}

-- what is written, followed by the tokens of what is left, is the whole
abbrev pub invariant-write_list-items : goal.invariant-write_list-items
invariant-write_list-items l = record {
  before : l.out.before ≡ l.initial.out.before;
  whole : l.out.tokens ++ trees_tokens (trees_of (plain_trees (drop l.plain-index l.plain-items)))
      ≡ l.initial.out.tokens ++ trees_tokens (trees_of (plain_trees l.plain-items));
}

abbrev pub invariant-write_object-pairs : goal.invariant-write_object-pairs
invariant-write_object-pairs l = record {
  before : l.out.before ≡ l.initial.out.before;
  whole : l.out.tokens ++ members_tokens (members_of (shown_members (drop l.key-index l.key-items)))
      ≡ l.initial.out.tokens ++ members_tokens (members_of (shown_members l.key-items));
}
