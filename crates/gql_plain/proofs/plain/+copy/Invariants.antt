use Rattle.std.proofs.Common.{◌≡◌, take}
use Rattle.gql_plain.proofs.plain.+copy.Given as goal
use Rattle.gql_plain.specs.Shown.{plain_trees, shown_members}

abbrev pub invariant-Plains::copy-items : goal.invariant-Plains::copy-items
invariant-Plains::copy-items l = plain_trees l.items.items ≡ plain_trees (take l.plain-index l.plain-items)

abbrev pub invariant-Pairs::copy-entries : goal.invariant-Pairs::copy-entries
invariant-Pairs::copy-entries l = shown_members l.entries.items ≡ shown_members (take l.key-index l.key-items)
