use Rattle.std.proofs.Common.{◌≡◌, map, take}
use Rattle.serde_json.specs.View.{view, members_view}
use Rattle.gql_plain.proofs.to_value.+value_of.Given as goal
use Rattle.gql_plain.specs.Shown.{plain_trees, shown_members}
use Rattle.gql_plain.specs.ToJson.{data_of, members_data}
use Rattle.gql_plain.specs.Tree.{members_of}

abbrev pub invariant-values_of-items : goal.invariant-values_of-items
invariant-values_of-items l = map view l.items.items ≡ map data_of (plain_trees (take l.plain-index l.plain-items))

abbrev pub invariant-object_of-pairs : goal.invariant-object_of-pairs
invariant-object_of-pairs l = members_view l.members.entries ≡ members_data (members_of (shown_members (take l.key-index l.key-items)))
