use Rattle.std.proofs.Common.{◌≡◌, ◌++◌, true, map, take, List, string_bytes}
use Rattle.std.specs.List.{list_all}
use Rattle.serde_json.proofs.Views.{Entry}
use Rattle.serde_json.specs.View.{view}
use Rattle.gql_plain.proofs.from_value.+plain_of.Given as goal
use Rattle.gql_plain.specs.FromJson.{is_whole, plain_tree}

abbrev pub invariant-plains_of-items : goal.invariant-plains_of-items
invariant-plains_of-items l = record {
  same : l.plains ≡ map (λ v. plain_tree (view v)) (take l.item-index l.item-items);
  whole : list_all (λ v. is_whole (view v)) (take l.item-index l.item-items) ≡ true;
}

abbrev pub invariant-pairs_of-members : goal.invariant-pairs_of-members
invariant-pairs_of-members l =
    (done : List Entry) × (l.members.entries ≡ done ++ l.key-iterator)
    × (l.pairs ≡ map (λ m. (string_bytes m.0, plain_tree (view m.1))) done)
    × (list_all (λ m. is_whole (view m.1)) done ≡ true)
