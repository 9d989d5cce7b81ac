-- What is in the table, and what is left, are the members.
use Rattle.std.proofs.Common.{◌≡◌, ℕ, List, ◌++◌, bytes_eq, option_map}
use Rattle.std.specs.HashMap as hash
use Rattle.serde_json.proofs.Views.{Entry}
use Rattle.serde_json.specs.Find.{get_member}
use Rattle.serde_json.specs.View.{view, members_view}
use Rattle.store_norm.proofs.TableSteps.{or_else}
use Rattle.store_norm.proofs.members.table_of.Given as goal

abbrev pub invariant-members : goal.invariant-members
invariant-members l =
    (done : List Entry) × (l.map.entries ≡ done ++ l.key-iterator)
    × ((key : List ℕ) → or_else (get_member key (members_view l.key-iterator)) (option_map (λ v. view v.now) (hash.get_by (λ k. bytes_eq key k.now) l.table)) ≡ get_member key (members_view l.map.entries))
