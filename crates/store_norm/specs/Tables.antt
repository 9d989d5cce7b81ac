-- Members of objects by their keys.
use Rattle.std.specs.Prelude.{◌≡◌, ℕ, List, bytes_eq, option_map}
use Rattle.std.specs.HashMap as hash
use Rattle.serde_json.specs.Find.{get_member}
use Rattle.serde_json.specs.View.{members_view, view}
use Rattle.store_norm.specs.declared.members.Members.{Members}

-- where there is a table, it finds what the members have
abbrev pub IsTabled : Members → Type 0
IsTabled ms = (key : List ℕ)
    → option_map (λ t. option_map (λ v. view v.now) (hash.get_by (λ k. bytes_eq key k.now) t)) ms.table ≡ option_map (λ t. get_member key (members_view ms.map.now.entries)) ms.table
