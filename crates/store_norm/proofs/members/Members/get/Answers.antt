-- The table has what the members have.
use Rattle.std.proofs.Common.{bytes_eq, option_map, ap, ◌∙◌}
use Rattle.std.specs.HashMap as hash
use Rattle.serde_json.specs.Find.{get_member}
use Rattle.serde_json.specs.View.{members_view, view}
use Rattle.store_norm.proofs.TableSteps.{mapped_some}
use Rattle.store_norm.proofs.members.Members.get.Goals as goal

pub returns-in-Some : goal.returns-in-Some
returns-in-Some c =
    let key = c.args.key.now in
    ap (option_map (λ v. view v.now)) (c.copied.ensures ∙ c.get.ensures.value)
    ∙ mapped_some (λ t. option_map (λ v. view v.now) (hash.get_by (λ k. bytes_eq key k.now) t)) (λ t. get_member key (members_view c.args.self.now.map.now.entries))
    c.args.self.now.table c.in-Some.table (c.requires key) c.in-Some.is
