use Rattle.std.proofs.Common.{◌≡◌, string_bytes, ap, ◌∙◌}
use Rattle.serde_json.proofs.Views.{members_view-insert_entry}
use Rattle.serde_json.specs.View.{members_view}
use Rattle.gql_plain.proofs.Members.{put-next}
use Rattle.gql_plain.proofs.to_value.+value_of.Goals as goal

pub object_of-pairs-preserved : goal.object_of-pairs-preserved
object_of-pairs-preserved t c =
    let named : string_bytes c.in_ok-name.name ≡ c.pairs-item.result.0 = c.in_ok-name.ensures.ok ∙ c.as_str.ensures in
    let last = put-next c.deref-key-items.result.now c.pairs.key-index c.pairs-item.result c.pairs-test.true c.pairs-item.is (rw c.deref-key-items.ensures.value c.pairs-2.invariant) in
    ap members_view c.in_ok-insert.ensures.entries
    ∙ members_view-insert_entry c.pairs.members.entries c.in_ok-name.name c.in_ok-value_of.field-0
    ∙ rw (named, c.in_ok-value_of.ensures, c.pairs.invariant) last
