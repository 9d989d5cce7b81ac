-- The walk goes down the response.
use Rattle.std.proofs.Common.{◌≡◌, ◌+◌, ◌*◌, ◌++◌, drop}
use Rattle.plan_groups.specs.FieldView.{below_at}
use Rattle.plan_ir.specs.NormalMeaning.{collect_plan}
use Rattle.serde_json.specs.Data as J
use Rattle.serde_json.specs.View.{items_view, members_view, view}
use Rattle.plan_ir.specs.store_model.Says.{elements_of, elements_under, groups_say, walks_of}
use Rattle.store_norm.proofs.TakeSteps.{Ends}
use Rattle.store_norm.proofs.taking.+take.Given as goal
use Rattle.store_norm.specs.MadeView.{made_at}
use Rattle.store_report.specs.ObjectRows.{with_open}

abbrev pub decreases-take_field : goal.decreases-take_field
decreases-take_field l = 10 * J.depth (view l.value.now) + 8

abbrev pub decreases-take_value : goal.decreases-take_value
decreases-take_value l = 10 * J.depth (view l.value.now) + 7

abbrev pub decreases-take_list : goal.decreases-take_list
decreases-take_list l = 10 * J.depth (view l.value.now) + 6

abbrev pub decreases-take_elements : goal.decreases-take_elements
decreases-take_elements l = 10 * J.depth (J.array (items_view l.items.now.items)) + 5

abbrev pub decreases-take_element : goal.decreases-take_element
decreases-take_element l = 10 * J.depth (view l.value.now) + 5

abbrev pub decreases-take_object : goal.decreases-take_object
decreases-take_object l = 10 * J.depth (J.object (members_view l.members.now.entries)) + 4

abbrev pub decreases-take_type : goal.decreases-take_type
decreases-take_type l = 10 * J.depth (J.object (members_view l.members.now.entries)) + 3

abbrev pub decreases-take_typed : goal.decreases-take_typed
decreases-take_typed l = 10 * J.depth (J.object (members_view l.members.now.entries)) + 2

abbrev pub decreases-take_groups : goal.decreases-take_groups
decreases-take_groups l = 10 * J.depth (J.object (members_view l.members.now.entries)) + 1

abbrev pub decreases-take_group : goal.decreases-take_group
decreases-take_group l = 10 * J.depth (J.object (members_view l.members.now.map.now.entries))

-- what was taken and what is left are the whole
abbrev pub invariant-take_groups-groups : goal.invariant-take_groups-groups
invariant-take_groups-groups l =
    (Ends (with_open l.id l.initial.fields.items l.initial.rows) (with_open l.id l.fields.items l.rows)
    (groups_say collect_plan l.id l.trail (walks_of collect_plan (members_view l.members.entries)) (drop l.at l.groups))
    (groups_say collect_plan l.id l.trail (walks_of collect_plan (members_view l.members.entries)) l.groups))
    × (l.below ≡ l.initial.below)

abbrev pub invariant-take_elements-items : goal.invariant-take_elements-items
invariant-take_elements-items l =
    (Ends l.initial.rows l.rows
    (elements_under (elements_of collect_plan (items_view (drop l.at l.items.items))) (below_at l.type_below) l.below.parts (made_at l.fn.place) l.at l.trail).1
    (elements_under (elements_of collect_plan (items_view l.items.items)) (below_at l.type_below) l.initial.below.parts (made_at l.fn.place) 0 l.trail).1)
    × (l.ids ++ (elements_under (elements_of collect_plan (items_view (drop l.at l.items.items))) (below_at l.type_below) l.below.parts (made_at l.fn.place) l.at l.trail).0
    ≡ (elements_under (elements_of collect_plan (items_view l.items.items)) (below_at l.type_below) l.initial.below.parts (made_at l.fn.place) 0 l.trail).0)
    × (l.below ≡ l.initial.below)
