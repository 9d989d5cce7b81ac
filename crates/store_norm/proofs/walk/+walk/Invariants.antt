-- The walk goes down the response.
use Rattle.std.proofs.Common.{◌≡◌, ◌+◌, ◌*◌, ◌++◌, drop}
use Rattle.plan_groups.specs.FieldView.{below_at}
use Rattle.plan_ir.specs.NormalMeaning.{collect_plan}
use Rattle.serde_json.specs.Data as J
use Rattle.serde_json.specs.View.{items_view, members_view, view}
use Rattle.plan_ir.specs.store_model.Says.{elements_of, elements_under, groups_say, walks_of}
use Rattle.store_norm.proofs.walk.+walk.Given as goal
use Rattle.store_norm.specs.MadeView.{made_at}
use Rattle.store_report.specs.Gathering.{gathered_onto}

abbrev pub decreases-say_field : goal.decreases-say_field
decreases-say_field l = 10 * J.depth (view l.value.now) + 8

abbrev pub decreases-say_value : goal.decreases-say_value
decreases-say_value l = 10 * J.depth (view l.value.now) + 7

abbrev pub decreases-say_list : goal.decreases-say_list
decreases-say_list l = 10 * J.depth (view l.value.now) + 6

abbrev pub decreases-say_elements : goal.decreases-say_elements
decreases-say_elements l = 10 * J.depth (J.array (items_view l.items.now.items)) + 5

abbrev pub decreases-say_element : goal.decreases-say_element
decreases-say_element l = 10 * J.depth (view l.value.now) + 5

abbrev pub decreases-say_object : goal.decreases-say_object
decreases-say_object l = 10 * J.depth (J.object (members_view l.members.now.entries)) + 4

abbrev pub decreases-say_type : goal.decreases-say_type
decreases-say_type l = 10 * J.depth (J.object (members_view l.members.now.entries)) + 3

abbrev pub decreases-say_typed : goal.decreases-say_typed
decreases-say_typed l = 10 * J.depth (J.object (members_view l.members.now.entries)) + 2

abbrev pub decreases-say_groups : goal.decreases-say_groups
decreases-say_groups l = 10 * J.depth (J.object (members_view l.members.now.entries)) + 1

abbrev pub decreases-say_group : goal.decreases-say_group
decreases-say_group l = 10 * J.depth (J.object (members_view l.members.now.map.now.entries))

-- what was said and what is left are the whole
abbrev pub invariant-say_groups-groups : goal.invariant-say_groups-groups
invariant-say_groups-groups l =
    (gathered_onto l.gathered (groups_say collect_plan l.id l.path (walks_of collect_plan (members_view l.members.entries)) (drop l.at l.groups))
    ≡ gathered_onto l.initial.gathered (groups_say collect_plan l.id l.path (walks_of collect_plan (members_view l.members.entries)) l.groups))
    × (l.below ≡ l.initial.below)

abbrev pub invariant-say_elements-items : goal.invariant-say_elements-items
invariant-say_elements-items l =
    (gathered_onto l.gathered (elements_under (elements_of collect_plan (items_view (drop l.at l.items.items))) (below_at l.type_below) l.below.parts (made_at l.fn.place) l.at l.path).1
    ≡ gathered_onto l.initial.gathered (elements_under (elements_of collect_plan (items_view l.items.items)) (below_at l.type_below) l.initial.below.parts (made_at l.fn.place) 0 l.path).1)
    × (l.ids ++ (elements_under (elements_of collect_plan (items_view (drop l.at l.items.items))) (below_at l.type_below) l.below.parts (made_at l.fn.place) l.at l.path).0
    ≡ (elements_under (elements_of collect_plan (items_view l.items.items)) (below_at l.type_below) l.initial.below.parts (made_at l.fn.place) 0 l.path).0)
    × (l.below ≡ l.initial.below)
