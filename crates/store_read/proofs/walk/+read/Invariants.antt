-- The walk goes down the levels of the cache; what is read and what is left are the whole.
use Rattle.std.proofs.Common.{◌≡◌, ◌+◌, ◌*◌, ◌≤◌, ◌++◌, Some, map, max, drop, length}
use Rattle.plan_ir.specs.gql_plain.Shown.{shown_members}
use Rattle.plan_ir.specs.store_model.Walks.{elements_at, field_of}
use Rattle.plan_ir.specs.store_record.declared.record.Slot.TheVariants.{Alive}
use Rattle.store_read.proofs.walk.+read.Given as goal
use Rattle.store_read.specs.CacheFalls.{group_levels, pointer_levels}
use Rattle.store_read.specs.CacheView.{group_view, pointer_view}
use Rattle.store_read.specs.Meeting.{met_onto}
use Rattle.store_read.specs.Walked.{groups_met, groups_shown, pointers_listed, pointers_met, reads}

abbrev pub decreases-read_record : goal.decreases-read_record
decreases-read_record g l = 10 * l.cache.now.levels + 3

abbrev pub decreases-read_live : goal.decreases-read_live
decreases-read_live g l = 10 * l.cache.now.levels + 2

abbrev pub decreases-read_object : goal.decreases-read_object
decreases-read_object g l = 10 * max (group_levels (map group_view l.of.now.groups.items)) (pointer_levels (map pointer_view l.of.now.pointers.items)) + 11

abbrev pub decreases-read_groups : goal.decreases-read_groups
decreases-read_groups g l = 10 * group_levels (map group_view l.groups.now) + 10

abbrev pub decreases-read_group : goal.decreases-read_group
decreases-read_group g l = 10 * l.group.now.below.levels + 9

abbrev pub decreases-read_value : goal.decreases-read_value
decreases-read_value g l = 10 * l.below.now.levels + 8

abbrev pub decreases-read_one : goal.decreases-read_one
decreases-read_one g l = 10 * l.below.now.levels + 7

abbrev pub decreases-read_many : goal.decreases-read_many
decreases-read_many g l = 10 * l.below.now.levels + 7

abbrev pub decreases-read_elements : goal.decreases-read_elements
decreases-read_elements g l = 10 * l.below.now.levels + 6

abbrev pub decreases-read_element : goal.decreases-read_element
decreases-read_element g l = 10 * l.below.now.levels + 5

abbrev pub decreases-read_pointers : goal.decreases-read_pointers
decreases-read_pointers g l = 10 * pointer_levels (map pointer_view l.pointers.now) + 10

abbrev pub decreases-read_pointer : goal.decreases-read_pointer
decreases-read_pointer g l = 10 * l.pointer.now.body.levels + 9

abbrev pub invariant-read_groups-groups : goal.invariant-read_groups-groups
invariant-read_groups-groups g l = record {
  shown : shown_members l.members.items ++ groups_shown (reads (g.S.RecordSource.records l.store.source.now) l.store.root.now l.store.owner.now) l.name (field_of (Some (Alive l.row))) (drop l.at (map group_view l.initial.groups))
      ≡ shown_members l.initial.members.items ++ groups_shown (reads (g.S.RecordSource.records l.store.source.now) l.store.root.now l.store.owner.now) l.name (field_of (Some (Alive l.row))) (map group_view l.initial.groups);
  met : met_onto l.met (groups_met (reads (g.S.RecordSource.records l.store.source.now) l.store.root.now l.store.owner.now) l.name (field_of (Some (Alive l.row))) (drop l.at (map group_view l.initial.groups)))
      ≡ met_onto l.initial.met (groups_met (reads (g.S.RecordSource.records l.store.source.now) l.store.root.now l.store.owner.now) l.name (field_of (Some (Alive l.row))) (map group_view l.initial.groups));
  looks : g.S.Count.Steps.looks l.steps + length (groups_met (reads (g.S.RecordSource.records l.store.source.now) l.store.root.now l.store.owner.now) l.name (field_of (Some (Alive l.row))) (drop l.at (map group_view l.initial.groups))).seen
      ≤ g.S.Count.Steps.looks l.initial.steps + length (groups_met (reads (g.S.RecordSource.records l.store.source.now) l.store.root.now l.store.owner.now) l.name (field_of (Some (Alive l.row))) (map group_view l.initial.groups)).seen;
  applies : g.S.Count.Steps.applies l.steps ≡ g.S.Count.Steps.applies l.initial.steps;
  groups : map group_view l.groups ≡ map group_view l.initial.groups;
}

abbrev pub invariant-read_pointers-pointers : goal.invariant-read_pointers-pointers
invariant-read_pointers-pointers g l = record {
  shown : shown_members l.shown.items ++ pointers_listed (reads (g.S.RecordSource.records l.store.source.now) l.store.root.now l.store.owner.now) l.itself l.id (drop l.at (map pointer_view l.initial.pointers))
      ≡ pointers_listed (reads (g.S.RecordSource.records l.store.source.now) l.store.root.now l.store.owner.now) l.itself l.id (map pointer_view l.initial.pointers);
  met : met_onto l.met (pointers_met (reads (g.S.RecordSource.records l.store.source.now) l.store.root.now l.store.owner.now) l.itself l.id (drop l.at (map pointer_view l.initial.pointers)))
      ≡ met_onto l.initial.met (pointers_met (reads (g.S.RecordSource.records l.store.source.now) l.store.root.now l.store.owner.now) l.itself l.id (map pointer_view l.initial.pointers));
  looks : g.S.Count.Steps.looks l.steps + length (pointers_met (reads (g.S.RecordSource.records l.store.source.now) l.store.root.now l.store.owner.now) l.itself l.id (drop l.at (map pointer_view l.initial.pointers))).seen
      ≤ g.S.Count.Steps.looks l.initial.steps + length (pointers_met (reads (g.S.RecordSource.records l.store.source.now) l.store.root.now l.store.owner.now) l.itself l.id (map pointer_view l.initial.pointers)).seen;
  applies : g.S.Count.Steps.applies l.steps ≡ g.S.Count.Steps.applies l.initial.steps;
  pointers : map pointer_view l.pointers ≡ map pointer_view l.initial.pointers;
}

abbrev pub invariant-read_elements-ids : goal.invariant-read_elements-ids
invariant-read_elements-ids g l = record {
  shown : l.shown ++ (elements_at (reads (g.S.RecordSource.records l.store.source.now) l.store.root.now l.store.owner.now l.initial.below.levels) l.types l.initial.below.parts (drop l.id-index l.ids)).0
      ≡ (elements_at (reads (g.S.RecordSource.records l.store.source.now) l.store.root.now l.store.owner.now l.initial.below.levels) l.types l.initial.below.parts l.ids).0;
  met : met_onto l.met (elements_at (reads (g.S.RecordSource.records l.store.source.now) l.store.root.now l.store.owner.now l.initial.below.levels) l.types l.initial.below.parts (drop l.id-index l.ids)).1
      ≡ met_onto l.initial.met (elements_at (reads (g.S.RecordSource.records l.store.source.now) l.store.root.now l.store.owner.now l.initial.below.levels) l.types l.initial.below.parts l.ids).1;
  looks : g.S.Count.Steps.looks l.steps + length (elements_at (reads (g.S.RecordSource.records l.store.source.now) l.store.root.now l.store.owner.now l.initial.below.levels) l.types l.initial.below.parts (drop l.id-index l.ids)).1.seen
      ≤ g.S.Count.Steps.looks l.initial.steps + length (elements_at (reads (g.S.RecordSource.records l.store.source.now) l.store.root.now l.store.owner.now l.initial.below.levels) l.types l.initial.below.parts l.ids).1.seen;
  applies : g.S.Count.Steps.applies l.steps ≡ g.S.Count.Steps.applies l.initial.steps;
  below : l.below ≡ l.initial.below;
}
