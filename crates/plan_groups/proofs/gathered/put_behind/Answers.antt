-- The group at the place has one field more.
use Rattle.std.proofs.Common.{◌≡◌, ap, ◌∙◌}
use Rattle.plan_groups.proofs.GroupSteps.{put_behind_is}
use Rattle.plan_groups.proofs.gathered.put_behind.Goals as goal
use Rattle.plan_groups.specs.FieldView.{asked_at}

pub returns : goal.returns
returns c = put_behind_is c.args.groups.now.items c.args.place c.index_mut-group.result.now _ (asked_at c.args.field) c.requires c.index_mut-group.ensures.value c.in_ok-add.ensures
