-- What is put and what is left are the whole.
use Rattle.std.proofs.Common.{◌≡◌, map, drop}
use Rattle.plan_ir.specs.NormalMeaning.{collect_plan}
use Rattle.plan_groups.specs.FieldView.{plan_at}
use Rattle.plan_groups.specs.Placed.{groups_in, IsPlaced}
use Rattle.plan_ir.specs.store_model.Items.{asked_of, collect_all, grouped_onto, groups_at}
use Rattle.plan_groups.proofs.gathered.gather.Given as goal

abbrev pub invariant-parts : goal.invariant-parts
invariant-parts l = record {
  put : grouped_onto (groups_in l.gathered) (asked_of (collect_all collect_plan l.object (map plan_at (drop l.part-index l.parts)))) ≡ groups_at collect_plan l.object (map plan_at l.parts);
  placed : IsPlaced l.gathered;
}
