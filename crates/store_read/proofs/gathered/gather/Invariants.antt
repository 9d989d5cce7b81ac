-- What is put and what is left are the whole.
use Rattle.std.proofs.Common.{◌≡◌, [], map, drop}
use Rattle.plan_ir.specs.ReaderMeaning.{collect_reader}
use Rattle.plan_ir.specs.store_model.Items.{asked_of, collect_all, grouped_onto, groups_at}
use Rattle.store_read.specs.FieldView.{part_at}
use Rattle.store_read.specs.Gathering.{groups_in, spreads_in, IsPlaced}
use Rattle.store_read.specs.Spreads.{pointers_onto}
use Rattle.store_read.proofs.gathered.gather.Given as goal

abbrev pub invariant-parts : goal.invariant-parts
invariant-parts l = record {
  groups : grouped_onto (groups_in l.gathered) (asked_of (collect_all collect_reader l.object (map part_at (drop l.part-index l.parts)))) ≡ groups_at collect_reader l.object (map part_at l.parts);
  spreads : pointers_onto (spreads_in l.gathered) (collect_all collect_reader l.object (map part_at (drop l.part-index l.parts))) ≡ pointers_onto [] (collect_all collect_reader l.object (map part_at l.parts));
  placed : IsPlaced l.gathered;
}
