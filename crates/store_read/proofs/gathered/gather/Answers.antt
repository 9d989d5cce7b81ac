-- One more plan; from nothing on, what is put is what the plans ask.
use Rattle.std.proofs.Common.{◌≡◌, [], map, ◌∙◌, arith}
use Rattle.std.proofs.lemmas.Grind.{common_steps}
use Rattle.plan_ir.specs.ReaderMeaning.{collect_reader}
use Rattle.plan_ir.specs.store_model.Items.{collect_all}
use Rattle.store_read.proofs.GatherSteps.{parts_next, part_spreads_next}
use Rattle.store_read.proofs.SpreadSteps.{onto_none}
use Rattle.store_read.proofs.gathered.gather.Goals as goal
use Rattle.store_read.specs.FieldView.{part_at}
use Rattle.store_read.specs.Gathering.{spreads_in}
use Rattle.store_read.specs.Spreads.{pointers_onto}

pub parts-preserved : goal.parts-preserved
parts-preserved c = record {
  groups = parts_next c.args.object.now c.args.parts.now c.parts.part-index c.part-item.result (omega arith) c.part-item.is _ _ _ c.in_ok-put_part.ensures.groups c.parts.invariant.groups;
  spreads = part_spreads_next c.args.object.now c.args.parts.now c.parts.part-index c.part-item.result (omega arith) c.part-item.is _ _ _ c.in_ok-put_part.ensures.spreads c.parts.invariant.spreads;
  placed = c.in_ok-put_part.ensures.placed;
}

pub returns-clause-spreads : goal.returns-clause-spreads
returns-clause-spreads c =
    let items = collect_all collect_reader c.args.object.now (map part_at c.args.parts.now) in
    let put : spreads_in c.parts.gathered ≡ pointers_onto [] items = grind (arith, common_steps) in
    put ∙ onto_none items
