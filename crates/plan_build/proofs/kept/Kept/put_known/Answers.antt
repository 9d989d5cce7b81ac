-- What is put is right, and so is the rest.
use Rattle.std.proofs.lemmas.Map.Text.{btree_map_updates_str}
use Rattle.plan_build.specs.KnownView.{IsKnown}
use Rattle.plan_build.proofs.KeptSteps.{put_some}
use Rattle.plan_build.proofs.kept.Kept.put_known.Goals as goal

pub returns : goal.returns
returns c = λ defs right here. record {
  ids_right = right.ids_right;
  known_right = λ n known e. put_some (IsKnown defs) c.args.of.now n c.args.known known _ _ (btree_map_updates_str c.args.of.now c.args.self.now.known c.insert.new.self _ c.in_ok-insert.ensures.updates n)
      here (right.known_right n known) e;
}
