-- What is kept stays right.
use Rattle.std.proofs.lemmas.Map.Text.{btree_map_updates_str}
use Rattle.plan_build.specs.KeptView.{find}
use Rattle.plan_build.proofs.KeptSteps.{right_with}
use Rattle.plan_build.proofs.kept.Kept.put.Goals as goal

pub returns : goal.returns
returns c = record {
  ids_right = right_with c.args.schema.now c.args.of.now c.args.ids (find c.args.self.now) _ c.requires.right.ids_right c.requires.ids
      (λ n. btree_map_updates_str c.args.of.now c.args.self.now.by_type c.insert.new.self _ c.in_ok-insert.ensures.updates n);
  known_right = c.requires.right.known_right;
}
