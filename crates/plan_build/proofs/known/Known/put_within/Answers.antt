-- One more type.
use Rattle.std.proofs.Common.{◌≡◌}
use Rattle.std.proofs.lemmas.Map.Text.{btree_map_updates_str}
use Rattle.plan_ir.specs.schema_tables.Types.{possible}
use Rattle.plan_build.specs.Steps.{are_within}
use Rattle.plan_build.proofs.KeptSteps.{put_some}
use Rattle.plan_build.proofs.known.Known.put_within.Goals as goal

pub returns : goal.returns
returns c = λ defs of known is. record {
  withins = λ o b e. put_some (λ m x. x ≡ are_within (possible defs m) (possible defs of)) c.args.on.now o c.args.within b _ _
      (btree_map_updates_str c.args.on.now c.args.self.now.within c.insert.new.self _ c.in_ok-insert.ensures.updates o) is (known.withins o b) e;
  targets = known.targets;
}
