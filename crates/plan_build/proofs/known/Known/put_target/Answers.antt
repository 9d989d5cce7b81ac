-- One more field.
use Rattle.std.proofs.lemmas.Map.Text.{btree_map_updates_str}
use Rattle.plan_ir.specs.schema_tables.Types.{possible}
use Rattle.plan_build.proofs.KeptSteps.{target_with}
use Rattle.plan_build.proofs.known.Known.put_target.Goals as goal

pub returns : goal.returns
returns c = λ defs of known is. record {
  withins = known.withins;
  targets = λ n t e. target_with defs (possible defs of) c.args.name.now n c.args.target t _ _
      (btree_map_updates_str c.args.name.now c.args.self.now.targets c.insert.new.self _ c.in_ok-insert.ensures.updates n) is (known.targets n t) e;
}
