-- What is taken out is right, and so is what is left.
use Rattle.std.proofs.Common.{None, bytes_eq, sym, ◌∙◌}
use Rattle.std.proofs.lemmas.Map.Text.{btree_map_updates_str}
use Rattle.plan_build.proofs.KeptSteps.{taken_some}
use Rattle.plan_build.proofs.kept.Kept.take.Goals as goal

pub returns-in-Some-clause-known : goal.returns-in-Some-clause-known
returns-in-Some-clause-known c = λ defs right. right.known_right c.args.of.now _ (sym c.remove.ensures.value ∙ c.in-Some.is)

pub returns-in-Some-clause-right : goal.returns-in-Some-clause-right
returns-in-Some-clause-right c = λ defs right. record {
  ids_right = right.ids_right;
  known_right = λ n known e. right.known_right n known
      (taken_some (bytes_eq c.args.of.now n) known _ _ (btree_map_updates_str c.args.of.now c.args.self.now.known c.remove.new.self None c.remove.ensures.updates n) e);
}

pub returns-in-None-clause-known : goal.returns-in-None-clause-known
returns-in-None-clause-known c = λ defs right. c.new.ensures defs c.args.of.now

pub returns-in-None-clause-right : goal.returns-in-None-clause-right
returns-in-None-clause-right c = λ defs right. record {
  ids_right = right.ids_right;
  known_right = λ n known e. right.known_right n known
      (taken_some (bytes_eq c.args.of.now n) known _ _ (btree_map_updates_str c.args.of.now c.args.self.now.known c.remove.new.self None c.remove.ensures.updates n) e);
}
