-- A type's name is its last node.
use Rattle.schema_trees.proofs.LocatedSteps.{type_place}
use Rattle.schema_trees.proofs.located.type_at.Goals as goal

pub returns-clause-typed : goal.returns-clause-typed
returns-clause-typed c = type_place c.args.at.now c.args.of.now c.pass_type.new.at c.in_ok-pass_type.ensures
