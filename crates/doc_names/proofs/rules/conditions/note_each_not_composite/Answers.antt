-- One more of the list.
use Rattle.std.proofs.Common.{arith}
use Rattle.doc_sites.specs.schema_trees.LocatedView.{name_of}
use Rattle.doc_sites.specs.schema_types.NameRules.{not_composite}
use Rattle.doc_names.proofs.NameSteps.{no_name, noted_at}
use Rattle.doc_names.proofs.rules.conditions.note_each_not_composite.Goals as goal

pub conditions-preserved : goal.conditions-preserved
conditions-preserved c = noted_at name_of (not_composite c.args.schema.now) c.args.conditions.now c.conditions.name-index no_name _ _ _ (omega arith) c.note_not_composite.ensures c.conditions.invariant
