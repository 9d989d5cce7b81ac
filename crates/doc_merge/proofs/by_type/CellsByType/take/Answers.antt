-- What is taken out is what was kept, and the others are left.
use Rattle.std.proofs.Common.{None, bytes_eq, refl}
use Rattle.std.proofs.lemmas.Map.Text.{btree_map_updates_str}
use Rattle.doc_merge.proofs.MapSteps.{left_without, taken_none, taken_some}
use Rattle.doc_merge.specs.CellView.{cells_of}
use Rattle.doc_merge.proofs.by_type.CellsByType.take.Goals as goal

pub returns-in-Some-clause-taken : goal.returns-in-Some-clause-taken
returns-in-Some-clause-taken c = taken_some cells_of _ _ _ _ c.in-Some.is c.remove.ensures.value refl

pub returns-in-Some-clause-left : goal.returns-in-Some-clause-left
returns-in-Some-clause-left c = λ n.
    left_without cells_of (bytes_eq c.args.object.now n) _ _ _ (btree_map_updates_str c.args.object.now c.args.self.now.by_type c.remove.new.self None c.remove.ensures.updates n) refl

pub returns-in-None-clause-taken : goal.returns-in-None-clause-taken
returns-in-None-clause-taken c = taken_none cells_of _ _ _ _ c.in-None.is c.remove.ensures.value c.new.ensures refl

pub returns-in-None-clause-left : goal.returns-in-None-clause-left
returns-in-None-clause-left c = λ n.
    left_without cells_of (bytes_eq c.args.object.now n) _ _ _ (btree_map_updates_str c.args.object.now c.args.self.now.by_type c.remove.new.self None c.remove.ensures.updates n) refl
