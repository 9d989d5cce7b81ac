-- One more interface.
use Rattle.std.proofs.Common.{[], map, get_or, arith}
use Rattle.schema_trees.specs.LocatedView.{name_of, field_of}
use Rattle.schema_rules.specs.Rules as rules
use Rattle.schema_trees.specs.declared.located.NameAt.{NameAt}
use Rattle.gql_graph.proofs.LeastSteps.{each_next}
use Rattle.schema_rules.proofs.FoundAt.{get_or_own}
use Rattle.schema_rules.proofs.rules.fields.note_lacks.Goals as goal

none : NameAt
none = record { name = record { ref_ptr = (0, 0); now = [] }; at = 0 }

pub interfaces-preserved : goal.interfaces-preserved
unfolding none
interfaces-preserved c =
    each_next name_of (rules.lacks_of_interface c.args.tables.now (name_of c.args.name.now) (map field_of c.args.fields.now)) c.args.interfaces.now c.interfaces.interface-index
    (get_or c.args.interfaces.now c.interfaces.interface-index none) c.interfaces.least.at c.note_interface.new.least.at _ (omega arith) (get_or_own c.args.interfaces.now c.interfaces.interface-index none (omega arith))
    c.in_ok-note_interface.ensures c.interfaces.invariant
