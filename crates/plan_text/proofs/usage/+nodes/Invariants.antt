-- What is noted, and what is used in what is left, is what is used in the whole.
use Rattle.std.proofs.Common.{◌≡◌, ◌||◌, drop}
use Rattle.plan_ir.specs.NodesView.{nodes_of}
use Rattle.plan_ir.specs.OperationText.{nodes_use}
use Rattle.plan_text.proofs.usage.+nodes.Given as goal
use Rattle.plan_text.specs.UsedNames.{has_name}
use Rattle.plan_ir.specs.schema_tables.Types.{Text}

abbrev pub invariant-note_nodes-items : goal.invariant-note_nodes-items
invariant-note_nodes-items l = (n : Text)
    → (has_name l.names n || nodes_use n (nodes_of (drop l.node-index l.node-items)))
    ≡ (has_name l.initial.names n || nodes_use n (nodes_of l.node-items))
