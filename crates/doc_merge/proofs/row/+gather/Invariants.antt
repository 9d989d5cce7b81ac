-- What is put and what is left are the whole; a node is at most as deep as its set.
use Rattle.std.proofs.Common.{◌≡◌, ◌+◌, ◌*◌, ◌++◌, map, drop}
use Rattle.std.specs.Prelude.{option_copied}
use Rattle.plan_ir.specs.Nodes.{set_depth}
use Rattle.plan_ir.specs.NodesView.{node_of, nodes_of}
use Rattle.doc_merge.specs.Gathering.{fields_of}
use Rattle.doc_merge.specs.Paths.{rows_of}
use Rattle.doc_merge.specs.RowView.{row_of}
use Rattle.doc_merge.proofs.row.+gather.Given as goal

abbrev pub decreases-put_fields : goal.decreases-put_fields
decreases-put_fields l = 2 * set_depth l.nodes.now + 1

abbrev pub decreases-put_node : goal.decreases-put_node
decreases-put_node l = 2 * set_depth (node_of l.node.now)

abbrev pub invariant-put_fields-nodes : goal.invariant-put_fields-nodes
invariant-put_fields-nodes l =
    (nodes_of l.node-items ≡ l.nodes)
    × (map (row_of l.schema) l.rows.items ++ rows_of (map option_copied l.pattern) (fields_of l.schema l.around (nodes_of (drop l.node-index l.node-items)))
    ≡ map (row_of l.schema) l.initial.rows.items ++ rows_of (map option_copied l.pattern) (fields_of l.schema l.around l.nodes))
