use Rattle.std.proofs.Common.{Bool, cond, sym, ap, ◌∙◌}
use Rattle.store_model.specs.Merge.{node_of}
use Rattle.store_conn.proofs.edges.push_new.Goals as goal
use Rattle.store_conn.specs.Nodes.{knows, and_node}

pub returns-then-contains-clause-nodes : goal.returns-then-contains-clause-nodes
returns-then-contains-clause-nodes c = λ other.
    let known = knows c.args.nodes.now.ids in
    let edge = c.args.edge.now in
    let there = sym (ap known (c.node_of-node.ensures ∙ ap node_of c.get.ensures)) ∙ sym c.contains.ensures ∙ c.if-contains.true in
    sym (ap (λ (b : Bool). cond b known (and_node (node_of edge) known) other) there)
