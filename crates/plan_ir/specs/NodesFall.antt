-- What a node holds is less deep than it.
use Rattle.std.specs.Prelude.{◌≤◌, List, [], ◌∷◌, max}
use Rattle.std.proofs.Common.{arith}
use denote.Param.Weighed.{most}
use Rattle.plan_ir.specs.declared.node.Node.{Node}
use Rattle.plan_ir.specs.declared.node.Node.TheVariants as N
use Rattle.plan_ir.specs.declared.node.Nodes.TheDeep.{deep-Node}
use Rattle.plan_ir.specs.Nodes.{Nodes, set_depth}
use Rattle.plan_ir.specs.NodesView.{node_before, nodes_of}

node_falls : (x : Node) (t : Nodes) → max (deep-Node x) (set_depth t) ≤ set_depth (node_before x t)
node_falls (N.Field r n xs ds c of s p) t = omega arith
node_falls (N.Inline o ds s p) t = omega arith

pub nodes_fall : (xs : List Node) → max (most deep-Node xs) 0 ≤ set_depth (nodes_of xs)
nodes_fall [] = omega arith
nodes_fall (x ∷ xs) = omega (arith, node_falls x (nodes_of xs), nodes_fall xs)
