-- The nodes that the trees stand for.
use Rattle.std.specs.Prelude.{List, [], ◌∷◌}
use Rattle.relay_marks.specs.gql_ast.TypeView.{ty_of}
use Rattle.plan_ir.specs.declared.node.Node.{Node}
use Rattle.plan_ir.specs.declared.node.Node.TheVariants as N
use Rattle.plan_ir.specs.Nodes.{Nodes, end, field, inline}

-- a node, and then these
abbrev pub node_before : Node → Nodes → Nodes
node_before (N.Field r n xs ds c of s p) t = field r n xs ds c (ty_of of) s p t
node_before (N.Inline o ds s p) t = inline o ds s p t

-- a node alone
abbrev pub node_of : Node → Nodes
node_of x = node_before x end

abbrev pub nodes_of : List Node → Nodes
nodes_of [] = end
nodes_of (x ∷ xs) = node_before x (nodes_of xs)
