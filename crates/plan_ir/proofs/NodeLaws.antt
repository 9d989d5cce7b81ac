-- Laws of nodes.
use Rattle.std.proofs.Common.{◌≡◌, List, [], ◌∷◌, ◌++◌, refl, ap, length, arith}
use Rattle.relay_marks.specs.gql_ast.TypeView.{ty_of}
use Rattle.plan_ir.specs.declared.node.Node.{Node}
use Rattle.plan_ir.specs.declared.node.Node.TheVariants as N
use Rattle.plan_ir.specs.Nodes.{Nodes, end, field, inline, nodes_append, number_of}
use Rattle.plan_ir.specs.NodesView.{nodes_of}

pub nodes_of-append : (xs ys : List Node) → nodes_of (xs ++ ys) ≡ nodes_append (nodes_of xs) (nodes_of ys)
nodes_of-append [] ys = refl
nodes_of-append (N.Field r n xs ds c u s p ∷ zs) ys = ap (λ t. field r n xs ds c (ty_of u) s p t) (nodes_of-append zs ys)
nodes_of-append (N.Inline o ds s p ∷ zs) ys = ap (λ t. inline o ds s p t) (nodes_of-append zs ys)

pub number_of-nodes_of : (xs : List Node) → number_of (nodes_of xs) ≡ length xs
number_of-nodes_of [] = refl
number_of-nodes_of (N.Field r n xs ds c u s p ∷ zs) = omega (arith, number_of-nodes_of zs)
number_of-nodes_of (N.Inline o ds s p ∷ zs) = omega (arith, number_of-nodes_of zs)

-- only no nodes make the empty list
pub nodes_of-end : (xs : List Node) → nodes_of xs ≡ end → xs ≡ []
nodes_of-end [] e = refl
nodes_of-end (N.Field r n xs ds c u s p ∷ zs) e = absurd (omega (arith, ap number_of e))
nodes_of-end (N.Inline o ds s p ∷ zs) e = absurd (omega (arith, ap number_of e))

-- laws of lists of nodes that are put behind one another
pub nodes_append_end : (s : Nodes) → nodes_append s end ≡ s
nodes_append_end end = refl
nodes_append_end (field r n xs ds c u s p t) = ap (λ r'. field r n xs ds c u s p r') (nodes_append_end t)
nodes_append_end (inline o ds s p t) = ap (λ r'. inline o ds s p r') (nodes_append_end t)

pub nodes_append_assoc : (a b d : Nodes) → nodes_append (nodes_append a b) d ≡ nodes_append a (nodes_append b d)
nodes_append_assoc end b d = refl
nodes_append_assoc (field r n xs ds c u s p a) b d = ap (λ q. field r n xs ds c u s p q) (nodes_append_assoc a b d)
nodes_append_assoc (inline o ds s p a) b d = ap (λ q. inline o ds s p q) (nodes_append_assoc a b d)
