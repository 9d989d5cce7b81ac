use Rattle.store_tree.proofs.Seen.{seen-rises, seen-length, seen-low}
use Rattle.store_tree.proofs.tree.Tree.root.Goals as goal

pub returns-clause-in_order : goal.returns-clause-in_order
returns-clause-in_order g c = seen-rises c.self.inside.root _ c.self.view_is

pub returns-clause-len : goal.returns-clause-len
returns-clause-len g c = seen-length c.self.inside.root _ c.self.view_is c.self.invariant

pub returns-clause-low : goal.returns-clause-low
returns-clause-low g c = seen-low c.self.inside.root _ c.self.view_is c.self.invariant c.root.inside.link c.root.invariant c.root.view_is
