use Rattle.std.proofs.Common.{◌∙◌}
use Rattle.store_source.proofs.Laid.{laid_nodes, laid_oldest}
use Rattle.store_source.proofs.versions.Versions.with_room.Goals as goal

pub returns-in_err-tree-in-Some-clause-nodes : goal.returns-in_err-tree-in-Some-clause-nodes
returns-in_err-tree-in-Some-clause-nodes c = laid_nodes c.self.inside.newest.items c.self.inside.tree.pairs _ c.self.view_is c.put_item.ensures.in_order _ _ c.put_item.ensures.bound

pub returns-in_ok-tree-in-Some-clause-records : goal.returns-in_ok-tree-in-Some-clause-records
returns-in_ok-tree-in-Some-clause-records c =
    laid_oldest c.self.inside.newest.items c.pop.new.self.items c.in-Some.oldest c.self.inside.tree.pairs c.in_ok-tree-in-Some.tree.pairs c.put_item.ensures.in_order
    c.in-Some.ensures.items c.in_ok-tree-in-Some.ensures.pairs
    ∙ c.self.view_is

pub returns-in_ok-tree-in-Some-clause-nodes : goal.returns-in_ok-tree-in-Some-clause-nodes
returns-in_ok-tree-in-Some-clause-nodes c = laid_nodes c.self.inside.newest.items c.self.inside.tree.pairs _ c.self.view_is c.put_item.ensures.in_order _ _ c.put_item.ensures.bound
