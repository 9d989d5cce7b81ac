use Rattle.store_source.proofs.Laid.{laid_nodes, laid_removed}
use Rattle.store_source.proofs.versions.VersionsRecordSource.remove.Goals as goal

pub returns-in_err-tree-clause-nodes : goal.returns-in_err-tree-clause-nodes
returns-in_err-tree-clause-nodes c = laid_nodes c.self.inside.newest.items c.self.inside.tree.pairs _ c.self.view_is c.take_out.ensures.in_order _ _ c.take_out.ensures.bound

pub returns-clause-records : goal.returns-clause-records
returns-clause-records c =
    laid_removed c.self.inside.newest.items c.in_ok-newest.newest.items c.self.inside.tree.pairs c.in_ok-tree.tree.pairs _ c.self.view_is c.take_out.ensures.in_order c.args.id.now
    c.in_ok-newest.ensures c.in_ok-tree.ensures.pairs

pub returns-clause-nodes : goal.returns-clause-nodes
returns-clause-nodes c = laid_nodes c.self.inside.newest.items c.self.inside.tree.pairs _ c.self.view_is c.take_out.ensures.in_order _ _ c.take_out.ensures.bound
