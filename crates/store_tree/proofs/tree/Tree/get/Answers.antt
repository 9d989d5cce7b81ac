use Rattle.std.proofs.Common.{◌∙◌}
use Rattle.store_tree.proofs.Seen.{seen-find}
use Rattle.store_tree.proofs.tree.Tree.get.Goals as goal

pub returns-clause-found : goal.returns-clause-found
returns-clause-found g c = c.get.ensures ∙ seen-find c.root.result.now.pairs c.args.self.now.pairs c.root.ensures.pairs c.args.key.now
