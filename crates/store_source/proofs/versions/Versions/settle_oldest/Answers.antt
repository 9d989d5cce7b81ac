use Rattle.std.proofs.Common.{◌∙◌}
use Rattle.store_source.proofs.Laid.{laid_oldest}
use Rattle.store_source.proofs.versions.Versions.settle_oldest.Goals as goal

pub returns-in-None : goal.returns-in-None
returns-in-None c =
    laid_oldest c.self.inside.newest.items c.pop.new.self.items c.in-Some.oldest c.self.inside.tree.pairs c.write.new.self.pairs c.write.ensures.in_order
    c.in-Some.ensures.items (c.write.ensures.written c.in-None.is)
    ∙ c.self.view_is
