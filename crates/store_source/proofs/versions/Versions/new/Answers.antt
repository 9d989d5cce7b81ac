use Rattle.std.proofs.Common.{◌∙◌, ap}
use Rattle.std.specs.FinMap.{from_sorted}
use Rattle.store_source.proofs.InTree.{tree_empty}
use Rattle.store_source.specs.Newest.{laid}
use Rattle.store_source.proofs.versions.Versions.new.Goals as goal

pub returns : goal.returns
returns c = ap (λ es. laid es (from_sorted c.new.result.pairs)) c.new-2.ensures.items ∙ tree_empty c.new.result.pairs (ap (λ t. t.pairs) c.new.ensures)
