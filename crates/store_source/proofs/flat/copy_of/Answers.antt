use Rattle.store_source.proofs.InMemory.{copied_records}
use Rattle.store_source.proofs.flat.copy_of.Goals as goal

pub returns : goal.returns
returns c = copied_records c.args.slots.now.entries c.in_ok-clone.field-0.entries c.in_ok-clone.ensures.cases
