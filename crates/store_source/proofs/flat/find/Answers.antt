use Rattle.std.proofs.Common.{Some, sym, ap, ◌∙◌}
use Rattle.store_source.proofs.InMemory.{slot_found, slots_of}
use Rattle.store_source.proofs.flat.find.Goals as goal

pub returns-in-Some : goal.returns-in-Some
returns-in-Some c = ap Some c.as_ref.ensures ∙ ap slots_of c.in-Some.ensures.value ∙ sym (slot_found c.args.slots.now c.args.id.now)

pub returns-in-None : goal.returns-in-None
returns-in-None c = ap slots_of c.in-None.ensures.value ∙ sym (slot_found c.args.slots.now c.args.id.now)
