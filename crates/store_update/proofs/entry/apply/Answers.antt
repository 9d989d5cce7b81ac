use Rattle.std.proofs.Common.{arith}
use Rattle.store_update.proofs.Noted.{again_few, again_picked}
use Rattle.store_update.proofs.entry.apply.Goals as goal
use Rattle.store_update.specs.Turns.{turns_of}

pub returns-clause-looks : goal.returns-clause-looks
returns-clause-looks g c = omega (arith, c.apply.ensures.looks, c.draft_of.ensures.looks, c.touched.ensures.looks, c.in_ok-draft.ensures.few, again_few c.in_ok-draft.draft.noted.items)

pub returns-in_err-touched-clause-looks : goal.returns-in_err-touched-clause-looks
returns-in_err-touched-clause-looks g c = omega (arith, c.apply.ensures.looks, c.draft_of.ensures.looks, c.touched.ensures.looks, c.in_ok-draft.ensures.few, again_few c.in_ok-draft.draft.noted.items)

pub returns-clause-turns : goal.returns-clause-turns
returns-clause-turns g c of =
    omega (arith, c.apply.ensures.looks, c.draft_of.ensures.turns of, c.touched.ensures.looks, again_picked (turns_of c.args.entry.now) c.in_ok-draft.draft.noted.items (c.in_ok-draft.ensures.picked of))

pub returns-in_err-touched-clause-turns : goal.returns-in_err-touched-clause-turns
returns-in_err-touched-clause-turns g c of =
    omega (arith, c.apply.ensures.looks, c.draft_of.ensures.turns of, c.touched.ensures.looks, again_picked (turns_of c.args.entry.now) c.in_ok-draft.draft.noted.items (c.in_ok-draft.ensures.picked of))
