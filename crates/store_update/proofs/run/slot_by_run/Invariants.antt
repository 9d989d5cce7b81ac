use Rattle.std.proofs.Common.{◌≡◌, drop}
use Rattle.std.specs.Option.{option_copied}
use Rattle.store_update.proofs.run.slot_by_run.Given as goal
use Rattle.store_update.specs.Slots.{slot_after, slot_by_commands}

abbrev pub invariant-commands : goal.invariant-commands
invariant-commands l = slot_by_commands (drop l.command-index l.commands) (slot_after l.after (option_copied l.found)) ≡ slot_by_commands l.commands (slot_after l.fn.change (option_copied l.found))
