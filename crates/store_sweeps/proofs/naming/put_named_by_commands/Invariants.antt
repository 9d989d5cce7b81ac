use Rattle.std.proofs.Common.{◌≡◌, ◌++◌, drop}
use Rattle.store_model.specs.Entries.{named_by_commands}
use Rattle.store_sweeps.proofs.naming.put_named_by_commands.Given as goal

abbrev pub invariant-commands : goal.invariant-commands
invariant-commands l = l.ids.items ++ named_by_commands (drop l.command-index l.commands) ≡ l.fn.ids.items ++ named_by_commands l.commands
