-- No name is found so far.
use Rattle.std.proofs.Common.{◌≡◌, drop}
use Rattle.line_engine.proofs.types.unknown_type.Given as goal
use Rattle.relay_machine.specs.Machine.{first_refused}

abbrev pub invariant-commands : goal.invariant-commands
invariant-commands l = first_refused l.schema l.commands ≡ first_refused l.schema (drop l.command-index l.command-items)
