use Rattle.std.proofs.Common.{◌≡◌, ◌+◌, drop}
use Rattle.std.specs.List.{prefix_len}
use Rattle.store_update.proofs.run.run_of.Given as goal
use Rattle.store_update.specs.Turns.{goes_with}

abbrev pub invariant-commands : goal.invariant-commands
invariant-commands l = record {
  count : l.count ≡ l.command-index;
  all : prefix_len (goes_with l.id) l.commands ≡ l.command-index + prefix_len (goes_with l.id) (drop l.command-index l.commands);
}
