use Rattle.std.proofs.Common.{refl, arith}
use Rattle.store_model.specs.Entries.{named_by_command, named_by_commands}
use Rattle.store_sweeps.proofs.Written.{written_next, written_end}
use Rattle.store_sweeps.proofs.naming.put_named_by_commands.Goals as goal

pub commands-preserved : goal.commands-preserved
commands-preserved c = written_next (named_by_command) (named_by_commands) (λ k ks. refl) c.args.commands.now c.commands.command-index c.command-item.result c.commands.ids.items _ _ (omega arith) c.command-item.is c.in_ok-put_named_by_command.ensures c.commands.invariant

pub returns : goal.returns
returns c = written_end (named_by_command) (named_by_commands) (λ k ks. refl) refl c.args.commands.now c.commands.command-index c.commands.ids.items _ (omega arith) c.commands.invariant
