use Rattle.std.proofs.Common.{map}
use Rattle.store_model.specs.declared.command.Command.{Command}
use Rattle.image_text.proofs.RowLaws.{Carries, Continues}
use Rattle.image_text.specs.Lines.{command_row}
use Rattle.image_text.specs.Made.{IsCommandMade}
use Rattle.image_text.proofs.entry.write_commands.Given as goal

abbrev pub invariant-commands : goal.invariant-commands
invariant-commands l = record {
  rows : Continues {X = Command} (λ cs. map command_row cs) l.command-items l.command-index l.initial.out.items l.out.items;
  made : Carries (IsCommandMade) l.command-items l.command-index;
}
