use Rattle.std.proofs.Common.{◌≡◌, drop}
use Rattle.std.specs.List.{list_all}
use Rattle.image_text.specs.Images.{is_given}
use Rattle.image_rules.proofs.entries.are_given.Given as goal

abbrev pub invariant-commands : goal.invariant-commands
invariant-commands l = list_all is_given l.commands ≡ list_all is_given (drop l.command-index l.commands)
