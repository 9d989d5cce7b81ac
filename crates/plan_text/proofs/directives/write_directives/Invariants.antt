-- What is written, followed by what is left, is the whole.
use Rattle.std.proofs.Common.{◌≡◌, ◌++◌, drop, string_bytes}
use Rattle.plan_ir.specs.OperationText.{directives_text}
use Rattle.plan_text.proofs.directives.write_directives.Given as goal

abbrev pub invariant-items : goal.invariant-items
invariant-items l =
    string_bytes l.out ++ directives_text (drop l.directive-index l.directive-items) ≡ string_bytes l.initial.out ++ directives_text l.directive-items
