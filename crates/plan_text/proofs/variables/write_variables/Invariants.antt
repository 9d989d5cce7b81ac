-- What is written, followed by what is left, is the whole.
use Rattle.std.proofs.Common.{◌≡◌, ◌++◌, false, map, drop, string_bytes}
use Rattle.plan_ir.specs.OperationText.{variable_text}
use Rattle.plan_text.proofs.Joining.{join_from}
use Rattle.plan_text.proofs.variables.write_variables.Given as goal

abbrev pub invariant-items : goal.invariant-items
invariant-items l =
    string_bytes l.out ++ join_from l.begun 44 (map variable_text (map (λ v. v.now) (drop l.variable-index l.variables)))
    ≡ string_bytes l.initial.out ++ join_from false 44 (map variable_text (map (λ v. v.now) l.variables))
