-- What is noted, and what is used in what is left, is what is used in the whole.
use Rattle.std.proofs.Common.{◌≡◌, ◌||◌, drop}
use Rattle.plan_ir.specs.OperationText.{directives_use}
use Rattle.plan_text.proofs.usage.note_directives.Given as goal
use Rattle.plan_text.specs.UsedNames.{has_name}
use Rattle.plan_ir.specs.schema_tables.Types.{Text}

abbrev pub invariant-items : goal.invariant-items
invariant-items l = (n : Text)
    → (has_name l.names n || directives_use n (drop l.directive-index l.directive-items))
    ≡ (has_name l.initial.names n || directives_use n l.directive-items)
