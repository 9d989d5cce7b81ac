-- Handles by their names, and what they hold.
use Rattle.std.specs.Prelude.{List, [], ◌∷◌, cond, bytes_eq, Option, Some, None}
use Rattle.line_engine.specs.Kept.{HandleKept, OperationKept}
use Rattle.plan_ir.specs.schema_tables.Types.{Text}
use Rattle.store_retain.specs.declared.held.Held.{Held}

-- what is kept under a name
abbrev pub held_as : Text → Held → HandleKept
held_as name h = record { name = name; operation = h.name; root = h.env.value.root; values = h.env.value.values }

abbrev pub handle_kept : Text × Held → HandleKept
handle_kept named = held_as named.0 named.1

abbrev pub operation_kept : Held → OperationKept
operation_kept h = record { operation = h.name; root = h.env.value.root; values = h.env.value.values }

-- the handle of a name
abbrev pub handle_under : List HandleKept → Text → Option HandleKept
handle_under [] name = None
handle_under (k ∷ ks) name = cond (bytes_eq k.name name) (Some k) (handle_under ks name)
