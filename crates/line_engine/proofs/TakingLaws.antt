-- A handle under the name that the machine has.
use Rattle.std.proofs.Common.{refl}
use Rattle.line_engine.specs.Handles.{held_as}
use Rattle.line_engine.specs.Stands.{KeepsHandle}
use Rattle.relay_machine.specs.Machine.{Handle, Project}
use Rattle.plan_ir.specs.schema_tables.Types.{Text}
use Rattle.store_retain.specs.declared.held.Held.{Held}

pub renamed : (p : Project) (name : Text) (held : Held) (h : Handle) → KeepsHandle p (held_as name held) h → KeepsHandle p (held_as h.name held) h
renamed p name held h keeps = record { name = refl; operation = keeps.operation; root = keeps.root; values = keeps.values }
