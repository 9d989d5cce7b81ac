-- What a line that sweeps tells of the live layers.
use Rattle.std.specs.Prelude.{◌≡◌, true}
use Rattle.std.specs.List.{AllByRecursion}
use Rattle.line_engine.specs.Kept.{Kept}
use Rattle.relay_machine.specs.Effects.{sweeps}
use Rattle.plan_ir.specs.store_model.Events.{Line}
use Rattle.plan_ir.specs.store_model.Said.{HaveHandleKeys}
use Rattle.plan_ir.specs.store_model.declared.entry.Entry.{Entry}
use Rattle.store_layers.specs.Layered.{entries_of}

-- where a line sweeps, the pages of each live layer have the keys of handles
abbrev pub HasHandleKeys : Kept → Line → Type 0
HasHandleKeys k line = sweeps line ≡ true → AllByRecursion (λ (e : Entry). HaveHandleKeys e.facts.handles) (entries_of k.layers.live)
