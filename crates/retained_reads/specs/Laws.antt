-- The laws of retained reads: a sweep changes no read of an operation that is retained, nor of a pointer that one gives; whichever of the live layers
-- are taken off.
use Rattle.std.specs.Prelude.{Bool, List}
use Rattle.std.specs.List.{AllByRecursion}
use Rattle.plan_project.specs.Projects.{IsAcceptedProject}
use Rattle.relay_machine.specs.Machine.{Project, Retained, sweep_of}
use Rattle.retained_reads.specs.Reads.{IsOfDocuments, StaysRead}
use Rattle.plan_ir.specs.schema_tables.Types.{Text}
use Rattle.plan_ir.specs.store_model.Entries.{fold_entries}
use Rattle.plan_ir.specs.store_model.Records.{Records}
use Rattle.plan_ir.specs.store_model.Said.{HaveHandleKeys}
use Rattle.plan_ir.specs.store_model.declared.entry.Entry.{Entry}
use Rattle.store_sweeps.specs.Swept.{chosen}

-- for operations of an accepted project, in all records, whatever layers are live, and for every owner
abbrev pub SweepsKeepReads : Type 0
SweepsKeepReads = (p : Project) → IsAcceptedProject p.defs p.documents → (rs : List Retained) → AllByRecursion (IsOfDocuments p) rs → (live : List Entry) (owner : Text) (m : Records)
    → AllByRecursion (StaysRead p owner m (sweep_of p rs live m)) rs

-- the same in the folds of some of the live layers over the records before and after
abbrev pub SweepsKeepLayeredReads : Type 0
SweepsKeepLayeredReads = (p : Project) → IsAcceptedProject p.defs p.documents → (rs : List Retained) → AllByRecursion (IsOfDocuments p) rs
    → (live : List Entry) → AllByRecursion (λ e. HaveHandleKeys e.facts.handles) live → (choice : List Bool) (owner : Text) (m : Records)
    → AllByRecursion (StaysRead p owner (fold_entries (chosen choice live) m) (fold_entries (chosen choice live) (sweep_of p rs live m))) rs
