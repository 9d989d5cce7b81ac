-- The laws of retained reads at a call that has stepped.
use Rattle.std.proofs.Common.{◌≡◌, ℕ, true, List, [], ◌∷◌, ◌++◌, map, sym, ◌∙◌, subst}
use Rattle.std.specs.List.{AllByRecursion}
use Rattle.line_engine.specs.plan_project.Projects.{IsAcceptedProject}
use Rattle.line_engine.specs.Kept.{HandleKept, Kept, OperationKept}
use Rattle.line_engine.specs.Stands.{KeepsHandles, KeepsReleased, StandsFor}
use Rattle.line_engine.specs.Steps.{HasStepped}
use Rattle.line_engine.specs.Sweeping.{HasHandleKeys}
use Rattle.line_engine.specs.store_layers.Layered.{entries_of}
use Rattle.line_engine.specs.store_sweeps.Swept.{chosen}
use Rattle.line_engine.proofs.StandingLaws.{entries_are}
use Rattle.line_engine.specs.declared.lines.Lines.{Lines}
use Rattle.line_engine.proofs.relay_machine_laws.Sweeps.{confirmed_after}
use Rattle.line_engine.specs.relay_machine.Effects.{sweeps}
use Rattle.line_engine.specs.relay_machine.Machine.{Handle, Project, Retained, State, base, last_of, layer_entries, retained, retained_by, step_line, sweep_of, swept}
use Rattle.plan_ir.specs.store_model.Entries.{fold_entries}
use Rattle.plan_ir.specs.store_model.Events as e
use Rattle.plan_ir.specs.store_model.Events.{Line}
use Rattle.plan_ir.specs.store_model.Records.{no_records}
use Rattle.plan_ir.specs.store_model.Said.{HaveHandleKeys}
use Rattle.plan_ir.specs.store_model.declared.entry.Entry.{Entry}
use Rattle.relay_engine.proofs.LaterLaws.{of_sweep}
use Rattle.relay_engine.specs.RetainedReads.{KeepsLayeredReads, KeepsRetainedReads}
use Rattle.retained_reads.proofs.Sweeping.{sweeps_keep_reads, sweeps_keep_layered_reads}
use Rattle.retained_reads.specs.Reads.{IsOfDocuments, StaysRead}

-- ---- what is retained are operations of the documents

module _ (p : Project) where
  handles_named : (ks : List HandleKept) (hs : List Handle) → KeepsHandles p ks hs → AllByRecursion (IsOfDocuments p) (map retained_by hs)
  handles_named [] [] k = tt
  handles_named [] (h ∷ hs) k = absurd k
  handles_named (x ∷ ks) [] k = absurd k
  handles_named (x ∷ ks) (h ∷ hs) k = ((x.operation, k.0.operation), handles_named ks hs k.1)

  released_named : (ks : List OperationKept) (rs : List Retained) → KeepsReleased p ks rs → AllByRecursion (IsOfDocuments p) rs
  released_named [] [] k = tt
  released_named [] (r ∷ rs) k = absurd k
  released_named (x ∷ ks) [] k = absurd k
  released_named (x ∷ ks) (r ∷ rs) k = ((x.operation, k.0.operation), released_named ks rs k.1)

  both_named : (rs qs : List Retained) → AllByRecursion (IsOfDocuments p) rs → AllByRecursion (IsOfDocuments p) qs → AllByRecursion (IsOfDocuments p) (rs ++ qs)
  both_named [] qs none all = all
  both_named (r ∷ rs) qs all more = (all.0, both_named rs qs all.1 more)

  retained_named : (k : Kept) (s : State) → StandsFor k p s → AllByRecursion (IsOfDocuments p) (retained k.buffer s)
  retained_named k s stands =
      both_named (map retained_by s.handles) (last_of k.buffer s.released) (handles_named k.handles s.handles stands.handles) (released_named k.released (last_of k.buffer s.released) stands.released)

-- ---- after a sweep

-- its base, and the live layers
record HasSwept (old new : Kept) (p : Project) (s : State) : Type 0 where
  base : new.layers.base ≡ sweep_of p (retained old.buffer s) (layer_entries s) (base p s)
  live : entries_of new.layers.live ≡ layer_entries s

has_swept : (old new : Kept) (n : ℕ) (line : Line) (lines : Lines) → HasStepped old new lines (λ p s. step_line p old.buffer s n line)
    → (p : Project) (s : State) → StandsFor old p s → sweeps line ≡ true → HasSwept old new p s
has_swept old new n line lines stepped p s stands sweeping =
    of_sweep (λ l. StandsFor new p (step_line p old.buffer s n l).state → HasSwept old new p s) line sweeping
    (λ after. record {
      base = after.base ∙ confirmed_after p s.entries (swept (retained old.buffer s) (layer_entries s)) no_records;
      live = entries_are new p (step_line p old.buffer s n (e.event e.collect)).state after;
    }) (stepped p s stands).stands

module _ (old new : Kept) (n : ℕ) (line : Line) (lines : Lines) (accepted : IsAcceptedProject old.defs old.documents)
    (stepped : HasStepped old new lines (λ p s. step_line p old.buffer s n line)) where
  known : (p : Project) (s : State) → StandsFor old p s → IsAcceptedProject p.defs p.documents
  known p s stands = subst (λ d. IsAcceptedProject d p.documents) stands.schema (subst (IsAcceptedProject old.defs) stands.documents accepted)

  pub retained_reads : KeepsRetainedReads old new line
  retained_reads p s stands sweeping owner =
      let rs = retained old.buffer s in
      let law = sweeps_keep_reads p (known p s stands) rs (retained_named p old s stands) (layer_entries s) owner (base p s) in
      let after = has_swept old new n line lines stepped p s stands sweeping in
      subst (λ m. AllByRecursion (StaysRead p owner m new.layers.base) rs) (sym stands.base) (subst (λ m. AllByRecursion (StaysRead p owner (base p s) m) rs) (sym after.base) law)

  pub layered_reads : HasHandleKeys old line → KeepsLayeredReads old new line
  layered_reads keys p s stands sweeping owner choice =
      let rs = retained old.buffer s in
      let live = layer_entries s in
      let before : entries_of old.layers.live ≡ live = entries_are old p s stands in
      let handles : AllByRecursion (λ (x : Entry). HaveHandleKeys x.facts.handles) live = subst (AllByRecursion (λ (x : Entry). HaveHandleKeys x.facts.handles)) before (keys sweeping) in
      let law = sweeps_keep_layered_reads p (known p s stands) rs (retained_named p old s stands) live handles choice owner (base p s) in
      let after = has_swept old new n line lines stepped p s stands sweeping in
      let earlier : fold_entries (chosen choice live) (base p s) ≡ fold_entries (chosen choice (entries_of old.layers.live)) old.layers.base
      = λ i. fold_entries (chosen choice (sym before i)) (sym stands.base i) in
      let later : fold_entries (chosen choice live) (sweep_of p rs live (base p s)) ≡ fold_entries (chosen choice (entries_of new.layers.live)) new.layers.base
      = λ i. fold_entries (chosen choice (sym after.live i)) (sym after.base i) in
      subst (λ m. AllByRecursion (StaysRead p owner m (fold_entries (chosen choice (entries_of new.layers.live)) new.layers.base)) rs) earlier
      (subst (λ m. AllByRecursion (StaysRead p owner (fold_entries (chosen choice live) (base p s)) m) rs) later law)
