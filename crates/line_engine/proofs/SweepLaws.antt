-- A sweep of the base is the machine's.
use Rattle.std.proofs.Common.{◌≡◌, ℕ, false, ◌||◌, List, length, map, refl, sym, ap, subst, ◌∙◌}
use Rattle.plan_ir.specs.gql_plain.Order.{has_text}
use Rattle.plan_ir.specs.store_model.Entries.{all_named}
use Rattle.plan_ir.specs.store_model.Leads.{leads}
use Rattle.plan_ir.specs.store_model.Records.{no_records, slot_at}
use Rattle.plan_ir.specs.store_model.Sweeps.{dropped, sweep}
use Rattle.plan_ir.specs.store_record.Keys.{Text}
use Rattle.line_engine.proofs.ReachLaws.{kept_is}
use Rattle.line_engine.proofs.StandingLaws.{entries_are}
use Rattle.line_engine.specs.Answered.{AreLines}
use Rattle.line_engine.specs.Handles.{handle_kept, operation_kept}
use Rattle.line_engine.specs.Kept as engine
use Rattle.line_engine.specs.Notices.{HasAnswered}
use Rattle.line_engine.specs.Operations.{HoldPlans}
use Rattle.line_engine.specs.Stands.{KeepsHandles, KeepsReleased, StandsFor}
use Rattle.line_engine.specs.declared.lines.Lines.{Lines}
use Rattle.relay_machine.proofs.Sweeps.{confirmed_after}
use Rattle.relay_machine.specs.Machine.{Project, State, base, dropped_ids, is_held, is_reached, last_of, layer_entries, retained, step_collect, sweep_of}
use Rattle.relay_machine.specs.Printed.{collect_line}
use Rattle.store_layers.specs.Layered.{Layered, entries_of, swept, view_of}
use Rattle.store_retain.specs.Kept.{Kept, all_held, is_kept}
use Rattle.store_retain.specs.Steps.{slots_of}
use Rattle.store_watch.specs.Watching.{DifferAt}
use Rattle.store_watch.specs.store_read.Reading.{slots}

-- ---- the records that are seen differ at the ids that go, and nowhere else

pub has_differed : (old ls : Layered) (keep ids : List Text) → ((id : Text) → has_text ids id ≡ false → slot_at id (view_of (swept keep old)) ≡ slot_at id (view_of old))
    → ls ≡ swept keep old → DifferAt ids (slots (view_of old)) (slots (view_of ls))
has_differed old ls keep ids changed made = λ id none. sym (changed id none) ∙ ap (λ (l : Layered). slot_at id (view_of l)) (sym made)

-- ---- the base

module _ (k : engine.Kept) (p : Project) (s : State) (stands : StandsFor k p s)
    (r : Kept) (live : map handle_kept r.live ≡ k.handles) (gone : map operation_kept r.released ≡ k.released) (buffer : r.buffer ≡ k.buffer) (plans : HoldPlans k.defs k.documents (all_held r))
    (keep : List Text)
    (keeps : (j : Text) → has_text keep j ≡ (is_kept (slots_of k.layers.base) (all_held r) j || has_text (leads k.layers.base (all_named (entries_of k.layers.live))) j)) where
  -- the marked ids are those that are reached
  reached_is : (j : Text) → is_kept (slots_of k.layers.base) (all_held r) j ≡ is_reached p (retained k.buffer s) (base p s) j
  reached_is j =
      ap (λ m. is_kept (slots_of m) (all_held r) j) stands.base
      ∙ kept_is p (base p s) j r s (subst (λ ds. HoldPlans ds p.documents (all_held r)) stands.schema (subst (λ ps. HoldPlans k.defs ps (all_held r)) stands.documents plans))
      (subst (λ hs. KeepsHandles p hs s.handles) (sym live) stands.handles)
      (subst (λ b. KeepsReleased p (map operation_kept r.released) (last_of b s.released)) (sym buffer) (subst (λ rs. KeepsReleased p rs (last_of k.buffer s.released)) (sym gone) stands.released))
      ∙ ap (λ b. is_reached p (retained b s) (base p s) j) buffer

  led_is : (j : Text) → has_text (leads k.layers.base (all_named (entries_of k.layers.live))) j ≡ has_text (leads (base p s) (all_named (layer_entries s))) j
  led_is j = λ i. has_text (leads (stands.base i) (all_named (entries_are k p s stands i))) j

  -- the ids that are kept are those that are held
  keeps_held : (j : Text) → has_text keep j ≡ is_held p (retained k.buffer s) (layer_entries s) (base p s) j
  keeps_held j = keeps j ∙ (λ i. reached_is j i || led_is j i)

  swept_is : sweep (has_text keep) k.layers.base ≡ sweep_of p (retained k.buffer s) (layer_entries s) (base p s)
  swept_is = λ i. sweep (λ j. keeps_held j i) (stands.base i)

  dropped_is : dropped (has_text keep) k.layers.base ≡ dropped_ids p k.buffer s
  dropped_is = λ i. dropped (λ j. keeps_held j i) (stands.base i)

  -- the answer is given, and what is swept stands for the state after it
  pub has_swept : (n : ℕ) (ids : List Text) (ls : Layered) (answer : Lines) → ls ≡ swept keep k.layers → ids ≡ dropped (has_text keep) k.layers.base
      → AreLines (collect_line n (length ids)) false answer → HasAnswered k ls p s (step_collect p k.buffer s n) answer
  has_swept n ids ls answer made is are = record {
    answer = subst (λ (xs : List Text). AreLines (collect_line n (length xs)) false answer) (is ∙ dropped_is) are;
    accepted = refl;
    watches = refl;
    stands = record {
      schema = stands.schema;
      documents = stands.documents;
      base = ap (λ (x : Layered). x.base) made ∙ swept_is ∙ sym (confirmed_after p s.entries _ no_records);
      layers = ap (λ (x : Layered). x.live) made ∙ stands.layers;
      apart = stands.apart;
      handles = stands.handles;
      released = stands.released;
      watches = stands.watches;
    };
  }
