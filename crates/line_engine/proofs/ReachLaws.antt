-- What the operations that are held keep is what the retained operations reach.
use Rattle.std.proofs.Common.{◌≡◌, List, [], ◌∷◌, map, ◌||◌, ap, refl, ◌∙◌}
use Rattle.plan_ir.specs.gql_plain.Order.{has_text}
use Rattle.plan_ir.specs.NormalReach.{plan_reaches}
use Rattle.line_engine.proofs.ReleasedLaws.{all_live, both}
use Rattle.line_engine.specs.Handles.{handle_kept, operation_kept}
use Rattle.line_engine.specs.Operations.{HoldPlans, HoldsPlan}
use Rattle.line_engine.specs.Stands.{KeepsHandles, KeepsOperation, KeepsReleased}
use Rattle.relay_machine.specs.Machine.{Project, Retained, State, documents_of, is_reached, last_of, retained, retained_by}
use Rattle.relay_machine.specs.relay_model.Reaches.{operation_reaches}
use Rattle.relay_machine.specs.relay_model.Readings.{no_place}
use Rattle.plan_ir.specs.schema_tables.Types.{Text}
use Rattle.plan_ir.specs.schema_types.Environments.{Values}
use Rattle.plan_ir.specs.store_model.Records.{Records}
use Rattle.plan_ir.specs.store_model.Walks.{type_of_record}
use Rattle.plan_ir.specs.store_record.Keys as keys
use Rattle.store_retain.specs.Kept.{Kept, all_held, is_kept}
use Rattle.store_retain.specs.Steps.{slots_of}
use Rattle.store_retain.specs.declared.held.Held.{Held}

module _ (p : Project) (m : Records) (j : Text) where
  reaches_one : (h : Held) (r : Retained) → HoldsPlan p.defs p.documents h → KeepsOperation p (operation_kept h) r
      → has_text (plan_reaches (type_of_record h.env.value.root) (slots_of m) h.env.value.values h.normal.value.steps (h.env.value.root ∷ []) keys.root) j
      ≡ has_text (operation_reaches (documents_of p) no_place r.operation r.values (slots_of m) keys.root) j
  reaches_one h r plan keeps =
      ap (λ (T : Text). has_text (plan_reaches (type_of_record T) (slots_of m) h.env.value.values h.normal.value.steps (T ∷ []) keys.root) j) keeps.root
      ∙ plan.reaches r.operation keeps.operation h.env.value.values (slots_of m) keys.root j
      ∙ ap (λ (vs : Values). has_text (operation_reaches (documents_of p) no_place r.operation vs (slots_of m) keys.root) j) keeps.values

  reaches_all : (hs : List Held) (rs : List Retained) → HoldPlans p.defs p.documents hs → KeepsReleased p (map operation_kept hs) rs
      → is_kept (slots_of m) hs j ≡ is_reached p rs m j
  reaches_all [] [] plans keeps = refl
  reaches_all [] (r ∷ rs) plans keeps = absurd keeps
  reaches_all (h ∷ hs) [] plans keeps = absurd keeps
  reaches_all (h ∷ hs) (r ∷ rs) plans keeps = λ i. reaches_one h r plans.0 keeps.0 i || reaches_all hs rs plans.1 keeps.1 i

  pub kept_is : (k : Kept) (s : State) → HoldPlans p.defs p.documents (all_held k) → KeepsHandles p (map handle_kept k.live) s.handles
      → KeepsReleased p (map operation_kept k.released) (last_of k.buffer s.released) → is_kept (slots_of m) (all_held k) j ≡ is_reached p (retained k.buffer s) m j
  kept_is k s plans handles released =
      reaches_all (all_held k) (retained k.buffer s) plans
      (both p (map (λ (h : Text × Held). h.1) k.live) k.released (map retained_by s.handles) (last_of k.buffer s.released) (all_live p k.live s.handles handles) released)
