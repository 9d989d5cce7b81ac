-- No line of the large script is refused: an induction over its lines.
use Rattle.std.proofs.Common.{◌≡◌, ◌<◌, ◌+◌, ◌%◌, ◌==◌, ◌||◌, ℕ, zero, suc, Bool, true, false, not, cond, inl, inr, refl, sym, ap, subst, ◌∙◌, ne_eqb, arith}
use Rattle.std.proofs.lemmas.Bool.{cases_eq}
use Rattle.bulk_laws.proofs.ReadLines.{age_line_is, age_response, begin_line_is, begun, collect_line_is, friend_line_is, friend_response, paid, retain_line_is, retained, revert_line_is, reverted, watch_line_is, watched}
use Rattle.bulk_laws.proofs.Responses.{IsTaken, age_is_taken, bulk_at, friend_is_taken, no_variables_fail, operation_is_found}
use Rattle.bulk_laws.proofs.Steps.{IsFine, Stands, begin_is_fine, collect_is_fine, of_line, payload_is_fine, retain_is_fine, revert_is_fine, watch_is_fine}
use Rattle.bulk_laws.specs.BulkProject.{bulk_project}
use Rattle.bulk_laws.specs.Laws.{NoLineIsRefused}
use Rattle.relay_machine.specs.Bulk.{Bulk, Stage, after, age_line, age_of, begun as bulk_begun, bulk_buffer, collect_line, drawing, friend_line, kind_of, layer_line, line_at, line_of_kind, lines_from, next_bulk, next_line, next_number, refusals_from, retain_line, retaining, watch_line, watching}
use Rattle.relay_machine.specs.Machine.{State, beginning, refused_from, step}
use Rattle.plan_ir.specs.schema_tables.Types.{Text}
use Rattle.serde_json.specs.Data as J
use Rattle.plan_ir.specs.store_model.Events as e

-- the line is not refused in this state, and leaves it so
abbrev IsGood : Stage → (live : Bool) → State → ℕ → Text → Type 0
IsGood stage live s n line = IsFine bulk_at stage live (step bulk_project bulk_buffer s n line)

paid_line : (live : Bool) (s : State) (n : ℕ) (line : Text) (response : J.Data) → e.line_of line ≡ e.event (paid response) → IsTaken response → Stands bulk_at drawing live s → IsGood drawing live s n line
paid_line live s n line response is taken st =
    of_line bulk_project bulk_at drawing live bulk_buffer s n line (paid response) is
    (payload_is_fine bulk_project bulk_at live bulk_buffer s n response taken.0 taken.1 st)

layer_turns : (live : Bool) (s : State) (n : ℕ) → Stands bulk_at drawing live s → IsGood drawing (not live) s n (layer_line live)
layer_turns false s n st = of_line bulk_project bulk_at drawing true bulk_buffer s n (layer_line false) begun begin_line_is (begin_is_fine bulk_project bulk_at bulk_buffer s n st)
layer_turns true s n st = of_line bulk_project bulk_at drawing false bulk_buffer s n (layer_line true) reverted revert_line_is (revert_is_fine bulk_project bulk_at bulk_buffer s n st)

collected : (live : Bool) (s : State) (n : ℕ) → Stands bulk_at drawing live s → IsGood drawing live s n collect_line
collected live s n st = of_line bulk_project bulk_at drawing live bulk_buffer s n collect_line e.collect collect_line_is (collect_is_fine bulk_project bulk_at live bulk_buffer s n st)

-- a line of each kind
of_kind : (age : ℕ) → age < 1000 → (live : Bool) (s : State) (n : ℕ) → Stands bulk_at drawing live s → (kind : ℕ)
    → IsGood drawing (cond (kind == 2) (not live) live) s n (line_of_kind kind age live)
of_kind age small live s n st kind =
    let Of : ℕ → Type 0 = λ k. IsGood drawing (cond (k == 2) (not live) live) s n (line_of_kind k age live) in
    elim (cases_eq kind 0) [
      | inl same ↦ subst Of (sym same) (paid_line live s n (friend_line age) (friend_response age) (friend_line_is age small) (friend_is_taken age small) st)
      | inr not_0 ↦ elim (cases_eq kind 1) [
        | inl same ↦ subst Of (sym same) (paid_line live s n (age_line age) (age_response age) (age_line_is age small) (age_is_taken age small) st)
        | inr not_1 ↦ elim (cases_eq kind 2) [
          | inl same ↦ subst Of (sym same) (layer_turns live s n st)
          | inr not_2 ↦ of_other not_0 not_1 not_2
        ]
      ]
    ]
  where
    of_other : (kind ≡ 0 → ⊥) → (kind ≡ 1 → ⊥) → (kind ≡ 2 → ⊥) → IsGood drawing (cond (kind == 2) (not live) live) s n (line_of_kind kind age live)
    of_other not_0 not_1 not_2 =
        subst (λ b. IsGood drawing (cond (kind == 2) (not live) live) s n (cond b (friend_line age) (cond (kind == 1) (age_line age) (cond (kind == 2) (layer_line live) collect_line)))) (sym (ne_eqb kind 0 not_0))
        (subst (λ b. IsGood drawing (cond (kind == 2) (not live) live) s n (cond b (age_line age) (cond (kind == 2) (layer_line live) collect_line))) (sym (ne_eqb kind 1 not_1))
        (subst (λ b. IsGood drawing (cond b (not live) live) s n (cond b (layer_line live) collect_line)) (sym (ne_eqb kind 2 not_2)) (collected live s n st)))

below_1000 : (n : ℕ) → n % 1000 < 1000
below_1000 n = omega arith

at_stage : (stage : Stage) (x : ℕ) (live : Bool) (s : State) (n : ℕ) → Stands bulk_at stage live s → IsGood (after stage x live).stage (after stage x live).live s n (line_at stage x live)
at_stage retaining x live s n st =
    of_line bulk_project bulk_at watching live bulk_buffer s n retain_line retained retain_line_is
    (retain_is_fine bulk_project bulk_at live bulk_buffer s n operation_is_found no_variables_fail st)
at_stage watching x live s n st =
    of_line bulk_project bulk_at drawing live bulk_buffer s n watch_line watched watch_line_is (watch_is_fine bulk_project bulk_at live bulk_buffer s n st)
at_stage drawing x live s n st = of_kind (age_of (next_number x)) (below_1000 _) live s n st (kind_of (next_number x))

unrefused : (k : ℕ) (b : Bulk) (s : State) (n : ℕ) → Stands bulk_at b.stage b.live s
    → (refused_from bulk_project bulk_buffer s n (lines_from b k) ≡ false) × (refusals_from bulk_project bulk_buffer s n (lines_from b k) ≡ 0)
unrefused zero b s n st = (refl, refl)
unrefused (suc k) b s n st =
    let t : State = (step bulk_project bulk_buffer s n (next_line b)).state in
    let good : IsGood (next_bulk b).stage (next_bulk b).live s n (next_line b) = at_stage b.stage b.drawn b.live s n st in
    let rest = unrefused k (next_bulk b) t (n + 1) good.stands in (
      ap (λ r. r || refused_from bulk_project bulk_buffer t (n + 1) (lines_from (next_bulk b) k)) good.fine ∙ rest.0,
      ap (λ r. cond {A = ℕ} r 1 0 + refusals_from bulk_project bulk_buffer t (n + 1) (lines_from (next_bulk b) k)) good.fine ∙ ap (λ m. 0 + m) rest.1,
    )

pub no_line_is_refused : NoLineIsRefused
no_line_is_refused seed count = unrefused count (bulk_begun seed) beginning 1 (record { handle = refl; watching = refl; layer = refl })
