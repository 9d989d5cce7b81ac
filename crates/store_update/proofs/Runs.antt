-- Commands of one id, one after another, are one change of its slot.
use Rattle.std.proofs.Common.{◌≡◌, ◌+◌, ◌≤◌, ◌⊎◌, inl, inr, Bool, true, false, true≢false, cond, ◌&&◌, List, [], ◌∷◌, ◌++◌, Option, Some, None, refl, sym, ap, ◌∙◌, subst, arith}
use Rattle.std.proofs.lemmas.Map.Text.{is_eq-slice_cmp}
use Rattle.std.proofs.lemmas.Slice.Eq.{bytes_eq-Decides}
use Rattle.std.specs.Cmp.Lexicographic.{nat_list_cmp_total}
use Rattle.std.specs.FinMap as finmap
use Rattle.std.specs.List.{list_all}
use Rattle.std.specs.Prelude.{is_some}
use Rattle.std.specs.Str.{bytes_eq}
use Rattle.store_conn.specs.store_record.Keys.{Text}
use Rattle.store_conn.specs.store_record.declared.record.Slot.{Slot}
use Rattle.store_conn.specs.store_record.declared.record.Slot.TheVariants.{Deleted, Alive}
use Rattle.store_conn.proofs.store_model_laws.FactRows.{inserted_twice}
use Rattle.store_conn.specs.store_model.Entries.{asked_by_commands, asked_by_pages, merge_all, weights}
use Rattle.store_conn.specs.store_model.FactRows.{with_row}
use Rattle.store_conn.specs.store_model.Records.{Records, slot_at}
use Rattle.store_conn.specs.store_model.Updates.{act, act_all}
use Rattle.store_conn.specs.store_model.declared.command.Command.{Command}
use Rattle.store_conn.specs.store_model.declared.command.Command.TheVariants as C
use Rattle.store_conn.specs.store_model.declared.facts.FactRow.{FactRow}
use Rattle.store_conn.specs.store_model.declared.facts.HandleFact.{HandleFact}
use Rattle.store_update.proofs.Changes.{command_is, row_is, stays}
use Rattle.store_update.specs.Slots.{id_of, slot_after, slot_by_command, slot_by_commands, slot_by_row, with_change}
use Rattle.store_update.specs.Turns.{AreOf, goes_with, is_of_record}

-- ---- a slot that is there stays there

kept : (c : Command) (s : Slot) → is_some (slot_by_command c (Some s)) ≡ true
kept (C.Set id field args value) Deleted = refl
kept (C.Set id field args value) (Alive r) = refl
kept (C.Add id field args by) Deleted = refl
kept (C.Add id field args by) (Alive r) = refl
kept (C.Link id field args to) Deleted = refl
kept (C.Link id field args to) (Alive r) = refl
kept (C.Links id field args to) Deleted = refl
kept (C.Links id field args to) (Alive r) = refl
kept (C.Create id of) Deleted = refl
kept (C.Create id of) (Alive r) = refl
kept (C.Delete id) Deleted = refl
kept (C.Delete id) (Alive r) = refl
kept (C.AppendNode e) s = refl
kept (C.PrependNode e) s = refl
kept (C.DeleteEdge e) s = refl

absent : (c : Command) (o : Option Slot) → slot_by_command c o ≡ None → o ≡ None
absent c None e = refl
absent c (Some s) e = absurd (true≢false (sym (kept c s) ∙ ap is_some e))

all_absent : (cs : List Command) (o : Option Slot) → slot_by_commands cs o ≡ None → o ≡ None
all_absent [] o e = e
all_absent (c ∷ cs) o e = absent c o (all_absent cs (slot_by_command c o) e)

after_own : (new old : Option Slot) → (new ≡ None → old ≡ None) → slot_after new old ≡ new
after_own None old h = h refl
after_own (Some s) old h = refl

-- ---- the slot of one id

module _ (id : Text) (m : Records) where
  changed_again : (new old : Option Slot) → (new ≡ None → old ≡ None) → with_change id new (with_change id old m) ≡ with_change id new m
  changed_again None old h = ap (λ o. with_change id o m) (h refl)
  changed_again (Some s) None h = refl
  changed_again (Some s) (Some t) h = inserted_twice m id t s

  stands : (new : Option Slot) → (new ≡ None → slot_at id m ≡ None) → slot_at id (with_change id new m) ≡ new
  stands None h = h refl
  stands (Some s) h =
      finmap.get-insert nat_list_cmp_total m id s id ∙ ap (λ c. cond c (Some s) (finmap.get m id)) (is_eq-slice_cmp id id ∙ (bytes_eq-Decides id id).1 refl)

  whole : (o : Option Slot) → slot_at id m ≡ o → with_change id o m ≡ m
  whole None e = refl
  whole (Some s) e = stays id m s e

-- ---- commands

both : (a b : Bool) → (a && b) ≡ true → (a ≡ true) × (b ≡ true)
both true b e = (refl, e)
both false b e = absurd (true≢false (sym e))

one : (c : Command) (id : Text) (m : Records) → is_of_record c ≡ true → id_of c ≡ id → with_change id (slot_by_command c (slot_at id m)) m ≡ act c m
one c id m h same =
    subst (λ x. with_change x (slot_by_command c (slot_at x m)) m ≡ act c m) same
    (command_is c m (slot_at (id_of c) m) (slot_by_command c (slot_at (id_of c) m)) h refl (after_own _ _ (absent c (slot_at (id_of c) m))))

runs : (cs : List Command) (id : Text) (m : Records) → list_all (goes_with id) cs ≡ true → with_change id (slot_by_commands cs (slot_at id m)) m ≡ act_all cs m
runs [] id m h = whole id m (slot_at id m) refl
runs (c ∷ cs) id m h =
    let parts = both (goes_with id c) (list_all (goes_with id) cs) h in
    let own = both (is_of_record c) (bytes_eq (id_of c) id) parts.0 in
    let o = slot_at id m in
    let first : with_change id (slot_by_command c o) m ≡ act c m = one c id m own.0 ((bytes_eq-Decides (id_of c) id).0 own.1) in
    let there : slot_at id (act c m) ≡ slot_by_command c o = ap (slot_at id) (sym first) ∙ stands id m (slot_by_command c o) (absent c o) in
    sym (changed_again id m (slot_by_commands cs (slot_by_command c o)) (slot_by_command c o) (all_absent cs (slot_by_command c o)))
    ∙ ap (with_change id (slot_by_commands cs (slot_by_command c o))) first
    ∙ ap (λ x. with_change id (slot_by_commands cs x) (act c m)) (sym there)
    ∙ runs cs id (act c m) parts.1

settled : (id : Text) (m : Records) (change final : Option Slot) → slot_after change (slot_at id m) ≡ final → with_change id change m ≡ with_change id final m
settled id m None final e = sym (ap (λ o. with_change id o m) (sym e) ∙ whole id m (slot_at id m) refl)
settled id m (Some s) final e = ap (λ o. with_change id o m) e

module _ (first : Command) (behind : List Command) (m : Records) where
  pub run_is : (found change : Option Slot) → is_of_record first ≡ true → list_all (goes_with (id_of first)) behind ≡ true → found ≡ slot_at (id_of first) m
      → slot_after change found ≡ slot_by_commands (first ∷ behind) found → with_change (id_of first) change m ≡ act_all (first ∷ behind) m
  run_is found change h others same e =
      let id = id_of first in
      let all : list_all (goes_with id) (first ∷ behind) ≡ true =
      ap (λ b. (b && bytes_eq id id) && list_all (goes_with id) behind) h ∙ ap (λ b. b && list_all (goes_with id) behind) ((bytes_eq-Decides id id).1 refl) ∙ others in
      settled id m change (slot_by_commands (first ∷ behind) (slot_at id m)) (subst (λ x. slot_after change x ≡ slot_by_commands (first ∷ behind) x) same e)
      ∙ runs (first ∷ behind) id m all

-- a row, and commands on its id behind it
pub row_run_is : (row : FactRow) (cs : List Command) (m : Records) (found change : Option Slot) → AreOf row.id cs → found ≡ slot_at row.id m
    → slot_after change found ≡ slot_by_commands cs (slot_by_row row found) → with_change row.id change m ≡ act_all cs (with_row row m)
row_run_is row cs m found change of same e =
    let id = row.id in
    let made : Option Slot = slot_by_row row (slot_at id m) in
    let final = slot_by_commands cs made in
    let put : with_change id made m ≡ with_row row m = row_is row m (slot_at id m) made refl refl in
    let there : slot_at id (with_row row m) ≡ made = ap (slot_at id) (sym put) ∙ stands id m made (λ none. absurd (true≢false (ap is_some none))) in
    settled id m change final (subst (λ x. slot_after change x ≡ slot_by_commands cs (slot_by_row row x)) same e)
    ∙ sym (changed_again id m final made (all_absent cs made))
    ∙ ap (with_change id final) put
    ∙ ap (λ x. with_change id (slot_by_commands cs x) (with_row row m)) (sym there)
    ∙ runs cs id (with_row row m) of

-- ---- a run, and what stands behind it

pub acts_append : (cs ds : List Command) (m : Records) → act_all (cs ++ ds) m ≡ act_all ds (act_all cs m)
acts_append [] ds m = refl
acts_append (c ∷ cs) ds m = acts_append cs ds (act c m)

asked_append : (cs ds : List Command) (m : Records) → weights (asked_by_commands (cs ++ ds) m) ≡ weights (asked_by_commands cs m) + weights (asked_by_commands ds (act_all cs m))
asked_append [] ds m = omega arith
asked_append (c ∷ cs) ds m = omega (arith, asked_append cs ds (act c m))

module _ (first : Command) (behind after later : List Command) (m : Records) (is : later ≡ behind ++ after) where
  pub run_acts : act_all after (act_all (first ∷ behind) m) ≡ act_all (first ∷ later) m
  run_acts = sym (ap (λ cs. act_all (first ∷ cs) m) is ∙ acts_append (first ∷ behind) after m)

  pub run_weighs : weights (asked_by_commands (first ∷ later) m) ≡ weights (asked_by_commands (first ∷ behind) m) + weights (asked_by_commands after (act_all (first ∷ behind) m))
  run_weighs = ap (λ cs. weights (asked_by_commands (first ∷ cs) m)) is ∙ asked_append (first ∷ behind) after m

-- ---- the commands that go on with the last row, and those behind them

module _ (handles : List HandleFact) (first later : List Command) (m : Records) where
  -- where pages stand between, no command goes on
  pub parted_acts : (handles ≡ []) ⊎ (first ≡ []) → act_all later (merge_all handles (act_all first m)) ≡ act_all (first ++ later) (merge_all handles m)
  parted_acts (inl none) = subst (λ hs. act_all later (merge_all hs (act_all first m)) ≡ act_all (first ++ later) (merge_all hs m)) (sym none) (sym (acts_append first later m))
  parted_acts (inr none) = subst (λ cs. act_all later (merge_all handles (act_all cs m)) ≡ act_all (cs ++ later) (merge_all handles m)) (sym none) refl

  pub parted_pages : (handles ≡ []) ⊎ (first ≡ []) → weights (asked_by_pages handles (act_all first m)) ≡ weights (asked_by_pages handles m)
  parted_pages (inl none) = subst (λ hs. weights (asked_by_pages hs (act_all first m)) ≡ weights (asked_by_pages hs m)) (sym none) refl
  parted_pages (inr none) = subst (λ cs. weights (asked_by_pages handles (act_all cs m)) ≡ weights (asked_by_pages handles m)) (sym none) refl

  pub parted_commands : (handles ≡ []) ⊎ (first ≡ [])
      → weights (asked_by_commands later (merge_all handles (act_all first m))) ≤ weights (asked_by_commands (first ++ later) (merge_all handles m))
  parted_commands (inl none) =
      subst (λ hs. weights (asked_by_commands later (merge_all hs (act_all first m))) ≤ weights (asked_by_commands (first ++ later) (merge_all hs m))) (sym none)
      (omega (arith, asked_append first later m))
  parted_commands (inr none) =
      subst (λ cs. weights (asked_by_commands later (merge_all handles (act_all cs m))) ≤ weights (asked_by_commands (cs ++ later) (merge_all handles m))) (sym none) (omega arith)
