-- Steps that change the records: the notices follow the answer.
use Rattle.std.proofs.Common.{◌≡◌, ℕ, Bool, true, false, true≢false, cond, List, [], ◌∷◌, ◌++◌, length, map, take, drop, bytes_eq, Result, append-nil, refl, sym, ap, subst, ◌∙◌, arith}
use Rattle.std.proofs.lemmas.List.{drop_all, take_all}
use Rattle.std.proofs.lemmas.Result.{IfOk-weaker}
use Rattle.std.specs.Result.{IfOk}
use Rattle.line_engine.proofs.NoticeLaws.{keep_accepted, told_is}
use Rattle.line_engine.proofs.StandingLaws.{view_is}
use Rattle.line_engine.specs.Answered.{AreLines}
use Rattle.line_engine.specs.Kept.{Kept, with_layers}
use Rattle.line_engine.specs.Notices.{HasAnswered, names_of, told_lines}
use Rattle.line_engine.specs.Stands.{KeepsWatches, StandsFor, StandsUntold}
use Rattle.line_engine.specs.Steps.{AreSingle, HasStepped, IsStep, written}
use Rattle.line_engine.specs.declared.lines.Lines.{Lines}
use Rattle.relay_machine.specs.Machine.{Project, State, Step, Watch, accept, notices_of, noticed, read_again, view, with_notices}
use Rattle.plan_ir.specs.schema_tables.Types.{Text}
use Rattle.store_layers.proofs.Drafted.{seen_begun}
use Rattle.store_layers.proofs.VersionSteps.{fold-append}
use Rattle.store_layers.specs.Changed.{AreChanged}
use Rattle.store_layers.specs.Layered.{Layer, Layered, above, below, begun, committed, entries_of, finished, from_on, reverted, view_of, without}
use Rattle.plan_ir.specs.store_model.Entries.{fold_entries}
use Rattle.plan_ir.specs.store_model.Walks.{Slots}
use Rattle.plan_ir.specs.store_model.declared.entry.Entry.{Entry}
use Rattle.store_watch.specs.store_read.Reading.{slots}
use Rattle.store_watch.specs.Watching as watching
use Rattle.store_watch.specs.Watching.{AreShown, DifferAt, OthersAreShown, Telling, accepted, notices}

-- what is kept, with other layers and watches
abbrev pub with_changes : Kept → Layered → List watching.Watch → Kept
with_changes k ls ws =
    record { defs = k.defs; documents = k.documents; buffer = k.buffer; layers = ls; handles = k.handles; released = k.released; watches = ws }

-- what notices of a change say of the watches
pub record Notified (old : Kept) (now : Slots) (touched : List Text) (told : List Telling) : Type 0 where
  pub found : told ≡ notices now touched old.watches
  pub others : (before : Slots) → AreShown before old.watches → DifferAt touched before now → OthersAreShown now touched old.watches
  pub current : (before : Slots) → AreShown before old.watches → DifferAt touched before now → AreShown now (accepted (notices now touched old.watches) old.watches)

module _ (old : Kept) (ls : Layered) (touched : List Text) (told : List Telling) (answer lines : Lines) (n : ℕ)
    (notified : Notified old (slots (view_of ls)) touched told)
    (text : written lines.texts.items ≡ written answer.texts.items ++ told_lines (names_of old.watches) n told)
    (single : AreSingle answer.texts.items → AreSingle lines.texts.items)
    (refused : lines.refused ≡ answer.refused)
    (p : Project) (s : State) (step : Step) (stands : StandsFor old p s) (differ : DifferAt touched (slots (view_of old.layers)) (slots (view_of ls)))
    (has : HasAnswered old ls p s step answer) where
  same_view : view_of ls ≡ view p step.state
  same_view = view_is ls p step.state has.stands.base has.stands.layers

  unmet : OthersAreShown (slots (view_of ls)) touched old.watches
  unmet = notified.others (slots (view_of old.layers)) stands.shown differ

  shown : AreShown (slots (view_of ls)) (accepted told old.watches)
  shown = subst (λ ns. AreShown (slots (view_of ls)) (accepted ns old.watches)) (sym notified.found) (notified.current (slots (view_of old.layers)) stands.shown differ)

  every : take (length s.watches) step.state.watches ≡ step.state.watches
  every = let e : length step.state.watches ≡ length s.watches = ap (λ (ys : List Watch). length ys) has.watches in take_all (length s.watches) step.state.watches (omega (arith, e))

  none_left : drop (length s.watches) step.state.watches ≡ []
  none_left = let e : length step.state.watches ≡ length s.watches = ap (λ (ys : List Watch). length ys) has.watches in drop_all (length s.watches) step.state.watches (omega (arith, e))

  lines_are : told_lines (names_of old.watches) n told ≡ notices_of p (view p step.state) n (take (length s.watches) step.state.watches)
  lines_are =
      ap (told_lines (names_of old.watches) n) notified.found ∙ told_is p (view_of ls) touched n old.watches step.state.watches has.stands.watches unmet
      ∙ (λ i. notices_of p (same_view i) n (sym every i))

  watches_are : map (read_again p (view p step.state)) (take (length s.watches) step.state.watches) ++ drop (length s.watches) step.state.watches ≡ map (read_again p (view_of ls)) step.state.watches
  watches_are =
      (λ i. map (read_again p (sym same_view i)) (every i) ++ none_left i) ∙ append-nil (map (read_again p (view_of ls)) step.state.watches)

  keeps : KeepsWatches p (accepted told old.watches) (map (read_again p (view p step.state)) (take (length s.watches) step.state.watches) ++ drop (length s.watches) step.state.watches)
  keeps =
      subst (λ ns. KeepsWatches p (accepted ns old.watches) (map (read_again p (view p step.state)) (take (length s.watches) step.state.watches) ++ drop (length s.watches) step.state.watches)) (sym notified.found)
      (subst (KeepsWatches p (accepted (notices (slots (view_of ls)) touched old.watches) old.watches)) (sym watches_are)
      (keep_accepted p (view_of ls) touched old.watches step.state.watches has.stands.watches unmet))

  with_lines : IsStep p (with_notices p n (length s.watches) step) lines (with_changes old ls (accepted told old.watches))
  with_lines = record {
    text = text ∙ (λ i. has.answer.text i ++ lines_are i);
    single = single has.answer.single;
    refused = refused ∙ has.answer.refused ∙ sym has.accepted;
    stands = record {
      schema = has.stands.schema;
      documents = has.stands.documents;
      base = has.stands.base;
      layers = has.stands.layers;
      apart = has.stands.apart;
      handles = has.stands.handles;
      released = has.stands.released;
      watches = keeps;
      shown = shown;
    };
  }

  -- the step is taken, and the notices follow its answer
  pub step_noticed : IsStep p (noticed p n (length s.watches) step) lines (with_changes old ls (accepted told old.watches))
  step_noticed =
      subst (λ t. IsStep p t lines (with_changes old ls (accepted told old.watches))) (sym (ap (λ b. cond b step (with_notices p n (length s.watches) step)) has.accepted)) with_lines

-- ---- calls that change the layers

-- a step that is accepted
pub answered : (old : Kept) (ls : Layered) (p : Project) (s next : State) (text : Text) (answer : Lines) → AreLines text false answer → next.watches ≡ s.watches
    → StandsUntold (with_layers old ls) p next → HasAnswered old ls p s (accept text next) answer
answered old ls p s next text answer are same stands = record { answer = are; accepted = refl; watches = same; stands = stands }

module _ {E : Type 0} (r : Result Lines E) where
  -- the call puts these layers in place, and the notices follow the answer
  pub on_change : (old new : Kept) (ls made : Layered) (touched : List Text) (answer : Lines) (n : ℕ) (text : Text) (next : State → State)
      → IfOk r (λ lines. (p : Project) (s : State) (step : Step) → StandsFor old p s → DifferAt touched (slots (view_of old.layers)) (slots (view_of ls))
      → HasAnswered old ls p s step answer → IsStep p (noticed p n (length s.watches) step) lines new)
      → ls ≡ made → AreLines text false answer → DifferAt touched (slots (view_of old.layers)) (slots (view_of made)) → ((s : State) → (next s).watches ≡ s.watches)
      → ((p : Project) (s : State) → StandsFor old p s → StandsUntold (with_layers old made) p (next s))
      → IfOk r (λ lines. HasStepped old new lines (λ p s. noticed p n (length s.watches) (accept text (next s))))
  on_change old new ls made touched answer n text next h is are differ same untold =
      IfOk-weaker r
      (λ lines. (p : Project) (s : State) (step : Step) → StandsFor old p s → DifferAt touched (slots (view_of old.layers)) (slots (view_of ls))
      → HasAnswered old ls p s step answer → IsStep p (noticed p n (length s.watches) step) lines new)
      (λ lines. HasStepped old new lines (λ p s. noticed p n (length s.watches) (accept text (next s))))
      (λ lines has p s stands.
      has p s (accept text (next s)) stands (subst (λ l. DifferAt touched (slots (view_of old.layers)) (slots (view_of l))) (sym is) differ)
      (answered old ls p s (next s) text answer are (same s) (subst (λ l. StandsUntold (with_layers old l) p (next s)) (sym is) (untold p s stands)))) h

  -- an answer that is no refusal
  pub never_refused : (P : Type 0) (answer : Lines) (text : Text) → IfOk r (λ lines. lines.refused ≡ answer.refused) → AreLines text false answer
      → IfOk r (λ lines. lines.refused ≡ true → P)
  never_refused P answer text h are =
      IfOk-weaker r (λ lines. lines.refused ≡ answer.refused) (λ lines. lines.refused ≡ true → P) (λ lines same is. absurd (true≢false (sym is ∙ same ∙ are.refused))) h

-- ---- the ids at which the records differ

module _ (name : Text) where
  fold_from : (b : Bool) (l : Layer) (ls : List Layer) → entries_of (below name ls) ++ entries_of (from_on name ls) ≡ entries_of ls
      → entries_of (cond b [] (l ∷ below name ls)) ++ entries_of (cond b (l ∷ ls) (from_on name ls)) ≡ l.1 ∷ entries_of ls
  fold_from true l ls rest = refl
  fold_from false l ls rest = ap (λ es. l.1 ∷ es) rest

  below_from : (ls : List Layer) → entries_of (below name ls) ++ entries_of (from_on name ls) ≡ entries_of ls
  below_from [] = refl
  below_from (l ∷ ls) = fold_from (bytes_eq name l.0) l ls (below_from ls)

  fold_above : (b : Bool) (l : Layer) (ls : List Layer) → entries_of (below name ls) ++ entries_of (above name ls) ≡ entries_of (without name ls)
      → entries_of (cond b [] (l ∷ below name ls)) ++ entries_of (cond b ls (above name ls)) ≡ entries_of (cond b ls (l ∷ without name ls))
  fold_above true l ls rest = refl
  fold_above false l ls rest = ap (λ es. l.1 ∷ es) rest

  below_above : (ls : List Layer) → entries_of (below name ls) ++ entries_of (above name ls) ≡ entries_of (without name ls)
  below_above [] = refl
  below_above (l ∷ ls) = fold_above (bytes_eq name l.0) l ls (below_above ls)

module _ (ls : Layered) (touched : List Text) where
  pub committed_differ : (e : Entry) → AreChanged ls.base (entries_of ls.live) (e ∷ entries_of ls.live) touched → DifferAt touched (slots (view_of ls)) (slots (view_of (committed e ls)))
  committed_differ e changed = λ id h. sym (changed.all id h)

  pub finished_differ : (name : Text) (e : Entry) → AreChanged ls.base (entries_of ls.live) (e ∷ entries_of (without name ls.live)) touched
      → DifferAt touched (slots (view_of ls)) (slots (view_of (finished name e ls)))
  finished_differ name e changed = λ id h. sym (changed.all id h)

  pub begun_differ : (name : Text) (e : Entry) → AreChanged (view_of ls) [] (e ∷ []) touched → DifferAt touched (slots (view_of ls)) (slots (view_of (begun name e ls)))
  begun_differ name e changed = λ id h. sym (changed.all id h) ∙ ap (λ m. slots m id) (sym (seen_begun ls name e))

  pub reverted_differ : (name : Text)
      → AreChanged (fold_entries (entries_of (below name ls.live)) ls.base) (entries_of (from_on name ls.live)) (entries_of (above name ls.live)) touched
      → DifferAt touched (slots (view_of ls)) (slots (view_of (reverted name ls)))
  reverted_differ name changed = λ id h.
      let old = ap (λ es. fold_entries es ls.base) (sym (below_from name ls.live)) ∙ fold-append (entries_of (below name ls.live)) (entries_of (from_on name ls.live)) ls.base in
      let new = ap (λ es. fold_entries es ls.base) (sym (below_above name ls.live)) ∙ fold-append (entries_of (below name ls.live)) (entries_of (above name ls.live)) ls.base in
      ap (λ m. slots m id) old ∙ sym (changed.all id h) ∙ ap (λ m. slots m id) (sym new)
