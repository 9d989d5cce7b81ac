-- How often changes, notices and reads look at records.
use Rattle.std.proofs.Common.{◌≡◌, ℕ, ◌+◌, ◌≤◌, Bool, true, false, true≢false, ◌||◌, cond, List, [], ◌∷◌, length, Option, Some, None, is_some, unwrap_or, Result, Ok, Err, refl, sym, ap, subst, ◌∙◌, arith}
use Rattle.std.proofs.lemmas.Result.{IfOk-weaker}
use Rattle.std.specs.List.{list_any}
use Rattle.std.specs.Result.{IfOk}
use Rattle.plan_ir.specs.gql_plain.Order.{has_text}
use Rattle.line_engine.specs.Answered.{AreLines}
use Rattle.line_engine.specs.Kept.{Kept}
use Rattle.line_engine.specs.Sweeping.{HasHandleKeys}
use Rattle.line_engine.specs.Work.{AppliesAbove, Change, ReadsWithin, change_of, change_work, changing_work, event_work, is_touched, notice_work, read_work}
use Rattle.line_engine.specs.declared.lines.Lines.{Lines}
use Rattle.relay_machine.specs.Effects.{answer_reads, sweeps}
use Rattle.relay_machine.specs.Machine.{Project, State, Step, accept, view}
use Rattle.plan_ir.specs.schema_tables.Types.{Text}
use Rattle.store_layers.specs.Layered.{Layered, above, view_of}
use Rattle.store_layers.specs.Work.{counted}
use Rattle.plan_ir.specs.store_model.Events as e
use Rattle.plan_ir.specs.store_model.Events.{Event, Line}
use Rattle.plan_ir.specs.store_model.Records.{Records}
use Rattle.plan_ir.specs.store_model.Walks.{Found, Slots, standings}
use Rattle.store_watch.specs.store_read.Reading.{slots}
use Rattle.store_watch.specs.Watching.{Look, Watch, meets, read_of, work}

-- ---- numbers

both_within : (before between after a b c : ℕ) → between ≤ before + a → after ≤ between + b → b ≤ c → after ≤ before + (a + c)
both_within before between after a b c h k l = omega (arith, h, k, l)

first_within : (before after a c : ℕ) → after ≤ before + a → after ≤ before + (a + c)
first_within before after a c h = omega (arith, h)

change_within : (before after a r b : ℕ) → after ≤ before + (a + b) → after ≤ before + (a + r + b)
change_within before after a r b h = omega (arith, h)

read_within : (before after a r b : ℕ) → after ≤ before + r → after ≤ before + (a + (r + 0) + b)
read_within before after a r b h = omega (arith, h)

-- ---- notices

-- of two tests of which the one holds where the other does, the sum over the one is less
by_tests : (a b : Bool) (r x y : ℕ) → (a ≡ true → b ≡ true) → x ≤ y → cond {A = ℕ} a r 0 + x ≤ cond {A = ℕ} b r 0 + y
by_tests true true r x y f h = omega (arith, h)
by_tests true false r x y f h = absurd (true≢false (sym (f refl)))
by_tests false true r x y f h = omega (arith, h)
by_tests false false r x y f h = omega (arith, h)

module _ (touched : Text → Bool) (ids : List Text) (only : (id : Text) → has_text ids id ≡ true → touched id ≡ true) where
  by_head : (a b c d : Bool) → (a ≡ true → b ≡ true) → (c ≡ true → d ≡ true) → (a || c) ≡ true → (b || d) ≡ true
  by_head true b c d f g h = ap (λ x. x || d) (f refl)
  by_head false true c d f g h = refl
  by_head false false c d f g h = g h

  -- what met one of the ids saw a touched one
  some_touched : (seen : List Text) → meets seen ids ≡ true → list_any touched seen ≡ true
  some_touched [] h = h
  some_touched (id ∷ seen) h = by_head (has_text ids id) (touched id) (meets seen ids) (list_any touched seen) (only id) (some_touched seen) h

  pub notices_within : (m : Slots) (ws : List Watch) → work m ids ws ≤ notice_work touched m ws
  notices_within m [] = omega arith
  notices_within m (w ∷ ws) =
      by_tests (meets w.kept.seen ids) (list_any touched w.kept.seen) (standings (read_of m w.what)) (work m ids ws) (notice_work touched m ws) (some_touched w.kept.seen) (notices_within m ws)

-- ---- changes, of which the call of the layers and the machine have the same

module _ (p : Project) (k : Kept) (t : State) (x y : Change) (same : x ≡ y) (before between : ℕ) (called : between ≤ before + change_work x) where
  -- the call alone
  pub call_within : between ≤ before + changing_work p k y t
  call_within =
      subst (λ (c : Change). between ≤ before + changing_work p k c t) same
      (first_within before between (change_work x) (notice_work (is_touched x) (slots (view p t)) k.watches) called)

  -- the call, and then the notices over the ids that it gives
  pub noticed_within : (ids : List Text) → ((id : Text) → has_text ids id ≡ true → is_touched x id ≡ true) → (ls : Layered) → view_of ls ≡ view p t
      → (after : ℕ) → after ≤ between + work (slots (view_of ls)) ids k.watches → after ≤ before + changing_work p k y t
  noticed_within ids only ls seen after noticed =
      subst (λ (c : Change). after ≤ before + changing_work p k c t) same
      (both_within before between after (change_work x) (work (slots (view p t)) ids k.watches) (notice_work (is_touched x) (slots (view p t)) k.watches) called
      (subst (λ (m : Records). after ≤ between + work (slots m) ids k.watches) seen noticed) (notices_within (is_touched x) ids only (slots (view p t)) k.watches))

-- ---- events that are taken

module _ (p : Project) (k : Kept) (s : State) (event : Event) (step : Step) (line : Text) (next : State) (taken : step ≡ accept line next) (before after : ℕ) where
  -- what it changes is the whole of it
  pub event_changes : after ≤ before + changing_work p k (change_of p s next event) next → after ≤ before + event_work p k s event step
  event_changes h =
      subst (λ (x : Step). after ≤ before + event_work p k s event x) (sym taken)
      (change_within before after (change_work (change_of p s next event)) (read_work (answer_reads p s event))
      (notice_work (is_touched (change_of p s next event)) (slots (view p next)) k.watches) h)

  -- its read is
  pub event_reads : (r : Found) → answer_reads p s event ≡ r ∷ [] → after ≤ before + standings r → after ≤ before + event_work p k s event step
  event_reads r is h =
      subst (λ (x : Step). after ≤ before + event_work p k s event x) (sym taken)
      (subst (λ (rs : List Found). after ≤ before + (change_work (change_of p s next event) + read_work rs + notice_work (is_touched (change_of p s next event)) (slots (view p next)) k.watches)) (sym is)
      (read_within before after (change_work (change_of p s next event)) (standings r) (notice_work (is_touched (change_of p s next event)) (slots (view p next)) k.watches) h))

-- ---- calls, whose records and watches are those that are kept

-- the read of an answer
pub looked : (ls : Layered) (k : Kept) (look : Look) (m : Records) → m ≡ view_of ls → ls ≡ k.layers → (before after : ℕ) → after ≤ before + standings (read_of (slots m) look)
    → ReadsWithin k look before after
looked ls k look m seen same before after h = subst (λ (r : Records). after ≤ before + standings (read_of (slots r) look)) (seen ∙ ap view_of same) h

-- the reads of the notices
pub notified : (ls : Layered) (ws : List Watch) (k : Kept) (ids : List Text) (m : Records) → m ≡ view_of ls → ws ≡ k.watches → (before after : ℕ)
    → after ≤ before + work (slots m) ids ws → after ≤ before + work (slots (view_of ls)) ids k.watches
notified ls ws k ids m seen same before after h =
    subst (λ (r : Records). after ≤ before + work (slots r) ids k.watches) seen (subst (λ (vs : List Watch). after ≤ before + work (slots m) ids vs) same h)

-- ---- events by their kind

-- what holds of every line that is given
pub always : {T E : Type 0} (r : Result T E) (P : T → Type 0) → ((x : T) → P x) → IfOk r P
always (Ok x) P all = all x
always (Err y) P all = tt

-- a line that is refused
pub refuses : {E : Type 0} (r : Result Lines E) (text : Text) → IfOk r (AreLines text true) → IfOk r (λ lines. lines.refused ≡ true)
refuses r text h = IfOk-weaker r (AreLines text true) (λ lines. lines.refused ≡ true) (λ lines are. are.refused) h

-- the layer that an event drops, and does nothing more
abbrev pub reverted_by : Event → Option Text
reverted_by (e.retain handle op given) = None
reverted_by (e.release handle) = None
reverted_by (e.payload answer commands) = None
reverted_by (e.update commands) = None
reverted_by (e.begin layer answer commands) = None
reverted_by (e.finish layer answer commands) = None
reverted_by (e.revert layer) = Some layer
reverted_by (e.read target) = None
reverted_by (e.watch name target) = None
reverted_by (e.unwatch name) = None
reverted_by e.collect = None

abbrev pub reverted_in : Line → Option Text
reverted_in e.too_long = None
reverted_in e.not_json = None
reverted_in e.no_event = None
reverted_in e.no_commands = None
reverted_in (e.event event) = reverted_by event

-- a line that does not sweep has nothing to tell of the pages of layers
pub not_swept : {E : Type 0} (r : Result Lines E) (k : Kept) (line : Line) → sweeps line ≡ false → IfOk r (λ lines. HasHandleKeys k line)
not_swept r k line none = always r (λ lines. HasHandleKeys k line) (λ lines sweeping. absurd (true≢false (sym sweeping ∙ none)))

module _ {E : Type 0} (r : Result Lines E) (k : Kept) (line : Line) (before after : ℕ) where
  -- no layer is dropped alone
  pub not_reverted : reverted_in line ≡ None → IfOk r (λ lines. AppliesAbove k line lines.refused before after)
  not_reverted none =
      always r (λ lines. AppliesAbove k line lines.refused before after)
      (λ lines layer same taken. absurd (true≢false (ap is_some (sym (ap reverted_in same) ∙ none))))

  -- the line is refused
  pub none_reverted : IfOk r (λ lines. lines.refused ≡ true) → IfOk r (λ lines. AppliesAbove k line lines.refused before after)
  none_reverted h =
      IfOk-weaker r (λ lines. lines.refused ≡ true) (λ lines. AppliesAbove k line lines.refused before after)
      (λ lines refused layer same taken. absurd (true≢false (sym refused ∙ taken))) h

  -- a layer is
  pub is_reverted : (name : Text) → reverted_in line ≡ Some name → IfOk r (λ lines. lines.refused ≡ false → after ≡ counted (length (above name k.layers.live)) before)
      → IfOk r (λ lines. AppliesAbove k line lines.refused before after)
  is_reverted name some h =
      IfOk-weaker r (λ lines. lines.refused ≡ false → after ≡ counted (length (above name k.layers.live)) before) (λ lines. AppliesAbove k line lines.refused before after)
      (λ lines exact layer same taken.
      exact taken ∙ ap (λ t. counted (length (above t k.layers.live)) before) (ap (λ o. unwrap_or o name) (sym some ∙ ap reverted_in same))) h
