-- Notices after an answer: which watches are told of, and what they keep.
use Rattle.std.proofs.Common.{◌≡◌, ℕ, zero, suc, ◌+◌, Bool, true, false, not, ◌||◌, cond, List, [], ◌∷◌, ◌++◌, length, map, take, drop, slice_index_or, append_assoc, refl, sym, ap, subst, ◌∙◌, arith}
use Rattle.std.specs.Bool.{beq}
use Rattle.std.specs.Cmp.{booleans_Decides}
use Rattle.plan_ir.specs.gql_plain.Equal.{tree_eq, tree_eq-itself, tree_eq-sound}
use Rattle.line_engine.proofs.LayerLaws.{first_false, second_false}
use Rattle.line_engine.specs.Notices.{line_of, names_of, told_lines}
use Rattle.line_engine.specs.Stands.{KeepsWatch, KeepsWatches}
use Rattle.relay_machine.specs.Machine as machine
use Rattle.relay_machine.specs.Machine.{Project, is_changed, notices_of, read_again, shown_by, started}
use Rattle.relay_machine.specs.Printed.{notice_line}
use Rattle.plan_ir.specs.schema_tables.Types.{Text}
use Rattle.plan_ir.specs.store_model.Records.{Records}
use Rattle.plan_ir.specs.store_model.Walks.{Reading}
use Rattle.store_watch.specs.store_read.Reading.{slots}
use Rattle.store_watch.specs.Watching as watching
use Rattle.store_watch.specs.Watching.{AreShown, OthersAreShown, Telling, accepted, differs, meets, notices, notices_from, shows, with_kept}

same_reading : (r : Reading) → differs r r ≡ false
same_reading r = λ i. not ((booleans_Decides r.missing r.missing).1 refl i) || not (tree_eq-itself r.value i)

not_false : (b : Bool) → not b ≡ false → b ≡ true
not_false true h = refl
not_false false h = sym h

module _ (p : Project) (m : Records) where
  -- ---- one watch

  same_change : (k : watching.Watch) (w : machine.Watch) → KeepsWatch p k w → differs k.kept (shows (slots m) k.what) ≡ is_changed w (shown_by p m w)
  same_change k w keeps = λ i. not (beq (keeps.missing i) (keeps.what.shows m i).missing) || not (tree_eq (keeps.value i) (keeps.what.shows m i).value)

  unchanged : (k : watching.Watch) (w : machine.Watch) → KeepsWatch p k w → k.kept ≡ shows (slots m) k.what → is_changed w (shown_by p m w) ≡ false
  unchanged k w keeps shown = sym (same_change k w keeps) ∙ ap (differs k.kept) (sym shown) ∙ same_reading k.kept

  no_notice : (n : ℕ) (w : machine.Watch) → is_changed w (shown_by p m w) ≡ false → machine.notice_of p m n w ≡ []
  no_notice n w h = ap (λ b. cond b (notice_line n w.name (shown_by p m w)) []) h

  stays : (w : machine.Watch) → is_changed w (shown_by p m w) ≡ false → read_again p m w ≡ w
  stays w h = ap (λ b. cond b (started w.name w.handle w.part (shown_by p m w)) w) h

  -- ---- watches that show what they keep

  pub none_told : (n e : ℕ) (ks : List watching.Watch) (ws : List machine.Watch) → KeepsWatches p ks ws → AreShown (slots m) ks → notices_of p m n (take e ws) ≡ []
  none_told n e [] [] keeps shown = ap (notices_of p m n) (take_none e)
    where
      take_none : (e : ℕ) → take {A = machine.Watch} e [] ≡ []
      take_none zero = refl
      take_none (suc e) = refl
  none_told n e [] (w ∷ ws) keeps shown = absurd keeps
  none_told n e (k ∷ ks) [] keeps shown = absurd keeps
  none_told n zero (k ∷ ks) (w ∷ ws) keeps shown = refl
  none_told n (suc e) (k ∷ ks) (w ∷ ws) keeps shown = λ i. no_notice n w (unchanged k w keeps.0 shown.0) i ++ none_told n e ks ws keeps.1 shown.1 i

  pub all_stay : (e : ℕ) (ks : List watching.Watch) (ws : List machine.Watch) → KeepsWatches p ks ws → AreShown (slots m) ks
      → map (read_again p m) (take e ws) ++ drop e ws ≡ ws
  all_stay zero ks ws keeps shown = refl
  all_stay (suc e) [] [] keeps shown = refl
  all_stay (suc e) [] (w ∷ ws) keeps shown = absurd keeps
  all_stay (suc e) (k ∷ ks) [] keeps shown = absurd keeps
  all_stay (suc e) (k ∷ ks) (w ∷ ws) keeps shown = λ i. stays w (unchanged k w keeps.0 shown.0) i ∷ all_stay e ks ws keeps.1 shown.1 i

  -- ---- the lines of those that are told

  module _ (touched : List Text) (n : ℕ) (names : List Text) where
    -- the watches have these names, from a place on
    abbrev From : ℕ → List watching.Watch → Type 0
    From k ws = (place : ℕ) → slice_index_or names (k + place) [] ≡ slice_index_or (names_of ws) place []

    next_from : (k : ℕ) (w : watching.Watch) (ws : List watching.Watch) → From k (w ∷ ws) → From (suc k) ws
    next_from k w ws at place = let same : suc k + place ≡ k + suc place = omega arith in ap (λ i. slice_index_or names i []) same ∙ at (suc place)

    here_from : (k : ℕ) (w : watching.Watch) (ws : List watching.Watch) → From k (w ∷ ws) → slice_index_or names k [] ≡ w.name
    here_from k w ws at = let same : k ≡ k + 0 = omega arith in ap (λ i. slice_index_or names i []) same ∙ at 0

    line_is : (k : watching.Watch) (w : machine.Watch) (name : Text) → KeepsWatch p k w → name ≡ k.name
        → cond (differs k.kept (shows (slots m) k.what)) (notice_line n name (shows (slots m) k.what)) [] ≡ machine.notice_of p m n w
    line_is k w name keeps is = λ i. cond (same_change k w keeps i) (notice_line n ((is ∙ keeps.name) i) (keeps.what.shows m i)) []

    told_one : (b : Bool) (t : Telling) (ts : List Telling) (line rest : Text) → line_of names n t ≡ line
        → told_lines names n ts ≡ rest → (b ≡ false → line ≡ []) → told_lines names n (cond b (t ∷ ts) ts) ≡ line ++ rest
    told_one true t ts line rest here later none = λ i. here i ++ later i
    told_one false t ts line rest here later none = later ∙ sym (ap (λ l. l ++ rest) (none refl))

    told_from : (place : ℕ) (ks : List watching.Watch) (ws : List machine.Watch) → KeepsWatches p ks ws → OthersAreShown (slots m) touched ks → From place ks
        → told_lines names n (notices_from (slots m) touched place ks) ≡ notices_of p m n ws
    told_from place [] [] keeps others at = refl
    told_from place [] (w ∷ ws) keeps others at = absurd keeps
    told_from place (k ∷ ks) [] keeps others at = absurd keeps
    told_from place (k ∷ ks) (w ∷ ws) keeps others at =
        told_one (meets k.kept.seen touched) (watching.notice_of (slots m) place k) (notices_from (slots m) touched (suc place) ks) (machine.notice_of p m n w) (notices_of p m n ws)
        (line_is k w (slice_index_or names place []) keeps.0 (here_from place k ks at)) (told_from (suc place) ks ws keeps.1 others.1 (next_from place k ks at))
        (λ none. no_notice n w (unchanged k w keeps.0 (others.0 none)))

  -- the watches that saw nothing that is touched have not changed
  pub told_is : (touched : List Text) (n : ℕ) (ks : List watching.Watch) (ws : List machine.Watch) → KeepsWatches p ks ws → OthersAreShown (slots m) touched ks
      → told_lines (names_of ks) n (notices (slots m) touched ks) ≡ notices_of p m n ws
  told_is touched n ks ws keeps others =
      told_from touched n (names_of ks) 0 ks ws keeps others (λ place. let same : 0 + place ≡ place = omega arith in ap (λ i. slice_index_or (names_of ks) i []) same)

  -- ---- what is kept after the notices

  module _ (touched : List Text) where
    abbrev now : watching.Watch → watching.Watch
    now k = record { name = k.name; what = k.what; kept = shows (slots m) k.what }

    abbrev again : watching.Watch → watching.Watch
    again k = cond (meets k.kept.seen touched) (now k) k

    kept_at : (vs ks : List watching.Watch) (k : watching.Watch) (place : ℕ) (gives : Reading) → place ≡ length vs
        → with_kept (vs ++ k ∷ ks) place gives ≡ vs ++ record { name = k.name; what = k.what; kept = gives } ∷ ks
    kept_at [] ks k zero gives e = refl
    kept_at [] ks k (suc place) gives e = absurd (omega (arith, e))
    kept_at (v ∷ vs) ks k zero gives e = absurd (omega (arith, e))
    kept_at (v ∷ vs) ks k (suc place) gives e = ap (λ us. v ∷ us) (kept_at vs ks k place gives (omega (arith, e)))

    one_longer : (vs : List watching.Watch) (k : watching.Watch) (place : ℕ) → place ≡ length vs → suc place ≡ length (vs ++ k ∷ [])
    one_longer [] k place e = omega (arith, e)
    one_longer (v ∷ vs) k zero e = absurd (omega (arith, e))
    one_longer (v ∷ vs) k (suc place) e = ap (λ i. suc i) (one_longer vs k place (omega (arith, e)))

    -- one watch further
    accepted_one : (k : watching.Watch) (ks vs : List watching.Watch) (place : ℕ) → place ≡ length vs
        → ((us : List watching.Watch) → suc place ≡ length us → accepted (notices_from (slots m) touched (suc place) ks) (us ++ ks) ≡ us ++ map again ks)
        → (b : Bool) → accepted (cond b (watching.notice_of (slots m) place k ∷ notices_from (slots m) touched (suc place) ks) (notices_from (slots m) touched (suc place) ks)) (vs ++ k ∷ ks)
        ≡ vs ++ cond b (now k) k ∷ map again ks
    accepted_one k ks vs place e next true =
        ap (accepted (notices_from (slots m) touched (suc place) ks)) (kept_at vs ks k place (shows (slots m) k.what) e ∙ sym (append_assoc vs (now k ∷ []) ks))
        ∙ next (vs ++ now k ∷ []) (one_longer vs (now k) place e) ∙ append_assoc vs (now k ∷ []) (map again ks)
    accepted_one k ks vs place e next false =
        ap (accepted (notices_from (slots m) touched (suc place) ks)) (sym (append_assoc vs (k ∷ []) ks))
        ∙ next (vs ++ k ∷ []) (one_longer vs k place e) ∙ append_assoc vs (k ∷ []) (map again ks)

    accepted_from : (ks vs : List watching.Watch) (place : ℕ) → place ≡ length vs → accepted (notices_from (slots m) touched place ks) (vs ++ ks) ≡ vs ++ map again ks
    accepted_from [] vs place e = refl
    accepted_from (k ∷ ks) vs place e = accepted_one k ks vs place e (λ us same. accepted_from ks us (suc place) same) (meets k.kept.seen touched)

    -- a watch that was read again keeps what the machine's does
    keeps_now : (k : watching.Watch) (w : machine.Watch) → KeepsWatch p k w → (b : Bool) → is_changed w (shown_by p m w) ≡ b
        → KeepsWatch p (now k) (cond b (started w.name w.handle w.part (shown_by p m w)) w)
    keeps_now k w keeps true is = record {
      name = keeps.name;
      what = keeps.what;
      value = ap (λ (r : Reading). r.value) (keeps.what.shows m);
      missing = ap (λ (r : Reading). r.missing) (keeps.what.shows m);
    }
    keeps_now k w keeps false is =
        let r : Reading = shown_by p m w in
        let missing : w.missing ≡ r.missing = (booleans_Decides w.missing r.missing).0 (not_false (beq w.missing r.missing) (first_false (not (beq w.missing r.missing)) (not (tree_eq w.value r.value)) is)) in
        let value : w.value ≡ r.value = tree_eq-sound w.value r.value (not_false (tree_eq w.value r.value) (second_false (not (beq w.missing r.missing)) (not (tree_eq w.value r.value)) is)) in
        record {
          name = keeps.name;
          what = keeps.what;
          value = ap (λ (r : Reading). r.value) (keeps.what.shows m) ∙ sym value;
          missing = ap (λ (r : Reading). r.missing) (keeps.what.shows m) ∙ sym missing;
        }

    keeps_again : (k : watching.Watch) (w : machine.Watch) → KeepsWatch p k w → (b : Bool) → (b ≡ false → k.kept ≡ shows (slots m) k.what)
        → KeepsWatch p (cond b (now k) k) (read_again p m w)
    keeps_again k w keeps true shown = keeps_now k w keeps (is_changed w (shown_by p m w)) refl
    keeps_again k w keeps false shown = subst (KeepsWatch p k) (sym (stays w (unchanged k w keeps (shown refl)))) keeps

    keep_again : (ks : List watching.Watch) (ws : List machine.Watch) → KeepsWatches p ks ws → OthersAreShown (slots m) touched ks → KeepsWatches p (map again ks) (map (read_again p m) ws)
    keep_again [] [] keeps others = tt
    keep_again [] (w ∷ ws) keeps others = absurd keeps
    keep_again (k ∷ ks) [] keeps others = absurd keeps
    keep_again (k ∷ ks) (w ∷ ws) keeps others = (keeps_again k w keeps.0 (meets k.kept.seen touched) others.0, keep_again ks ws keeps.1 others.1)

    -- the watches keep what the machine's do, when both were read again
    pub keep_accepted : (ks : List watching.Watch) (ws : List machine.Watch) → KeepsWatches p ks ws → OthersAreShown (slots m) touched ks
        → KeepsWatches p (accepted (notices (slots m) touched ks) ks) (map (read_again p m) ws)
    keep_accepted ks ws keeps others =
        subst (λ us. KeepsWatches p us (map (read_again p m) ws)) (sym (accepted_from ks [] 0 refl)) (keep_again ks ws keeps others)
