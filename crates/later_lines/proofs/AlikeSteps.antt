-- A line that looks at none of some ids does the same from two states that are alike but for these.
use Rattle.std.proofs.Common.{◌≡◌, ℕ, Bool, true, false, true≢false, List, [], ◌∷◌, ◌++◌, map, drop, length, take, Option, Some, None, not, is_some, ◌==◌, cond, codes, refl, sym, ap, subst, ◌∙◌}
use Rattle.std.proofs.Math.Seq.{drop-append_seam}
use Rattle.std.proofs.lemmas.List.{append-nil}
use Rattle.later_lines.proofs.AlikeReads.{IsAway, Away, SameElsewhere, fold_alike, looks_first, looks_rest, shown_alike, notices_alike, again_alike}
use Rattle.later_lines.specs.Alike.{AreAlike, StepsAlike}
use Rattle.later_lines.specs.Laws.{LinesStayAlike}
use Rattle.later_lines.specs.Looked.{looked, looked_by_entries, looks_of_all, seen_by_all, seen_by_watches}
use Rattle.plan_ir.specs.Expansion.{operation_named, variable_trees}
use Rattle.plan_ir.specs.relay_marks.Locals.{locals_of}
use Rattle.relay_machine.specs.Effects.{answer_reads, entries_in, event_sweeps, newly_confirmed, reads_of_fragment, reads_of_part, reads_of_target, sweeps}
use Rattle.relay_machine.specs.Machine.{Confirmation, confirmed, swept, Handle, PartShown, Project, State, Step, Watch, accept, act, answer_to, base, confirm, definitions_in, drop_layer, entry_of, first_local_failure, first_refused, fold_confirmed, fragment_read, handle_named, is_in_use, is_layer, is_watch, layer_entries, noticed, notices_of, nothing_said, of_fragment, of_part, of_target, of_verdict, operation_read, read_again, refuse, release_handle, result_of, retain_named, said_to, scope_given, shown, start_watch, started, step_line, unless, unless_failure, unless_unknown, view, with_entries, with_handle, with_layer, with_watches, without_watch}
use Rattle.relay_machine.specs.Printed.{event_line, read_line, watch_line}
use Rattle.relay_machine.specs.Refusals as refusals
use Rattle.relay_machine.specs.Refusals.{Refusal}
use Rattle.plan_ir.specs.schema_tables.Types.{Text}
use Rattle.plan_ir.specs.schema_types.Environments.{Failure, Values, environment, first_failure}
use Rattle.plan_ir.specs.schema_types.NameRules.{fragment_named, fragments, operations}
use Rattle.plan_ir.specs.schema_types.Sites.{FragmentAt, OperationAt}
use Rattle.plan_ir.proofs.store_model_laws.Least.{each_left, each_right}
use Rattle.plan_ir.specs.store_model.Entries.{fold_entries}
use Rattle.plan_ir.specs.store_model.Events as e
use Rattle.plan_ir.specs.store_model.Events.{Event, Line}
use Rattle.plan_ir.specs.store_model.Records.{Records, no_records, slot_at}
use Rattle.plan_ir.specs.store_model.Verdicts.{Verdict, refusal, content}
use Rattle.plan_ir.specs.store_model.Walks.{Found, reading}
use Rattle.plan_ir.specs.store_model.declared.command.Command.{Command}
use Rattle.plan_ir.specs.store_model.declared.entry.Entry.{Entry}

-- ---- what was confirmed

fold_grown : (p : Project) (xs : List Confirmation) (es : List Entry) (m : Records) → fold_confirmed p (xs ++ map confirmed es) m ≡ fold_entries es (fold_confirmed p xs m)
fold_grown p [] [] m = refl
fold_grown p [] (entry ∷ es) m = fold_grown p [] es _
fold_grown p (confirmed entry ∷ xs) es m = fold_grown p xs es _
fold_grown p (swept rs live ∷ xs) es m = fold_grown p xs es _

entries_are : (es : List Entry) → entries_in (map confirmed es) ≡ es
entries_are [] = refl
entries_are (entry ∷ es) = ap (λ xs. entry ∷ xs) (entries_are es)

newly_are : (xs : List Confirmation) (es : List Entry) → entries_in (drop (length xs) (xs ++ map confirmed es)) ≡ es
newly_are xs es = ap entries_in (drop-append_seam xs (map confirmed es)) ∙ entries_are es

-- ---- the other state

module _ (p : Project) (D : Text → Bool) (n : ℕ) (s : State) (es : List Confirmation) (same : SameElsewhere D (base p s) (fold_confirmed p es no_records)) where
  abbrev other : State
  other = with_entries es s

  -- where the one step is refused, or what it looks at is none of the ids, both write the same, and leave alike states
  abbrev pub Alike : List Found → Step → Step → Type 0
  Alike reads a b =
      Away D (cond a.refused [] (looked_by_entries p s a.state ++ (seen_by_all reads ++ seen_by_watches p (view p a.state) (take (length s.watches) a.state.watches))))
      → StepsAlike p D (noticed p n (length s.watches) a) (noticed p n (length s.watches) b)

  refused_alike : (reads : List Found) (r : Refusal) → Alike reads (refuse s n r) (refuse other n r)
  refused_alike reads r away = record {
    text = refl;
    refused = refl;
    states = record { layers = refl; handles = refl; released = refl; watches = refl; bases = same };
  }

  -- where both confirm the same entries, and give the same answer if the views are the same elsewhere
  accepted : (reads : List Found) (x y : Text) (a : State) (bs : List Confirmation) (ws : List Watch) (news : List Entry) → a.entries ≡ s.entries ++ map confirmed news → bs ≡ es ++ map confirmed news
      → (SameElsewhere D (view p a) (view p (with_entries bs a)) → Away D (seen_by_all reads) → (x ≡ y) × (a.watches ≡ ws))
      → Alike reads (accept x a) (accept y (with_watches ws (with_entries bs a)))
  accepted reads x y a bs ws news grown grown_too answer away =
      let earlier = length s.watches in
      let asked = seen_by_all reads in
      let watched = seen_by_watches p (view p a) (take earlier a.watches) in
      let by_entries = each_left (IsAway D) (looked_by_entries p s a) (asked ++ watched) away in
      let by_reads = each_right (IsAway D) (looked_by_entries p s a) (asked ++ watched) away in
      let new : newly_confirmed s a ≡ news = ap (λ xs. entries_in (drop (length s.entries) xs)) grown ∙ newly_are s.entries news in
      let looked = subst (λ xs. Away D (looks_of_all (xs ++ layer_entries a) (base p s))) new by_entries in
      let made : base p a ≡ fold_entries news (base p s) = ap (λ xs. fold_confirmed p xs no_records) grown ∙ fold_grown p s.entries news no_records in
      let made_too : fold_confirmed p bs no_records ≡ fold_entries news (fold_confirmed p es no_records) = ap (λ xs. fold_confirmed p xs no_records) grown_too ∙ fold_grown p es news no_records in
      let bases : SameElsewhere D (base p a) (fold_confirmed p bs no_records)
      = λ id h. ap (slot_at id) made ∙ fold_alike D news (base p s) (fold_confirmed p es no_records) same (looks_first D news (layer_entries a) (base p s) looked) id h ∙ sym (ap (slot_at id) made_too) in
      let under = subst (λ m. Away D (looks_of_all (layer_entries a) m)) (sym made) (looks_rest D news (layer_entries a) (base p s) looked) in
      let views : SameElsewhere D (view p a) (view p (with_entries bs a)) = fold_alike D (layer_entries a) (base p a) (fold_confirmed p bs no_records) bases under in
      let told = answer views (each_left (IsAway D) asked watched by_reads) in
      let seen = each_right (IsAway D) asked watched by_reads in
      let notices : notices_of p (view p a) n (take earlier a.watches) ≡ notices_of p (view p (with_entries bs a)) n (take earlier ws)
      = sym (notices_alike D p (view p a) (view p (with_entries bs a)) views n (take earlier a.watches) seen) ∙ ap (λ vs. notices_of p (view p (with_entries bs a)) n (take earlier vs)) told.1 in
      let again : map (read_again p (view p a)) (take earlier a.watches) ≡ map (read_again p (view p (with_entries bs a))) (take earlier ws)
      = sym (again_alike D p (view p a) (view p (with_entries bs a)) views (take earlier a.watches) seen) ∙ ap (λ vs. map (read_again p (view p (with_entries bs a))) (take earlier vs)) told.1 in
      record {
        text = λ i. told.0 i ++ notices i;
        refused = refl;
        states = record { layers = refl; handles = refl; released = refl; watches = λ i. again i ++ drop earlier (told.1 i); bases = bases };
      }

  -- nothing is confirmed, and nothing read
  unchanged : (x : Text) (a : State) → a.entries ≡ s.entries → Alike [] (accept x a) (accept x (with_entries es a))
  unchanged x a kept = accepted [] x x a es a.watches [] (kept ∙ sym (append-nil s.entries)) (sym (append-nil es)) (λ views seen. (refl, refl))

  -- one entry is confirmed
  confirmed_alike : (x : Text) (entry : Entry) (a : State) → a.entries ≡ s.entries → Alike [] (accept x (confirm entry a)) (accept x (confirm entry (with_entries es a)))
  confirmed_alike x entry a kept =
      accepted [] x x (confirm entry a) (es ++ confirmed entry ∷ []) a.watches (entry ∷ []) (ap (λ xs. xs ++ confirmed entry ∷ []) kept) refl (λ views seen. (refl, refl))

  -- ---- refusals

  unless_alike : (reads : List Found) (b : Bool) (r : Refusal) (a c : Step) → Alike reads a c → Alike reads (unless s n b r a) (unless other n b r c)
  unless_alike reads true r a c alike = refused_alike reads r
  unless_alike reads false r a c alike = alike

  failure_alike : (reads : List Found) (o : Option Failure) (a c : Step) → Alike reads a c → Alike reads (unless_failure s n o a) (unless_failure other n o c)
  failure_alike reads None a c alike = alike
  failure_alike reads (Some f) a c alike = refused_alike reads (refusals.variables f)

  unknown_alike : (reads : List Found) (o : Option Text) (a c : Step) → Alike reads a c → Alike reads (unless_unknown s n o a) (unless_unknown other n o c)
  unknown_alike reads None a c alike = alike
  unknown_alike reads (Some name) a c alike = refused_alike reads (refusals.unknown_type name)

  -- what comes before other refusals
  abbrev Keeps : (Step → Step) → (Step → Step) → Type 0
  Keeps before also = (reads : List Found) (a c : Step) → Alike reads a c → Alike reads (before a) (also c)

  -- ---- handles

  retained_alike : (name op : Text) (o : Option OperationAt) (given : Values) → Alike [] (retain_named p s n name op o given) (retain_named p other n name op o given)
  retained_alike name op None given = refused_alike [] (refusals.unknown_operation op)
  retained_alike name op (Some o) given =
      let h : Handle = record { name = name; operation = o; values = environment (variable_trees o.variables) given } in
      let done = accept (event_line (codes "retain") n) (with_handle h s) in
      let also = accept (event_line (codes "retain") n) (with_handle h other) in
      let failure = first_failure p.defs (variable_trees o.variables) given in
      unless_alike [] (length s.handles == refusals.most refusals.handles) (refusals.too_many refusals.handles) (unless_failure s n failure done) (unless_failure other n failure also)
      (failure_alike [] failure done also (unchanged (event_line (codes "retain") n) (with_handle h s) refl))

  -- ---- answers

  verdict_alike : (v : Verdict) (cs : List Command) (take also : Entry → Step) → ((entry : Entry) → Alike [] (take entry) (also entry)) → Alike [] (of_verdict s n v cs take) (of_verdict other n v cs also)
  verdict_alike (refusal f) cs take also alike = refused_alike [] (refusals.payload f)
  verdict_alike (content said) cs take also alike = alike (entry_of said cs)

  module _ (cs : List Command) (before before_too : Step → Step) (keeps : Keeps before before_too) (take also : Entry → Step) (alike : (entry : Entry) → Alike [] (take entry) (also entry)) where
    answered_alike : (o : Option Handle) (a : e.Answer) → Alike [] (answer_to p s n o a cs before take) (answer_to p other n o a cs before_too also)
    answered_alike None a = refused_alike [] (refusals.unknown_handle a.handle)
    answered_alike (Some h) a =
        let v = said_to p h a.response in
        let wrong = first_refused p.defs cs in
        keeps [] (unless_unknown s n wrong (of_verdict s n v cs take)) (unless_unknown other n wrong (of_verdict other n v cs also))
        (unknown_alike [] wrong (of_verdict s n v cs take) (of_verdict other n v cs also) (verdict_alike v cs take also alike))

    result_alike : (o : Option e.Answer) → Alike [] (result_of p s n o cs before take) (result_of p other n o cs before_too also)
    result_alike None =
        let wrong = first_refused p.defs cs in
        let entry = entry_of nothing_said cs in
        keeps [] (unless_unknown s n wrong (take entry)) (unless_unknown other n wrong (also entry)) (unknown_alike [] wrong (take entry) (also entry) (alike entry))
    result_alike (Some a) = answered_alike (handle_named s.handles a.handle) a

  -- ---- reads

  -- the read of an operation, or of a part of it
  abbrev reads_shown : Handle → Option PartShown → List Found
  reads_shown h None = operation_read p (view p s) h ∷ []
  reads_shown h (Some q) = fragment_read p (view p s) h q.fragment q.scope q.id ∷ []

  shown_same : (h : Handle) (part : Option PartShown) → SameElsewhere D (view p s) (view p other) → Away D (seen_by_all (reads_shown h part)) → shown p (view p s) h part ≡ shown p (view p other) h part
  shown_same h None views seen =
      sym (shown_alike D p (view p s) (view p other) views h None (each_left (IsAway D) (reading (operation_read p (view p s) h)).seen [] seen))
  shown_same h (Some q) views seen =
      sym (shown_alike D p (view p s) (view p other) views h (Some q) (each_left (IsAway D) (reading (fragment_read p (view p s) h q.fragment q.scope q.id)).seen [] seen))

  module _ (before before_too : Step → Step) (keeps : Keeps before before_too) (take also : Handle → Option PartShown → Step) (alike : (h : Handle) (part : Option PartShown) → Alike (reads_shown h part) (take h part) (also h part)) where
    fragment_alike : (h : Handle) (part : e.Part) (o : Option FragmentAt)
        → Alike (reads_of_fragment p (view p s) h part o) (of_fragment p s n part o before (take h)) (of_fragment p other n part o before_too (also h))
    fragment_alike h part None = refused_alike [] (refusals.unknown_fragment part.fragment)
    fragment_alike h part (Some f) =
        let failure = first_local_failure p.defs (locals_of f.directives) part.args in
        let q : PartShown = record { fragment = f; scope = scope_given (locals_of f.directives) part.args; id = part.id } in
        let reads = reads_shown h (Some q) in
        keeps reads (unless_failure s n failure (take h (Some q))) (unless_failure other n failure (also h (Some q)))
        (failure_alike reads failure (take h (Some q)) (also h (Some q)) (alike h (Some q)))

    part_alike : (h : Handle) (o : Option e.Part) → Alike (reads_of_part p (view p s) h o) (of_part p s n o before (take h)) (of_part p other n o before_too (also h))
    part_alike h None = keeps (reads_shown h None) (take h None) (also h None) (alike h None)
    part_alike h (Some part) = fragment_alike h part (fragment_named (fragments (definitions_in p)) part.fragment)

    target_alike : (target : e.Target) (o : Option Handle) → Alike (reads_of_target p (view p s) target o) (of_target p s n target o before take) (of_target p other n target o before_too also)
    target_alike target None = refused_alike [] (refusals.unknown_handle target.handle)
    target_alike target (Some h) = part_alike h target.part

  read_alike : (h : Handle) (part : Option PartShown) → Alike (reads_shown h part) (accept (read_line n (shown p (view p s) h part)) s) (accept (read_line n (shown p (view p other) h part)) other)
  read_alike h part =
      accepted (reads_shown h part) (read_line n (shown p (view p s) h part)) (read_line n (shown p (view p other) h part)) s es s.watches [] (sym (append-nil s.entries)) (sym (append-nil es))
      (λ views seen. (ap (read_line n) (shown_same h part views seen), refl))

  started_alike : (name : Text) (h : Handle) (part : Option PartShown) → Alike (reads_shown h part) (start_watch p s n name h part) (start_watch p other n name h part)
  started_alike name h part =
      let one = shown p (view p s) h part in
      let too = shown p (view p other) h part in
      accepted (reads_shown h part) (watch_line n one) (watch_line n too) (with_watches (s.watches ++ started name h part one ∷ []) s) es (s.watches ++ started name h part too ∷ []) []
      (sym (append-nil s.entries)) (sym (append-nil es))
      (λ views seen. (ap (watch_line n) (shown_same h part views seen), ap (λ r. s.watches ++ started name h part r ∷ []) (shown_same h part views seen)))

  -- ---- events

  act_alike : (buffer : ℕ) (event : Event) → event_sweeps event ≡ false → Alike (answer_reads p s event) (act p buffer s n event) (act p buffer other n event)
  act_alike buffer (e.retain name op given) quiet =
      let o = operation_named (operations (definitions_in p)) op in
      unless_alike [] (is_some (handle_named s.handles name)) (refusals.handle_taken name) (retain_named p s n name op o given) (retain_named p other n name op o given) (retained_alike name op o given)
  act_alike buffer (e.release name) quiet =
      let x = event_line (codes "release") n in
      let done = accept x (release_handle name s) in
      let also = accept x (release_handle name other) in
      unless_alike [] (not (is_some (handle_named s.handles name))) (refusals.unknown_handle name)
      (unless s n (is_in_use s.watches name) (refusals.handle_in_use name) done) (unless other n (is_in_use s.watches name) (refusals.handle_in_use name) also)
      (unless_alike [] (is_in_use s.watches name) (refusals.handle_in_use name) done also (unchanged x (release_handle name s) refl))
  act_alike buffer (e.payload answer cs) quiet =
      let x = event_line (codes "payload") n in
      answered_alike cs (λ step. step) (λ step. step) (λ reads a c alike. alike) (λ entry. accept x (confirm entry s)) (λ entry. accept x (confirm entry other))
      (λ entry. confirmed_alike x entry s refl) (handle_named s.handles answer.handle) answer
  act_alike buffer (e.update cs) quiet =
      let x = event_line (codes "update") n in
      let entry = entry_of nothing_said cs in
      unknown_alike [] (first_refused p.defs cs) (accept x (confirm entry s)) (accept x (confirm entry other)) (confirmed_alike x entry s refl)
  act_alike buffer (e.begin name answer cs) quiet =
      let x = event_line (codes "begin") n in
      let full = length s.layers == refusals.most refusals.layers in
      let before = unless s n full (refusals.too_many refusals.layers) in
      let before_too = unless other n full (refusals.too_many refusals.layers) in
      let done = λ (entry : Entry). accept x (with_layer name entry s) in
      let also = λ (entry : Entry). accept x (with_layer name entry other) in
      unless_alike [] (is_layer s.layers name) (refusals.layer_taken name) (result_of p s n answer cs before done) (result_of p other n answer cs before_too also)
      (result_alike cs before before_too (λ reads a c alike. unless_alike reads full (refusals.too_many refusals.layers) a c alike) done also (λ entry. unchanged x (with_layer name entry s) refl) answer)
  act_alike buffer (e.finish name answer cs) quiet =
      let x = event_line (codes "finish") n in
      let done = λ (entry : Entry). accept x (confirm entry (drop_layer name s)) in
      let also = λ (entry : Entry). accept x (confirm entry (drop_layer name other)) in
      unless_alike [] (not (is_layer s.layers name)) (refusals.unknown_layer name) (result_of p s n answer cs (λ step. step) done) (result_of p other n answer cs (λ step. step) also)
      (result_alike cs (λ step. step) (λ step. step) (λ reads a c alike. alike) done also (λ entry. confirmed_alike x entry (drop_layer name s) refl) answer)
  act_alike buffer (e.revert name) quiet =
      let x = event_line (codes "revert") n in
      unless_alike [] (not (is_layer s.layers name)) (refusals.unknown_layer name) (accept x (drop_layer name s)) (accept x (drop_layer name other)) (unchanged x (drop_layer name s) refl)
  act_alike buffer (e.read target) quiet =
      target_alike (λ step. step) (λ step. step) (λ reads a c alike. alike) (λ h part. accept (read_line n (shown p (view p s) h part)) s) (λ h part. accept (read_line n (shown p (view p other) h part)) other)
      read_alike target (handle_named s.handles target.handle)
  act_alike buffer (e.watch name target) quiet =
      let reads = reads_of_target p (view p s) target (handle_named s.handles target.handle) in
      let full = length s.watches == refusals.most refusals.watches in
      let before = unless s n full (refusals.too_many refusals.watches) in
      let before_too = unless other n full (refusals.too_many refusals.watches) in
      unless_alike reads (is_watch s.watches name) (refusals.watch_taken name)
      (of_target p s n target (handle_named s.handles target.handle) before (start_watch p s n name)) (of_target p other n target (handle_named s.handles target.handle) before_too (start_watch p other n name))
      (target_alike before before_too (λ of a c alike. unless_alike of full (refusals.too_many refusals.watches) a c alike) (start_watch p s n name) (start_watch p other n name) (started_alike name)
      target (handle_named s.handles target.handle))
  act_alike buffer (e.unwatch name) quiet =
      let x = event_line (codes "unwatch") n in
      let a = with_watches (without_watch name s.watches) s in
      unless_alike [] (not (is_watch s.watches name)) (refusals.unknown_watch name) (accept x a) (accept x (with_entries es a)) (unchanged x a refl)
  act_alike buffer e.collect quiet = absurd (true≢false quiet)

  line_alike : (buffer : ℕ) (line : Line) → sweeps line ≡ false → Away D (looked p buffer s n line) → StepsAlike p D (step_line p buffer s n line) (step_line p buffer other n line)
  line_alike buffer e.too_long quiet away = refused_alike [] refusals.line_too_long tt
  line_alike buffer e.not_json quiet away = refused_alike [] refusals.not_json tt
  line_alike buffer e.no_event quiet away = refused_alike [] refusals.event_shape tt
  line_alike buffer e.no_commands quiet away = refused_alike [] refusals.update_shape tt
  line_alike buffer (e.event event) quiet away = act_alike buffer event quiet away

-- ---- the law

-- alike states differ in what was confirmed alone
pub other_is : (p : Project) (D : Text → Bool) (s t : State) → AreAlike p D s t → with_entries t.entries s ≡ t
other_is p D s t alike = λ i. record { entries = t.entries; layers = alike.layers i; handles = alike.handles i; released = alike.released i; watches = alike.watches i }

pub lines_alike : LinesStayAlike
lines_alike p buffer D s t n line alike quiet away =
    subst (λ x. StepsAlike p D (step_line p buffer s n line) (step_line p buffer x n line)) (other_is p D s t alike) (line_alike p D n s t.entries alike.bases buffer line quiet away)
