-- What is kept by each change that a line may make of a state is kept by each line.
use Rattle.std.proofs.Common.{◌≡◌, ℕ, ◌==◌, Bool, true, false, not, cond, List, [], ◌∷◌, ◌++◌, map, take, drop, length, Option, Some, None, is_some, codes, refl, ap, ◌∙◌}
use Rattle.plan_ir.specs.Expansion.{operation_named, variable_trees}
use Rattle.plan_ir.specs.relay_marks.Locals.{locals_of}
use Rattle.plan_ir.specs.schema_tables.Types.{Text}
use Rattle.plan_ir.specs.schema_types.Environments.{Failure, Values, environment, first_failure}
use Rattle.plan_ir.specs.schema_types.NameRules.{fragment_named, fragments, operations}
use Rattle.plan_ir.specs.schema_types.Sites.{FragmentAt, OperationAt}
use Rattle.plan_ir.specs.store_model.Events as e
use Rattle.plan_ir.specs.store_model.Events.{Event, Line}
use Rattle.plan_ir.specs.store_model.Records.{Records}
use Rattle.plan_ir.specs.store_model.Said.{Said}
use Rattle.plan_ir.specs.store_model.Verdicts.{Verdict, content, refusal}
use Rattle.plan_ir.specs.store_model.declared.command.Command.{Command}
use Rattle.plan_ir.specs.store_model.declared.entry.Entry.{Entry}
use Rattle.relay_machine.specs.Machine.{Handle, PartShown, Project, State, Step, Watch, accept, act, answer_to, confirm, definitions_in, drop_layer, entry_of, first_local_failure, first_refused, handle_named, is_in_use, is_layer, is_watch, noticed, nothing_said, of_fragment, of_part, of_target, of_verdict, read_again, release_handle, result_of, retain_named, said_to, scope_given, shown, start_watch, started, step_begin, step_collect, step_finish, step_line, step_payload, step_read, step_release, step_retain, step_revert, step_unwatch, step_update, step_watch, swept_state, unless, unless_failure, unless_unknown, view, with_handle, with_layer, with_notices, with_watches, without_watch}
use Rattle.relay_machine.specs.Printed.{event_line, read_line}
use Rattle.relay_machine.specs.Refusals as refusals
use Rattle.relay_machine.specs.Refusals.{Refusal, handles, layers, most, too_many, watches}
use Rattle.serde_json.specs.Data as J
use Rattle.sound_records.specs.Giving.{AreGiven, IsGivenEvent, IsGivenLine, IsGivenPart, IsName}
use Rattle.sound_states.proofs.Names.{named_so}
use Rattle.sound_states.specs.Sound.{IsSoundHandle, IsSoundShown}

-- watches of which the first so many are read again in records
abbrev pub again : Project → Records → ℕ → List Watch → List Watch
again p m k ws = map (read_again p m) (take k ws) ++ drop k ws

-- the state in which the first so many watches are read again in the view
abbrev pub noticed_in : Project → ℕ → State → State
noticed_in p k t = with_watches (again p (view p t) k t.watches) t

-- what holds of a state holds after each change of it, where each entry that is confirmed, or stands in a layer, is good
pub record IsKept (p : Project) (s : State) (IsGood : Entry → Type 0) (Holds : State → Type 0) : Type 0 where
  pub before : Holds s
  pub commanded : (cs : List Command) → AreGiven cs → first_refused p.defs cs ≡ None → IsGood (entry_of nothing_said cs)
  pub answered : (name : Text) (h : Handle) (response : J.Data) (said : Said) (cs : List Command) → handle_named s.handles name ≡ Some h → said_to p h response ≡ content said
      → AreGiven cs → first_refused p.defs cs ≡ None → IsGood (entry_of said cs)
  pub confirms : (entry : Entry) → IsGood entry → Holds (confirm entry s)
  pub begins : (name : Text) (entry : Entry) → IsName name → is_layer s.layers name ≡ false → (length s.layers == most layers) ≡ false → IsGood entry → Holds (with_layer name entry s)
  pub finishes : (name : Text) (entry : Entry) → IsGood entry → Holds (confirm entry (drop_layer name s))
  pub reverts : (name : Text) → Holds (drop_layer name s)
  pub sweeps : (buffer : ℕ) → Holds (swept_state buffer s)
  pub retains : (h : Handle) → IsSoundHandle p h → is_some (handle_named s.handles h.name) ≡ false → (length s.handles == most handles) ≡ false → Holds (with_handle h s)
  pub releases : (name : Text) → is_in_use s.watches name ≡ false → Holds (release_handle name s)
  pub starts : (w : Watch) → IsName w.name → IsSoundShown p w.part → handle_named s.handles w.handle.name ≡ Some w.handle → is_watch s.watches w.name ≡ false
      → (length s.watches == most watches) ≡ false → Holds (with_watches (s.watches ++ w ∷ []) s)
  pub stops : (name : Text) → Holds (with_watches (without_watch name s.watches) s)
  pub notices : (k : ℕ) (t : State) → Holds t → Holds (noticed_in p k t)

module _ {IsGood : Entry → Type 0} {Holds : State → Type 0} (p : Project) (s : State) (kept : IsKept p s IsGood Holds) (n : ℕ) where
  abbrev Keeps : Step → Type 0
  Keeps step = Holds step.state

  -- ---- what comes before a step

  by_unless : (b : Bool) (r : Refusal) (step : Step) → (b ≡ false → Keeps step) → Keeps (unless s n b r step)
  by_unless true r step h = kept.before
  by_unless false r step h = h refl

  by_failure : (o : Option Failure) (step : Step) → (o ≡ None → Keeps step) → Keeps (unless_failure s n o step)
  by_failure None step h = h refl
  by_failure (Some f) step h = kept.before

  by_unknown : (o : Option Text) (step : Step) → (o ≡ None → Keeps step) → Keeps (unless_unknown s n o step)
  by_unknown None step h = h refl
  by_unknown (Some t) step h = kept.before

  -- ---- entries

  by_verdict : (v : Verdict) (cs : List Command) (take : Entry → Step) → ((said : Said) → v ≡ content said → Keeps (take (entry_of said cs))) → Keeps (of_verdict s n v cs take)
  by_verdict (refusal f) cs take h = kept.before
  by_verdict (content said) cs take h = h said refl

  -- `Room` is what is known behind what comes before
  module _ (Room : Type 0) (before : Step → Step) (keeps : (step : Step) → (Room → Keeps step) → Keeps (before step)) (cs : List Command) (given : AreGiven cs) (take : Entry → Step)
      (taken : Room → (entry : Entry) → IsGood entry → Keeps (take entry)) where
    by_answer : (o : Option Handle) (a : e.Answer) → handle_named s.handles a.handle ≡ o → Keeps (answer_to p s n o a cs before take)
    by_answer None a is = kept.before
    by_answer (Some h) a is =
        keeps (unless_unknown s n (first_refused p.defs cs) (of_verdict s n (said_to p h a.response) cs take))
        (λ fits. by_unknown (first_refused p.defs cs) (of_verdict s n (said_to p h a.response) cs take)
        (λ known. by_verdict (said_to p h a.response) cs take
        (λ said says. taken fits (entry_of said cs) (kept.answered a.handle h a.response said cs is says given known))))

    by_result : (o : Option e.Answer) → Keeps (result_of p s n o cs before take)
    by_result None =
        keeps (unless_unknown s n (first_refused p.defs cs) (take (entry_of nothing_said cs)))
        (λ fits. by_unknown (first_refused p.defs cs) (take (entry_of nothing_said cs)) (λ known. taken fits (entry_of nothing_said cs) (kept.commanded cs given known)))
    by_result (Some a) = by_answer (handle_named s.handles a.handle) a refl

  -- ---- targets

  module _ (Room : Type 0) (before : Step → Step) (keeps : (step : Step) → (Room → Keeps step) → Keeps (before step)) where
    by_fragment : (part : e.Part) (given : IsGivenPart (Some part)) (take : Option PartShown → Step) → (Room → (o : Option PartShown) → IsSoundShown p o → Keeps (take o))
        → (o : Option FragmentAt) → fragment_named (fragments (definitions_in p)) part.fragment ≡ o → Keeps (of_fragment p s n part o before take)
    by_fragment part given take taken None is = kept.before
    by_fragment part given take taken (Some f) is =
        keeps (unless_failure s n (first_local_failure p.defs (locals_of f.directives) part.args) (take shown_part))
        (λ fits. by_failure (first_local_failure p.defs (locals_of f.directives) part.args) (take shown_part)
        (λ none. taken fits shown_part (record { there = (part.fragment, is); id = given; valued = (part.args, none, refl) })))
      where
        shown_part : Option PartShown
        shown_part = Some (record { fragment = f; scope = scope_given (locals_of f.directives) part.args; id = part.id })

    by_part : (o : Option e.Part) (given : IsGivenPart o) (take : Option PartShown → Step) → (Room → (o : Option PartShown) → IsSoundShown p o → Keeps (take o)) → Keeps (of_part p s n o before take)
    by_part None given take taken = keeps (take None) (λ fits. taken fits None tt)
    by_part (Some part) given take taken = by_fragment part given take taken (fragment_named (fragments (definitions_in p)) part.fragment) refl

    by_target : (target : e.Target) → IsGivenPart target.part → (take : Handle → Option PartShown → Step)
        → (Room → (h : Handle) (o : Option PartShown) → handle_named s.handles h.name ≡ Some h → IsSoundShown p o → Keeps (take h o))
        → (o : Option Handle) → handle_named s.handles target.handle ≡ o → Keeps (of_target p s n target o before take)
    by_target target given take taken None is = kept.before
    by_target target given take taken (Some h) is =
        by_part target.part given (take h)
        (λ fits o good. taken fits h o (ap (handle_named s.handles) (named_so s.handles target.handle h is) ∙ is) good)

  -- ---- events

  abbrev Nothing : Type 0
  Nothing = Unit {0}

  as_it_is : (step : Step) → (Nothing → Keeps step) → Keeps step
  as_it_is step h = h tt

  retains : (name op : Text) (given : Values) → IsName name → Keeps (step_retain p s n name op given)
  retains name op given short =
      by_unless (is_some (handle_named s.handles name)) (refusals.handle_taken name) (retain_named p s n name op (operation_named (operations (definitions_in p)) op) given)
      (λ free. at (operation_named (operations (definitions_in p)) op) refl free)
    where
      at : (o : Option OperationAt) → operation_named (operations (definitions_in p)) op ≡ o → is_some (handle_named s.handles name) ≡ false → Keeps (retain_named p s n name op o given)
      at None is free = kept.before
      at (Some o) is free =
          by_unless (length s.handles == most handles) (too_many handles)
          (unless_failure s n (first_failure p.defs (variable_trees o.variables) given) (accept (event_line (codes "retain") n) (with_handle h s)))
          (λ fits. by_failure (first_failure p.defs (variable_trees o.variables) given) (accept (event_line (codes "retain") n) (with_handle h s))
          (λ none. kept.retains h (record { name = short; operation = record { there = (op, is); valued = (given, none, refl) } }) free fits))
        where
          h : Handle
          h = record { name = name; operation = o; values = environment (variable_trees o.variables) given }

  releases : (name : Text) → Keeps (step_release s n name)
  releases name =
      by_unless (not (is_some (handle_named s.handles name))) (refusals.unknown_handle name)
      (unless s n (is_in_use s.watches name) (refusals.handle_in_use name) (accept (event_line (codes "release") n) (release_handle name s)))
      (λ _. by_unless (is_in_use s.watches name) (refusals.handle_in_use name) (accept (event_line (codes "release") n) (release_handle name s)) (λ free. kept.releases name free))

  pays : (a : e.Answer) (cs : List Command) → AreGiven cs → Keeps (step_payload p s n a cs)
  pays a cs given =
      by_answer Nothing (λ step. step) as_it_is cs given (λ entry. accept (event_line (codes "payload") n) (confirm entry s)) (λ _ entry good. kept.confirms entry good)
      (handle_named s.handles a.handle) a refl

  updates : (cs : List Command) → AreGiven cs → Keeps (step_update p s n cs)
  updates cs given =
      by_unknown (first_refused p.defs cs) (accept (event_line (codes "update") n) (confirm (entry_of nothing_said cs) s))
      (λ known. kept.confirms (entry_of nothing_said cs) (kept.commanded cs given known))

  begins : (name : Text) (o : Option e.Answer) (cs : List Command) → IsName name → AreGiven cs → Keeps (step_begin p s n name o cs)
  begins name o cs short given =
      by_unless (is_layer s.layers name) (refusals.layer_taken name)
      (result_of p s n o cs (unless s n (length s.layers == most layers) (too_many layers)) (λ entry. accept (event_line (codes "begin") n) (with_layer name entry s)))
      (λ free. by_result ((length s.layers == most layers) ≡ false) (unless s n (length s.layers == most layers) (too_many layers))
      (λ step h. by_unless (length s.layers == most layers) (too_many layers) step h) cs given (λ entry. accept (event_line (codes "begin") n) (with_layer name entry s))
      (λ fits entry good. kept.begins name entry short free fits good) o)

  finishes : (name : Text) (o : Option e.Answer) (cs : List Command) → AreGiven cs → Keeps (step_finish p s n name o cs)
  finishes name o cs given =
      by_unless (not (is_layer s.layers name)) (refusals.unknown_layer name)
      (result_of p s n o cs (λ step. step) (λ entry. accept (event_line (codes "finish") n) (confirm entry (drop_layer name s))))
      (λ _. by_result Nothing (λ step. step) as_it_is cs given (λ entry. accept (event_line (codes "finish") n) (confirm entry (drop_layer name s)))
      (λ _ entry good. kept.finishes name entry good) o)

  reverts : (name : Text) → Keeps (step_revert s n name)
  reverts name = by_unless (not (is_layer s.layers name)) (refusals.unknown_layer name) (accept (event_line (codes "revert") n) (drop_layer name s)) (λ _. kept.reverts name)

  reads : (target : e.Target) → IsGivenPart target.part → Keeps (step_read p s n target)
  reads target given =
      by_target Nothing (λ step. step) as_it_is target given (λ h part. accept (read_line n (shown p (view p s) h part)) s) (λ _ h o held good. kept.before)
      (handle_named s.handles target.handle) refl

  watches_so : (name : Text) (target : e.Target) → IsName name → IsGivenPart target.part → Keeps (step_watch p s n name target)
  watches_so name target short given =
      by_unless (is_watch s.watches name) (refusals.watch_taken name)
      (of_target p s n target (handle_named s.handles target.handle) (unless s n (length s.watches == most watches) (too_many watches)) (start_watch p s n name))
      (λ free. by_target ((length s.watches == most watches) ≡ false) (unless s n (length s.watches == most watches) (too_many watches))
      (λ step h. by_unless (length s.watches == most watches) (too_many watches) step h) target given (start_watch p s n name)
      (λ fits h o held good. kept.starts (started name h o (shown p (view p s) h o)) short good held free fits)
      (handle_named s.handles target.handle) refl)

  unwatches : (name : Text) → Keeps (step_unwatch s n name)
  unwatches name =
      by_unless (not (is_watch s.watches name)) (refusals.unknown_watch name) (accept (event_line (codes "unwatch") n) (with_watches (without_watch name s.watches) s)) (λ _. kept.stops name)

  collects : (buffer : ℕ) → Keeps (step_collect p buffer s n)
  collects buffer = kept.sweeps buffer

  acts : (buffer : ℕ) (event : Event) → IsGivenEvent event → Keeps (act p buffer s n event)
  acts buffer (e.retain handle op given) h = retains handle op given h
  acts buffer (e.release handle) h = releases handle
  acts buffer (e.payload answer commands) h = pays answer commands h
  acts buffer (e.update commands) h = updates commands h
  acts buffer (e.begin layer answer commands) h = begins layer answer commands h.0 h.1
  acts buffer (e.finish layer answer commands) h = finishes layer answer commands h.1
  acts buffer (e.revert layer) h = reverts layer
  acts buffer (e.read target) h = reads target h.1
  acts buffer (e.watch name target) h = watches_so name target h.0 h.1.1
  acts buffer (e.unwatch name) h = unwatches name
  acts buffer e.collect h = collects buffer

  -- ---- lines

  notices : (k : ℕ) (step : Step) → Keeps step → Keeps (noticed p n k step)
  notices k step holds = at step.refused
    where
      at : (b : Bool) → Keeps (cond b step (with_notices p n k step))
      at true = holds
      at false = kept.notices k step.state holds

  pub kept_by_line : (buffer : ℕ) (line : Line) → IsGivenLine line → Keeps (step_line p buffer s n line)
  kept_by_line buffer e.too_long given = kept.before
  kept_by_line buffer e.not_json given = kept.before
  kept_by_line buffer e.no_event given = kept.before
  kept_by_line buffer e.no_commands given = kept.before
  kept_by_line buffer (e.event event) given = notices (length s.watches) (act p buffer s n event) (acts buffer event given)
