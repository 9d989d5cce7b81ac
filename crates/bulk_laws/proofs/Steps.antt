-- What each line of the large script does to a state: it is not refused, and the handle, the watch and the layer stand as the script says.
use Rattle.std.proofs.Common.{◌≡◌, ◌==◌, ◌++◌, ℕ, Bool, true, false, not, cond, List, [], ◌∷◌, length, take, drop, map, Some, None, codes, refl, sym, ap, subst, ◌∙◌}
use Rattle.std.specs.Prelude.{is_some, pos}
use Rattle.bulk_laws.proofs.ReadLines.{begun, paid, retained, reverted, watched}
use Rattle.plan_ir.specs.Expansion.{operation_named, variable_trees}
use Rattle.relay_machine.specs.Bulk.{Stage, retaining, watching, drawing}
use Rattle.relay_machine.specs.Machine.{Handle, Layer, Project, State, Step, Watch, accept, answer_to, act, confirm, definitions_in, drop_layer, entry_of, handle_named, is_layer, is_watch, noticed, nothing_said, of_target, of_verdict, read_again, result_of, retain_named, said_to, start_watch, step, step_begin, step_collect, step_event, step_line, step_payload, step_retain, step_revert, step_watch, unless, unless_failure, view, with_handle, with_layer, with_notices, without_layer}
use Rattle.relay_machine.specs.Printed.{event_line}
use Rattle.relay_machine.specs.Refusals.{handle_taken, handles, layer_taken, layers, most, too_many, unknown_layer, watch_taken, watches}
use Rattle.plan_ir.specs.schema_tables.Types.{Text}
use Rattle.plan_ir.specs.schema_types.Environments.{environment, first_failure}
use Rattle.plan_ir.specs.schema_types.NameRules.{operations}
use Rattle.plan_ir.specs.schema_types.Sites.{OperationAt}
use Rattle.serde_json.specs.Data as J
use Rattle.plan_ir.specs.store_model.Events as e
use Rattle.plan_ir.specs.store_model.Events.{Answer, Event, Target, line_of}
use Rattle.plan_ir.specs.store_model.Said.{Said}
use Rattle.plan_ir.specs.store_model.Verdicts.{content}
use Rattle.plan_ir.specs.store_model.declared.command.Command.{Command}
use Rattle.plan_ir.specs.store_model.declared.command.Command.TheVariants as C
use Rattle.plan_ir.specs.store_model.declared.entry.Entry.{Entry}

-- ---- how a state stands

-- the handle of the script
abbrev pub the_handle : OperationAt → Handle
the_handle o = record { name = codes "h"; operation = o; values = environment (variable_trees o.variables) [] }

abbrev pub the_layer : Entry → Layer
the_layer entry = record { name = codes "t"; entry = entry }

abbrev pub HasHandle : OperationAt → Stage → List Handle → Type 0
HasHandle o retaining hs = hs ≡ []
HasHandle o watching hs = hs ≡ the_handle o ∷ []
HasHandle o drawing hs = hs ≡ the_handle o ∷ []

-- behind the first two lines no watch is started
abbrev pub HasWatches : Stage → List Watch → Type 0
HasWatches retaining ws = ws ≡ []
HasWatches watching ws = ws ≡ []
HasWatches drawing ws = Unit {0}

abbrev pub HasLayer : (live : Bool) → List Layer → Type 0
HasLayer false ls = ls ≡ []
HasLayer true ls = (entry : Entry) × (ls ≡ the_layer entry ∷ [])

pub record Stands (o : OperationAt) (stage : Stage) (live : Bool) (s : State) : Type 0 where
  pub handle : HasHandle o stage s.handles
  pub watching : HasWatches stage s.watches
  pub layer : HasLayer live s.layers

-- a line is not refused, and leaves the state so
pub record IsFine (o : OperationAt) (stage : Stage) (live : Bool) (step : Step) : Type 0 where
  pub fine : step.refused ≡ false
  pub stands : Stands o stage live step.state

-- ---- notices

notices_are_fine : (p : Project) (o : OperationAt) (live : Bool) (n earlier : ℕ) (st : Step) → IsFine o drawing live st → IsFine o drawing live (with_notices p n earlier st)
notices_are_fine p o live n earlier st g = record { fine = g.fine; stands = record { handle = g.stands.handle; watching = tt; layer = g.stands.layer } }

noticed_is_fine : (p : Project) (o : OperationAt) (live : Bool) (n earlier : ℕ) (st : Step) → IsFine o drawing live st → IsFine o drawing live (noticed p n earlier st)
noticed_is_fine p o live n earlier st g =
    subst (λ b. IsFine o drawing live (cond b st (with_notices p n earlier st))) (sym g.fine) (notices_are_fine p o live n earlier st g)

-- an event that is accepted, and leaves the state so
accepted : (p : Project) (o : OperationAt) (live : Bool) (buffer : ℕ) (s : State) (n : ℕ) (event : Event) (text : Text) (t : State)
    → act p buffer s n event ≡ accept text t → Stands o drawing live t → IsFine o drawing live (step_event p buffer s n event)
accepted p o live buffer s n event text t is stands =
    noticed_is_fine p o live n (length s.watches) (act p buffer s n event)
    (subst (IsFine o drawing live) (sym is) (record { fine = refl; stands = stands }))

-- the step of a line is that of its event
pub of_line : (p : Project) (o : OperationAt) (stage : Stage) (live : Bool) (buffer : ℕ) (s : State) (n : ℕ) (line : Text) (event : Event)
    → line_of line ≡ e.event event → IsFine o stage live (step_event p buffer s n event) → IsFine o stage live (step p buffer s n line)
of_line p o stage live buffer s n line event is g = subst (λ l. IsFine o stage live (step_line p buffer s n l)) (sym is) g

-- ---- the first two lines

retain_step : (p : Project) (o : OperationAt) (s : State) (n : ℕ) → operation_named (operations (definitions_in p)) (codes "B") ≡ Some o
    → first_failure p.defs (variable_trees o.variables) [] ≡ None → s.handles ≡ []
    → step_retain p s n (codes "h") (codes "B") [] ≡ accept (event_line (codes "retain") n) (with_handle (the_handle o) s)
retain_step p o s n found fits empty =
    ap (λ hs. unless s n (is_some (handle_named hs (codes "h"))) (handle_taken (codes "h"))
    (retain_named p s n (codes "h") (codes "B") (operation_named (operations (definitions_in p)) (codes "B")) [])) empty
    ∙ ap (λ x. retain_named p s n (codes "h") (codes "B") x []) found
    ∙ ap (λ hs. unless s n (length hs == most handles) (too_many handles) (unless_failure s n (first_failure p.defs (variable_trees o.variables) [])
    (accept (event_line (codes "retain") n) (with_handle (the_handle o) s)))) empty
    ∙ ap (λ f. unless_failure s n f (accept (event_line (codes "retain") n) (with_handle (the_handle o) s))) fits

pub retain_is_fine : (p : Project) (o : OperationAt) (live : Bool) (buffer : ℕ) (s : State) (n : ℕ) → operation_named (operations (definitions_in p)) (codes "B") ≡ Some o
    → first_failure p.defs (variable_trees o.variables) [] ≡ None → Stands o retaining live s → IsFine o watching live (step_event p buffer s n retained)
retain_is_fine p o live buffer s n found fits st =
    let t : State = with_handle (the_handle o) s in
    subst (λ step. IsFine o watching live (noticed p n (length s.watches) step)) (sym (retain_step p o s n found fits st.handle))
    (record {
      fine = refl;
      stands = record {
        handle = ap (λ hs. hs ++ the_handle o ∷ []) st.handle;
        watching = ap (λ ws. map (read_again p (view p t)) (take (length ws) ws) ++ drop (length ws) ws) st.watching;
        layer = st.layer;
      };
    })

abbrev the_target : Target
the_target = record { handle = codes "h"; part = None }

watch_step : (p : Project) (o : OperationAt) (s : State) (n : ℕ) → s.handles ≡ the_handle o ∷ [] → s.watches ≡ []
    → step_watch p s n (codes "w") the_target ≡ start_watch p s n (codes "w") (the_handle o) None
watch_step p o s n one empty =
    ap (λ ws. unless s n (is_watch ws (codes "w")) (watch_taken (codes "w"))
    (of_target p s n the_target (handle_named s.handles (codes "h")) (unless s n (length s.watches == most watches) (too_many watches)) (start_watch p s n (codes "w")))) empty
    ∙ ap (λ hs. of_target p s n the_target (handle_named hs (codes "h")) (unless s n (length s.watches == most watches) (too_many watches)) (start_watch p s n (codes "w"))) one
    ∙ ap (λ ws. unless s n (length ws == most watches) (too_many watches) (start_watch p s n (codes "w") (the_handle o) None)) empty

pub watch_is_fine : (p : Project) (o : OperationAt) (live : Bool) (buffer : ℕ) (s : State) (n : ℕ) → Stands o watching live s
    → IsFine o drawing live (step_event p buffer s n watched)
watch_is_fine p o live buffer s n st =
    noticed_is_fine p o live n (length s.watches) (act p buffer s n watched)
    (subst (IsFine o drawing live) (sym (watch_step p o s n st.handle st.watching))
    (record { fine = refl; stands = record { handle = st.handle; watching = tt; layer = st.layer } }))

-- ---- further lines

payload_step : (p : Project) (o : OperationAt) (s : State) (n : ℕ) (response : J.Data) (said : Said) → said_to p (the_handle o) response ≡ content said
    → s.handles ≡ the_handle o ∷ []
    → step_payload p s n (record { handle = codes "h"; response = response }) [] ≡ accept (event_line (codes "payload") n) (confirm (entry_of said []) s)
payload_step p o s n response said says one =
    ap (λ hs. answer_to p s n (handle_named hs (codes "h")) (record { handle = codes "h"; response = response }) [] (λ st. st)
    (λ entry. accept (event_line (codes "payload") n) (confirm entry s))) one
    ∙ ap (λ v. of_verdict s n v [] (λ entry. accept (event_line (codes "payload") n) (confirm entry s))) says

pub payload_is_fine : (p : Project) (o : OperationAt) (live : Bool) (buffer : ℕ) (s : State) (n : ℕ) (response : J.Data) (said : Said)
    → said_to p (the_handle o) response ≡ content said → Stands o drawing live s → IsFine o drawing live (step_event p buffer s n (paid response))
payload_is_fine p o live buffer s n response said says st =
    accepted p o live buffer s n (paid response) (event_line (codes "payload") n) (confirm (entry_of said []) s) (payload_step p o s n response said says st.handle)
    (record { handle = st.handle; watching = tt; layer = st.layer })

abbrev the_commands : List Command
the_commands = C.Add (codes "m") (codes "age") [] (pos 1) ∷ []

begin_step : (p : Project) (s : State) (n : ℕ) → s.layers ≡ []
    → step_begin p s n (codes "t") None the_commands ≡ accept (event_line (codes "begin") n) (with_layer (codes "t") (entry_of nothing_said the_commands) s)
begin_step p s n none =
    ap (λ ls. unless s n (is_layer ls (codes "t")) (layer_taken (codes "t"))
    (result_of p s n None the_commands (unless s n (length s.layers == most layers) (too_many layers))
    (λ entry. accept (event_line (codes "begin") n) (with_layer (codes "t") entry s)))) none
    ∙ ap (λ ls. unless s n (length ls == most layers) (too_many layers)
    (accept (event_line (codes "begin") n) (with_layer (codes "t") (entry_of nothing_said the_commands) s))) none

pub begin_is_fine : (p : Project) (o : OperationAt) (buffer : ℕ) (s : State) (n : ℕ) → Stands o drawing false s → IsFine o drawing true (step_event p buffer s n begun)
begin_is_fine p o buffer s n st =
    accepted p o true buffer s n begun (event_line (codes "begin") n) (with_layer (codes "t") (entry_of nothing_said the_commands) s) (begin_step p s n st.layer)
    (record { handle = st.handle; watching = tt; layer = (entry_of nothing_said the_commands, ap (λ ls. ls ++ the_layer (entry_of nothing_said the_commands) ∷ []) st.layer) })

revert_step : (s : State) (n : ℕ) (entry : Entry) → s.layers ≡ the_layer entry ∷ []
    → step_revert s n (codes "t") ≡ accept (event_line (codes "revert") n) (drop_layer (codes "t") s)
revert_step s n entry one =
    ap (λ ls. unless s n (not (is_layer ls (codes "t"))) (unknown_layer (codes "t")) (accept (event_line (codes "revert") n) (drop_layer (codes "t") s))) one

pub revert_is_fine : (p : Project) (o : OperationAt) (buffer : ℕ) (s : State) (n : ℕ) → Stands o drawing true s → IsFine o drawing false (step_event p buffer s n reverted)
revert_is_fine p o buffer s n st =
    accepted p o false buffer s n reverted (event_line (codes "revert") n) (drop_layer (codes "t") s) (revert_step s n st.layer.0 st.layer.1)
    (record { handle = st.handle; watching = tt; layer = ap (without_layer (codes "t")) st.layer.1 })

pub collect_is_fine : (p : Project) (o : OperationAt) (live : Bool) (buffer : ℕ) (s : State) (n : ℕ) → Stands o drawing live s
    → IsFine o drawing live (step_event p buffer s n e.collect)
collect_is_fine p o live buffer s n st =
    noticed_is_fine p o live n (length s.watches) (step_collect p buffer s n) (record { fine = refl; stands = record { handle = st.handle; watching = tt; layer = st.layer } })
