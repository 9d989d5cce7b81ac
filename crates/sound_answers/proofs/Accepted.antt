-- What a response says to an operation of an accepted project is sound, and so is each state of the machine.
use Rattle.std.proofs.Common.{◌≡◌, ℕ, ◌+◌, List, [], ◌∷◌, refl, sym, ◌∙◌}
use Rattle.plan_project.specs.doc_merge.Faults.{field_differences}
use Rattle.plan_ir.specs.gql_ast.declared.document.Document.{Document}
use Rattle.plan_ir.specs.gql_ast.declared.place.Placed.{Placed}
use Rattle.plan_build.proofs.ConnectedNodes.{operations_that_meet_are_connected}
use Rattle.plan_build.proofs.DocumentsAsNodes.{documents_are_nodes}
use Rattle.plan_build.proofs.FieldsAlike.{merging_fields_are_alike}
use Rattle.plan_build.proofs.Meaning.{merge_root, root_holds, root_part}
use Rattle.plan_build.proofs.SuitedOperations.{operations_of_documents_meet, operations_that_meet_are_suited}
use Rattle.plan_build.specs.Connected.{IsConnected}
use Rattle.plan_build.specs.Meeting.{OperationMeetsRules}
use Rattle.plan_build.specs.NodesMeaning.{Set, collect_nodes}
use Rattle.plan_build.specs.Suited.{IsSuited}
use Rattle.plan_ir.specs.Projects.{place_in}
use Rattle.plan_ir.specs.Expansion.{whole_operation}
use Rattle.plan_ir.specs.declared.expanded.Expanded.{Expanded}
use Rattle.plan_ir.specs.schema_rules.Checked.{IsSound as HasNoFault}
use Rattle.plan_ir.specs.schema_rules.Rules.{is_object}
use Rattle.plan_ir.specs.schema_tables.Types.{Text, Defs}
use Rattle.plan_ir.specs.schema_types.DocumentRules.{places_of}
use Rattle.plan_ir.specs.schema_types.Environments.{Values}
use Rattle.plan_ir.proofs.store_model_laws.Least.{in_first}
use Rattle.plan_project.proofs.Accepting.{operation_merges}
use Rattle.relay_machine.specs.Machine.{State, beginning, documents_of, step}
use Rattle.relay_machine.specs.relay_model.Readings.{no_place}
use Rattle.sound_answers.proofs.Gathered.{KnownAt}
use Rattle.sound_answers.proofs.Typed.{are_typed}
use Rattle.sound_answers.specs.Laws.{AcceptedSaySoundly, AcceptedStatesAreSound, AcceptedStepsKeepSound, state_after}
use Rattle.sound_states.proofs.sound_records_laws.Saying.{payloads_sound}
use Rattle.sound_states.proofs.Entries.{records_sound}
use Rattle.sound_states.proofs.Steps as states
use Rattle.sound_states.proofs.Steps.{beginning_sound}
use Rattle.sound_states.specs.Sound.{IsSound}

-- ---- responses

-- the set of an operation at its root type
root_known : (defs : Defs) (own : Values) (e : Expanded) → HasNoFault defs → IsSuited defs e → field_differences defs e ≡ [] → IsConnected defs e
    → KnownAt defs e.root (record { environment = own; nodes = e.selections } ∷ [])
root_known defs own e sound suited none connected = record {
  parts = root_part own e (e.root ∷ []) ∷ [];
  sets = refl;
  holds = (root_holds defs own e sound suited e.root (in_first e.root []), tt);
  merge = merge_root defs own e (e.root ∷ []) (merging_fields_are_alike defs e none);
  paged = (connected.selections, tt);
}

pub say_soundly : AcceptedSaySoundly
say_soundly p accepted h response said good is =
    let ps : List (Placed Document) = p.documents in
    let e : Expanded = (whole_operation (documents_of p) h.operation).expanded in
    let a = accepted.accepted in
    let found = good.operation.there in
    let set : Set = record { environment = h.values; nodes = e.selections } in
    let meets : OperationMeetsRules (documents_of p) h.operation = operations_of_documents_meet p.defs ps (place_in (places_of ps)) found.0 h.operation a.sound a.meet found.1 in
    let suited : IsSuited p.defs e = operations_that_meet_are_suited (documents_of p) h.operation a.sound meets in
    let known : KnownAt p.defs e.root (set ∷ []) =
    root_known p.defs h.values e a.sound suited (operation_merges p.defs ps accepted found.0 h.operation found.1)
    (operations_that_meet_are_connected (documents_of p) h.operation a.sound meets) in
    payloads_sound (is_object p.defs) (collect_nodes p.defs) e.root (set ∷ []) suited.root (λ levels. are_typed p.defs a.sound levels e.root (set ∷ []) known) response said
    (sym (documents_are_nodes (documents_of p) no_place h.operation h.values response) ∙ is)

-- ---- states

pub steps_sound : AcceptedStepsKeepSound
steps_sound p accepted buffer s n line sound = states.steps_sound p (say_soundly p accepted) buffer s n line sound

pub states_sound : AcceptedStatesAreSound
states_sound p accepted buffer lines =
    let sound : IsSound p (state_after p buffer beginning 1 lines) = after beginning 1 lines (beginning_sound p) in
    let records = records_sound p (state_after p buffer beginning 1 lines) sound in
    record { state = sound; confirmed = records.0; seen = records.1 }
  where
    after : (s : State) (n : ℕ) (ls : List Text) → IsSound p s → IsSound p (state_after p buffer s n ls)
    after s n [] sound = sound
    after s n (l ∷ ls) sound = after (step p buffer s n l).state (n + 1) ls (steps_sound p accepted buffer s n l sound)
