-- A sweep keeps the slots of all ids that its operations reach, also in folds of live entries.
use Rattle.std.proofs.Common.{◌≡◌, ◌+◌, Bool, true, cond, ◌||◌, List, [], ◌∷◌, None, sym, ap, ◌∙◌}
use Rattle.std.specs.List.{AllByRecursion}
use Rattle.plan_ir.proofs.gql_plain_laws.Booleans.{or_true}
use Rattle.plan_ir.specs.Expansion.{name_or}
use Rattle.plan_ir.specs.gql_plain.Order.{has_text}
use Rattle.plan_project.specs.Projects.{IsAcceptedProject}
use Rattle.plan_ir.proofs.store_model_laws.SweptSlots.{slot_at-sweep}
use Rattle.relay_machine.specs.Machine.{Project, Retained, documents_of, is_held, is_reached, slots_of, sweep_of}
use Rattle.relay_machine.specs.relay_model.Collection.{Part, Setting, collect, part_of}
use Rattle.relay_machine.specs.relay_model.Reaches.{operation_reaches, whole_depth}
use Rattle.relay_machine.specs.relay_model.Readings.{no_place}
use Rattle.relay_machine.specs.relay_model.Responses.{whole_setting}
use Rattle.retained_reads.proofs.Accepted.{fragments_known, operation_known}
use Rattle.retained_reads.proofs.Retaining.{stays_read}
use Rattle.retained_reads.specs.Laws.{SweepsKeepReads, SweepsKeepLayeredReads}
use Rattle.retained_reads.specs.Reads.{IsOfDocuments, StaysRead}
use Rattle.plan_ir.specs.schema_tables.Types.{Text, root}
use Rattle.plan_ir.proofs.store_model_laws.Least.{each_from, each_so}
use Rattle.plan_ir.specs.store_model.Entries.{all_named, fold_entries}
use Rattle.plan_ir.specs.store_model.Leads.{leads}
use Rattle.plan_ir.specs.store_model.Records.{Records, slot_at}
use Rattle.plan_ir.specs.store_model.Said.{HaveHandleKeys}
use Rattle.plan_ir.specs.store_model.Sweeps.{sweep}
use Rattle.plan_ir.specs.store_model.Walks.{type_of_record}
use Rattle.plan_ir.specs.store_model.declared.entry.Entry.{Entry}
use Rattle.plan_ir.specs.store_record.Keys as keys
use Rattle.store_sweeps.proofs.Reading.{reaches_stay}
use Rattle.store_sweeps.specs.Swept.{IsKeptUnder, chosen}

-- the ids that an operation reaches in records
abbrev ids_reached : Project → Retained → Records → List Text
ids_reached p r m = operation_reaches (documents_of p) no_place r.operation r.values (slots_of m) keys.root

-- ---- the walk

-- records, where the slots stay at the ids that an operation reaches in them, if those that it reaches in the swept ones are held
module _ (p : Project) (accepted : IsAcceptedProject p.defs p.documents) (all : List Retained) (live : List Entry) (owner : Text) (m earlier later : Records)
    (stays : (r : Retained) → AllByRecursion (λ id. is_held p all live m id ≡ true) (ids_reached p r m)
    → AllByRecursion (λ id. slots_of earlier id ≡ slots_of later id) (ids_reached p r earlier)) where
  one_stays : (r : Retained) → IsOfDocuments p r → ((id : Text) → has_text (ids_reached p r m) id ≡ true → is_reached p all m id ≡ true) → StaysRead p owner earlier later r
  one_stays r named reached =
      stays_read p (fragments_known p.defs p.documents accepted) r (operation_known p.defs p.documents accepted named.0 r.operation named.1) owner earlier later
      (stays r
      (each_from (λ id. is_held p all live m id ≡ true) (ids_reached p r m) (λ id h. ap (λ b. b || has_text (leads m (all_named live)) id) (reached id h))))

  each_stays : (rs : List Retained) → AllByRecursion (IsOfDocuments p) rs → ((id : Text) → is_reached p rs m id ≡ true → is_reached p all m id ≡ true)
      → AllByRecursion (StaysRead p owner earlier later) rs
  each_stays [] named reached = tt
  each_stays (r ∷ rs) named reached = (
    one_stays r named.0 (λ id h. reached id (ap (λ b. b || is_reached p rs m id) h)),
    each_stays rs named.1 (λ id h. reached id (ap (λ b. has_text (ids_reached p r m) id || b) h ∙ or_true (has_text (ids_reached p r m) id))),
  )

-- ---- the records themselves

slot_stays : (keep : Text → Bool) (m : Records) (id : Text) → keep id ≡ true → slots_of m id ≡ slots_of (sweep keep m) id
slot_stays keep m id e = sym (slot_at-sweep keep m id ∙ ap (λ b. cond b (slot_at id m) None) e)

pub sweeps_keep_reads : SweepsKeepReads
sweeps_keep_reads p accepted rs named live owner m =
    each_stays p accepted rs live owner m m (sweep_of p rs live m)
    (λ r held. each_so (λ id. is_held p rs live m id ≡ true) (λ id. slots_of m id ≡ slots_of (sweep_of p rs live m) id) (ids_reached p r m) (slot_stays (is_held p rs live m) m) held)
    rs named (λ id h. h)

-- ---- folds of live entries

module _ (p : Project) (all : List Retained) (live : List Entry) (handles : AllByRecursion (λ e. HaveHandleKeys e.facts.handles) live) (choice : List Bool) (m : Records) where
  abbrev over : Records → Records
  over x = fold_entries (chosen choice live) x

  kept : IsKeptUnder m live (is_held p all live m)
  kept = record { keys = handles; led = λ id h. ap (λ b. is_reached p all m id || b) h ∙ or_true (is_reached p all m id) }

  layered_stays : (r : Retained) → AllByRecursion (λ id. is_held p all live m id ≡ true) (ids_reached p r m)
      → AllByRecursion (λ id. slots_of (over m) id ≡ slots_of (over (sweep_of p all live m)) id) (ids_reached p r (over m))
  layered_stays r held =
      let w : Setting = whole_setting (documents_of p) no_place r.values in
      let T : Text = name_or (root p.defs r.operation.kind) in
      let part : Part = part_of (whole_setting (documents_of p) no_place r.values) r.operation in
      reaches_stay (collect w) (type_of_record T) m live (is_held p all live m) choice kept (whole_depth part.spreads w part.selections + 1) (T ∷ []) (part ∷ []) keys.root held

pub sweeps_keep_layered_reads : SweepsKeepLayeredReads
sweeps_keep_layered_reads p accepted rs named live handles choice owner m =
    each_stays p accepted rs live owner m (fold_entries (chosen choice live) m) (fold_entries (chosen choice live) (sweep_of p rs live m))
    (layered_stays p rs live handles choice m) rs named (λ id h. h)
