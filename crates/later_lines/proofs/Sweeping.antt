-- What a sweep leaves, and where two states meet in one.
use Rattle.std.proofs.Common.{◌≡◌, ℕ, ◌+◌, Bool, true, false, true≢false, ◌||◌, cond, List, [], ◌∷◌, ◌++◌, map, drop, length, take, codes, arith, refl, sym, ap, subst, ◌∙◌}
use Rattle.std.proofs.Math.Seq.{take-length, drop-length}
use Rattle.std.proofs.lemmas.Bool.{or_parts}
use Rattle.std.proofs.lemmas.List.{append-nil}
use Rattle.plan_ir.specs.gql_plain.Order.{has_text}
use Rattle.plan_ir.specs.gql_plain.ToJson.{compact}
use Rattle.plan_ir.specs.gql_plain.Tree.{Tree, truth, text, list, trees_of}
use Rattle.later_lines.proofs.AlikeReads.{SameElsewhere}
use Rattle.later_lines.proofs.AlikeSteps.{other_is}
use Rattle.later_lines.specs.Laws.{MeetAgain, QuietSweepsAddNothing, SweepsLeaveAlike, SweepsMeet}
use Rattle.plan_ir.specs.Expansion as plans
use Rattle.relay_machine.specs.Machine.{Confirmation, swept, Project, Retained, State, Watch, base, documents_of, dropped_ids, fold_confirmed, is_changed, is_held, is_reached, layer_entries, notices_of, read_again, retained, shown_by, slots_of, started, step_line, sweep_of, swept_state, view, with_entries, with_watches}
use Rattle.relay_machine.specs.Printed.{collect_line, in_order, line, notice_line, number}
use Rattle.relay_machine.specs.relay_model.Collection.{collect, part_of}
use Rattle.relay_machine.specs.relay_model.Reaches.{operation_reaches, whole_depth}
use Rattle.relay_machine.specs.relay_model.Readings.{no_place}
use Rattle.relay_machine.specs.relay_model.Responses.{whole_setting}
use Rattle.relay_machine.proofs.Sweeps.{confirmed_after}
use Rattle.store_sweeps.proofs.Meeting.{sweeps_meet}
use Rattle.plan_ir.proofs.store_model_laws.SweptSlots.{same_swept}
use Rattle.plan_ir.specs.schema_tables.Types.{Text, root}
use Rattle.plan_ir.proofs.store_model_laws.Least.{In, each_from}
use Rattle.plan_ir.proofs.store_model_laws.SameReach.{reach_same}
use Rattle.plan_ir.specs.store_model.Entries.{all_named, fold_entries}
use Rattle.plan_ir.specs.store_model.Events as e
use Rattle.plan_ir.specs.store_model.Leads.{leads}
use Rattle.plan_ir.specs.store_model.Records.{Records, no_records, slot_at}
use Rattle.plan_ir.specs.store_model.Walks.{Reading, shown_object, type_of_record}
use Rattle.plan_ir.specs.store_record.Keys as keys_of
use Rattle.plan_ir.specs.store_model.declared.entry.Entry.{Entry}

-- ---- a sweep added

pub sweeps_alike : SweepsLeaveAlike
sweeps_alike p buffer s = record {
  layers = refl;
  handles = refl;
  released = refl;
  watches = refl;
  bases = λ id h.
      same_swept (is_held p (retained buffer s) (layer_entries s) (base p s)) (base p s) id h
      ∙ sym (ap (slot_at id) (confirmed_after p s.entries (swept (retained buffer s) (layer_entries s)) no_records));
}

-- ---- no notice

ended : (xs ys : Text) → xs ++ 10 ∷ [] ++ ys ≡ [] → false ≡ true
ended [] ys h = absurd (let long : length (10 ∷ ys) ≡ 0 = ap length h in omega (arith, long))
ended (x ∷ xs) ys h = absurd (let long : length (x ∷ xs ++ 10 ∷ [] ++ ys) ≡ 0 = ap length h in omega (arith, long))

ended_line : (members : List (Text × Tree)) (ys : Text) → line members ++ ys ≡ [] → false ≡ true
ended_line members ys h = ended (compact (shown_object (in_order members))) ys h

ended_notice : (n : ℕ) (name : Text) (r : Reading) (ys : Text) → notice_line n name r ++ ys ≡ [] → false ≡ true
ended_notice n name r ys h =
    ended_line ((codes "data", r.value) ∷ (codes "missing", truth r.missing) ∷ (codes "n", number n) ∷ (codes "notice", text name) ∷ (codes "seen", list (trees_of (map text r.seen))) ∷ []) ys h

-- where none is told, each watch stays as it is
none_told : (p : Project) (m : Records) (n : ℕ) (ws : List Watch) → notices_of p m n ws ≡ [] → map (read_again p m) ws ≡ ws
none_told p m n [] h = refl
none_told p m n (w ∷ ws) h =
    let r = shown_by p m w in
    elim (is_changed w r) as (λ b. cond b (notice_line n w.name r) [] ++ notices_of p m n ws ≡ [] → cond b (started w.name w.handle w.part r) w ∷ map (read_again p m) ws ≡ w ∷ ws) [
      | true ↦ λ told. absurd (true≢false (sym (ended_notice n w.name r (notices_of p m n ws) told)))
      | false ↦ λ rest. ap (λ vs. w ∷ vs) (none_told p m n ws rest)
    ] h

pub quiet_sweeps : QuietSweepsAddNothing
quiet_sweeps p buffer s n none =
    let ws = s.watches in
    let v = view p (swept_state buffer s) in
    let same : map (read_again p v) (take (length ws) ws) ++ drop (length ws) ws ≡ ws
    = (λ i. map (read_again p v) (take-length ws i) ++ drop-length ws i) ∙ append-nil (map (read_again p v) ws) ∙ none_told p v n ws none in
    ap (λ vs. with_watches vs (swept_state buffer s)) same

-- ---- reaches

module _ (p : Project) (D : Text → Bool) (m n : Records) (same : SameElsewhere D m n) where
  -- what one operation reaches
  abbrev reach_of : Records → Retained → List Text
  reach_of k r = operation_reaches (documents_of p) no_place r.operation r.values (slots_of k) keys_of.root

  same_at : (r : Retained) (id : Text) → ((id : Text) → D id ≡ true → has_text (reach_of m r) id ≡ false) → In id (reach_of m r) → slots_of m id ≡ slots_of n id
  same_at r id out is_in =
      elim (D id) as (λ d. D id ≡ d → slots_of m id ≡ slots_of n id) [
        | true ↦ λ h. absurd (true≢false (sym is_in ∙ out id h))
        | false ↦ λ h. same id h
      ] refl

  reach_alike : (r : Retained) → ((id : Text) → D id ≡ true → has_text (reach_of m r) id ≡ false) → reach_of n r ≡ reach_of m r
  reach_alike r out =
      let w = whole_setting (documents_of p) no_place r.values in
      let part = part_of w r.operation in
      let T = plans.name_or (root (documents_of p).defs r.operation.kind) in
      reach_same (collect w) (type_of_record T) (slots_of m) (slots_of n) (whole_depth part.spreads w part.selections + 1) (T ∷ []) (part ∷ []) keys_of.root
      (each_from (λ j. slots_of m j ≡ slots_of n j) (reach_of m r) (λ id is_in. same_at r id out is_in))

  reached_alike : (rs : List Retained) → ((id : Text) → D id ≡ true → is_reached p rs m id ≡ false) → (id : Text) → is_reached p rs n id ≡ is_reached p rs m id
  reached_alike [] out id = refl
  reached_alike (r ∷ rs) out id =
      let first = reach_alike r (λ j h. (or_parts (has_text (reach_of m r) j) (is_reached p rs m j) (out j h)).0) in
      let rest = reached_alike rs (λ j h. (or_parts (has_text (reach_of m r) j) (is_reached p rs m j) (out j h)).1) id in
      λ i. has_text (first i) id || rest i

  -- both maps are swept to the same
  swept_same : (rs : List Retained) (live : List Entry) → ((id : Text) → D id ≡ true → is_held p rs live m id ≡ false) → sweep_of p rs live m ≡ sweep_of p rs live n
  swept_same rs live out =
      let parts : (id : Text) → D id ≡ true → (is_reached p rs m id ≡ false) × (has_text (leads m (all_named live)) id ≡ false)
      = λ id h. or_parts (is_reached p rs m id) (has_text (leads m (all_named live)) id) (out id h) in
      sweeps_meet m n D (all_named live) (is_reached p rs m) (is_reached p rs n) same (λ id. sym (reached_alike rs (λ j h. (parts j h).0) id)) (λ id h. (parts id h).0) (λ id h. (parts id h).1)

-- ---- meeting again

module _ (p : Project) (buffer : ℕ) (D : Text → Bool) (s : State) (es : List Confirmation) (n : ℕ) (same : SameElsewhere D (base p s) (fold_confirmed p es no_records))
    (out : (id : Text) → D id ≡ true → is_held p (retained buffer s) (layer_entries s) (base p s) id ≡ false) where
  abbrev other : State
  other = with_entries es s

  bases_same : base p (swept_state buffer s) ≡ base p (swept_state buffer other)
  bases_same =
      confirmed_after p s.entries (swept (retained buffer s) (layer_entries s)) no_records
      ∙ swept_same p D (base p s) (fold_confirmed p es no_records) same (retained buffer s) (layer_entries s) out
      ∙ sym (confirmed_after p es (swept (retained buffer s) (layer_entries s)) no_records)

  abbrev view_on : Records → Records
  view_on m = fold_entries (layer_entries s) m

  meet : MeetAgain p n (length (dropped_ids p buffer s)) (length (dropped_ids p buffer other)) (step_line p buffer s n (e.event e.collect)) (step_line p buffer other n (e.event e.collect))
  meet =
      let earlier = length s.watches in
      record {
        texts = (
          notices_of p (view p (swept_state buffer s)) n (take earlier s.watches),
          refl,
          ap (λ m. collect_line n (length (dropped_ids p buffer other)) ++ notices_of p (view_on m) n (take earlier s.watches)) (sym bases_same),
        );
        refused = refl;
        bases = bases_same;
        states = record {
          layers = refl;
          handles = refl;
          released = refl;
          watches = ap (λ m. map (read_again p (view_on m)) (take earlier s.watches) ++ drop earlier s.watches) bases_same;
          bases = λ id h. ap (slot_at id) bases_same;
        };
      }

pub sweeps_meet_again : SweepsMeet
sweeps_meet_again p buffer D s t n alike out =
    subst (λ x. MeetAgain p n (length (dropped_ids p buffer s)) (length (dropped_ids p buffer x)) (step_line p buffer s n (e.event e.collect)) (step_line p buffer x n (e.event e.collect))) (other_is p D s t alike)
    (meet p buffer D s t.entries n alike.bases out)
