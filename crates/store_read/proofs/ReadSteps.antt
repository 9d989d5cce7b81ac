-- What a read gives at an id, by what stands there.
use Rattle.std.proofs.Common.{◌≡◌, ℕ, zero, suc, ◌+◌, ◌-◌, ◌<◌, ◌≤◌, Bool, true, false, List, [], ◌∷◌, ◌++◌, length, Option, Some, None, option_map, refl, sym, ap, ◌∙◌, arith}
use Rattle.plan_ir.specs.gql_plain.Counted.{next_count}
use Rattle.plan_ir.specs.gql_plain.Order.{has_text, sorted_texts}
use Rattle.plan_ir.specs.gql_plain.Shown.{tree_of}
use Rattle.plan_ir.specs.gql_plain.declared.plain.Plain.{Plain}
use Rattle.plan_ir.specs.gql_plain.Tree.{Tree, null}
use Rattle.plan_ir.specs.Reader.{Reader}
use Rattle.plan_ir.specs.ReaderMeaning.{ReaderPart, collect_reader, plan_reads, records_below}
use Rattle.plan_ir.specs.schema_types.Environments.{Values}
use Rattle.plan_ir.specs.store_model.Walks.{Found, Shown, Trace, field_of, join_traces, mark_members, missing_trace, object_at, or_null, reading, stand_at, standing_of, stood_lost, trace_at, type_of_record, where_possible}
use Rattle.store_read.proofs.MetSteps.{met_twice}
use Rattle.store_read.specs.Caching.{Caching}
use Rattle.store_read.specs.Meeting.{Meeting, met_onto}
use Rattle.store_read.specs.Reading.{reading_of, slots}
use Rattle.store_read.specs.Walked.{if_possible, live_read, reads}
use Rattle.store_read.specs.declared.snapshot.Snapshot.{Snapshot}
use Rattle.plan_ir.specs.store_record.Keys.{Text}
use Rattle.plan_ir.specs.store_record.declared.record.Record.{Record}
use Rattle.plan_ir.specs.store_record.declared.record.Slot.{Slot}
use Rattle.plan_ir.specs.store_record.declared.record.Slot.TheVariants.{Alive, Deleted}
use Rattle.store_source.specs.Records.{Records}

-- that the id is stood at, and then the record
abbrev pub stood_and : Text → Found → Found
stood_and id r = (r.0, join_traces (trace_at id) r.1)

pub possible_stood : (b : Bool) (id : Text) (r : Shown × Trace) → where_possible b id r ≡ stood_and id (if_possible b r)
possible_stood true id r = refl
possible_stood false id r = refl

module _ (m : Records) (root owner : Text) (types : List Text) (ps : List ReaderPart) (id : Text) where
  abbrev stands : ℕ → Option Slot → Found
  stands n s = stand_at collect_reader (type_of_record root) owner (reads m root owner n) types ps id (standing_of s) (field_of s)

  -- where no record may be stood at
  pub reads_nothing : (n : ℕ) → n ≡ 0 → reads m root owner n types ps id ≡ (None, stood_lost id)
  reads_nothing zero e = refl
  reads_nothing (suc n) e = absurd (omega (arith, e))

  pub reads_absent : (n : ℕ) → slots m id ≡ None → reads m root owner n types ps id ≡ (None, stood_lost id)
  reads_absent zero e = refl
  reads_absent (suc n) e = ap (stands n) e

  pub reads_deleted : (n : ℕ) → 0 < n → slots m id ≡ Some Deleted → reads m root owner n types ps id ≡ (Some null, trace_at id)
  reads_deleted zero some e = absurd (omega (arith, some))
  reads_deleted (suc n) some e = ap (stands n) e

  pub reads_live : (n : ℕ) (c : Caching) (r : Record) → c ≡ record { parts = ps; levels = n } → 0 < n → slots m id ≡ Some (Alive r) → reads m root owner n types ps id ≡ stood_and id (live_read m root owner c types id r)
  reads_live zero c r is some e = absurd (omega (arith, some))
  reads_live (suc n) c r is some e =
      let T = type_of_record root r.type_name in
      let less : n ≡ suc n - 1 = omega arith in
      ap (stands n) e
      ∙ possible_stood (has_text types T) id (object_at collect_reader owner (reads m root owner n) T ps id (field_of (Some (Alive r))))
      ∙ ap (λ k. stood_and id (if_possible (has_text types T) (object_at collect_reader owner (reads m root owner k) T ps id (field_of (Some (Alive r)))))) less
      ∙ ap (λ (k : Caching). stood_and id (live_read m root owner k types id r)) (sym is)

-- ---- what is met and looked up at a record

-- a live record is looked up, and then what lies below it
pub live_looks : (id : Text) (r l : Found) (old mid new : ℕ) → r ≡ stood_and id l → mid ≡ next_count old → new ≤ mid + length l.1.seen → new ≤ old + length r.1.seen
live_looks id r l old mid new is one below =
    let more : length r.1.seen ≡ suc (length l.1.seen) = ap (λ (x : Found). length x.1.seen) is in
    omega (arith, one, below, more)

pub live_met : (id : Text) (r l : Found) (m n k : Meeting) → r ≡ stood_and id l → n ≡ met_onto m (trace_at id) → k ≡ met_onto n l.1 → k ≡ met_onto m r.1
live_met id r l m n k is first second = met_twice m n k (trace_at id) l.1 first second ∙ ap (λ (x : Found). met_onto m x.1) (sym is)

-- where no record may be stood at, the one that is sought is missing
pub nothing_met : (id : Text) (r : Found) (m n k : Meeting) → r ≡ (None, stood_lost id) → n ≡ met_onto m (trace_at id) → k ≡ met_onto n missing_trace → k ≡ met_onto m r.1
nothing_met id r m n k is first second = met_twice m n k (trace_at id) missing_trace first second ∙ ap (λ (x : Found). met_onto m x.1) (sym is)

-- any other one is looked up alone
pub one_look : (r s : Found) (old mid : ℕ) → r ≡ s → length s.1.seen ≡ 1 → mid ≡ next_count old → mid ≤ old + length r.1.seen
one_look r s old mid is alone one = let same : length r.1.seen ≡ length s.1.seen = ap (λ (x : Found). length x.1.seen) is in omega (arith, same, alone, one)

-- ---- the members of a record

pub members_put : (owner id : Text) (none groups marked shown : List (Text × Tree)) (pointers listed : Shown) → none ≡ [] → groups ≡ none ++ shown → marked ≡ groups ++ mark_members owner id pointers
    → pointers ≡ listed → marked ≡ shown ++ mark_members owner id listed
members_put owner id none groups marked shown pointers listed empty first second same =
    second ∙ (λ i. (first ∙ ap (λ (ms : List (Text × Tree)). ms ++ shown) empty) i ++ mark_members owner id (same i))

-- ---- a plan

-- a read as deep as the plan is what the plan shows
pub plan_is : (m : Records) (root owner : Text) (levels : ℕ) (types : List Text) (ps : List ReaderPart) (id : Text) (env : Values) (steps : Reader) → levels ≡ records_below steps + 1 → ps ≡ record { environment = env; steps = steps } ∷ []
    → reads m root owner levels types ps id ≡ plan_reads (type_of_record root) owner (slots m) env steps types id
plan_is m root owner levels types ps id env steps deep alone = λ i. reads m root owner (deep i) types (alone i) id

-- what is shown and met is what the snapshot tells
pub snapshot_told : (r : Found) (s : Snapshot) (shown : Plain) (found : Option Plain) (met : Meeting) → s ≡ record { shown = shown; missing = met.missing; seen = sorted_texts met.seen } → tree_of shown ≡ or_null (option_map tree_of found)
    → option_map tree_of found ≡ r.0 → met ≡ met_onto (record { missing = false; seen = [] }) r.1 → reading_of s ≡ reading r
snapshot_told r s shown found met is tree there walked =
    ap reading_of is ∙ (λ i. record { value = (tree ∙ ap or_null there) i; missing = (walked i).missing; seen = sorted_texts (walked i).seen })
