-- A report without a fault whose facts clash is refused for a conflict, and rows that are torn hold such facts.
use Rattle.std.proofs.Common.{◌≡◌, true, true≢false, ◌&&◌, List, [], ◌∷◌, ◌++◌, Option, Some, None, bytes_eq, refl, sym, ap, ◌∙◌, subst, inl, inr}
use Rattle.std.proofs.lemmas.Slice.Eq.{bytes_eq-Decides}
use Rattle.std.specs.List.{AllByRecursion}
use Rattle.std.specs.Prelude.{◌⊎◌}
use Rattle.gql_order.specs.gql_plain.Names.{is_name}
use Rattle.gql_order.specs.gql_plain.declared.plain.Plain.TheVariants.{Text as Words}
use Rattle.store_model.specs.store_record.Equal.{field_eq, field_eq-Decides}
use Rattle.store_model.specs.store_record.declared.field.Field.TheVariants.{Leaf}
use Rattle.store_model.proofs.Seated.{among_left, among_right, of_among}
use Rattle.store_model.proofs.Seats.{each_has_a_seat, seats_are}
use Rattle.store_model.specs.Alike.{Among}
use Rattle.store_model.specs.FactRows.{fact_at}
use Rattle.store_model.specs.Records.{name_given, typename}
use Rattle.store_model.specs.Says.{Put, Report}
use Rattle.store_model.specs.Verdicts.{HaveOneValue, IsSeat, Seat, SecondIs, fault_cmp, first_conflict, least, same_place, seats, unless_conflict, unless_fault, verdict}
use Rattle.store_model.specs.declared.facts.Fact.{Fact}
use Rattle.store_model.specs.declared.facts.HandleFact.{HandleFact}
use Rattle.store_model.specs.declared.payload_fault.PayloadFault.{PayloadFault}
use Rattle.store_report.proofs.ClashSteps.{clash_more}
use Rattle.store_report.proofs.Clashes.{place_as, place_itself}
use Rattle.store_report.proofs.RowMembers.{among_from}
use Rattle.store_report.proofs.Takings.{any_some}
use Rattle.store_report.specs.Gathering.{IsTypeName}
use Rattle.store_report.specs.Joining.{IsTorn, begun_facts, torn_facts}
use Rattle.store_report.specs.ObjectRows.{Adds, HaveClash, HaveTypeNames, Held, IsClash, IsConflict, IsUnjoined, IsUntaken, facts_said, nothing_held}
use Rattle.store_report.specs.declared.object_row.BegunRow.{BegunRow}
use Rattle.store_report.specs.declared.untaken.Untaken.{Untaken}
use Rattle.store_report.specs.declared.untaken.Untaken.TheVariants.{Fault, Clash, NoMemory}

-- ---- where no seat has a second value

no_second : (ss : List Seat) → first_conflict ss ≡ None → (s : Seat) → Among s ss → s.second ≡ None
no_second [] e s h = absurd h
no_second (t ∷ ss) e s h = at t.second refl e h (λ rest. no_second ss rest s)
  where
    IsThere : Option PayloadFault → Type 0
    IsThere None = ⊥
    IsThere (Some f) = Unit {0}

    at : (o : Option Put) → t.second ≡ o → first_conflict (record { first = t.first; second = o } ∷ ss) ≡ None → Among s (t ∷ ss)
        → (first_conflict ss ≡ None → Among s ss → s.second ≡ None) → s.second ≡ None
    at None f g (inl same) rest = subst (λ u. u.second ≡ None) same f
    at None f g (inr there) rest = rest g there
    at (Some q) f g there rest = absurd (subst IsThere g tt)

-- puts of one place have one value
one_value : (puts : List Put) → first_conflict (seats puts) ≡ None → (p q : Put) → Among p puts → Among q puts → same_place p q ≡ true → p.fact.value ≡ q.fact.value
one_value puts none p q here there place =
    let found = any_some (λ (s : Seat). same_place s.first p) (seats puts) (each_has_a_seat puts p here) in
    let first = found.0.first in
    let is : IsSeat puts found.0 = of_among (IsSeat puts) found.0 (seats puts) (seats_are puts) found.1 in
    let values : HaveOneValue puts first = subst (SecondIs puts first) (no_second (seats puts) none found.0 found.1) is.second in
    let own : (r : Put) → Among r puts → same_place first r ≡ true → r.fact.value ≡ first.fact.value
    = λ r h e. (field_eq-Decides r.fact.value first.fact.value).0 (of_among (λ r. same_place first r ≡ true → field_eq r.fact.value first.fact.value ≡ true) r puts values h e) in
    own p here found.2 ∙ sym (own q there (place_as first p q found.2 ∙ place))

-- ---- what a report is refused for

-- no seat has a second value, or the first that has one is refused
none_or_conflict : (ss here : List Seat) (pages : List HandleFact) → (first_conflict ss ≡ None) ⊎ IsConflict (unless_conflict (first_conflict ss) here pages)
none_or_conflict [] here pages = inl refl
none_or_conflict (s ∷ ss) here pages = at s.second (none_or_conflict ss here pages)
  where
    NoneOr : List Seat → Type 0
    NoneOr seats = (first_conflict seats ≡ None) ⊎ IsConflict (unless_conflict (first_conflict seats) here pages)

    at : (o : Option Put) → NoneOr ss → NoneOr (record { first = s.first; second = o } ∷ ss)
    at None rest = rest
    at (Some q) rest = inr (record { path = q.path; id = s.first.fact.id; key = s.first.fact.key; first = s.first.fact.value; second = q.fact.value; refused = refl })

two_values : (r : Report) → HaveClash (facts_said r) → first_conflict (seats r.puts) ≡ None → ⊥
two_values r clash none =
    among_from (λ (p : Put). p.fact) clash.one r.puts ⊥
    (λ p here f. among_from (λ (q : Put). q.fact) clash.other r.puts ⊥ (λ q there g. tell p q here there f g) clash.there)
    clash.here
  where
    tell : (p q : Put) → Among p r.puts → Among q r.puts → p.fact ≡ clash.one → q.fact ≡ clash.other → ⊥
    tell p q here there f g =
        let ids : q.fact.id ≡ p.fact.id = ap (λ (h : Fact). h.id) g ∙ sym clash.id ∙ sym (ap (λ (h : Fact). h.id) f) in
        let keys : q.fact.key ≡ p.fact.key = ap (λ (h : Fact). h.key) g ∙ sym clash.key ∙ sym (ap (λ (h : Fact). h.key) f) in
        let place : same_place p q ≡ true = (λ i. bytes_eq p.fact.id (ids i) && bytes_eq p.fact.key (keys i)) ∙ place_itself p in
        let values : clash.one.value ≡ clash.other.value
        = sym (ap (λ (h : Fact). h.value) f) ∙ one_value r.puts none p q here there place ∙ ap (λ (h : Fact). h.value) g in
        true≢false (sym ((field_eq-Decides clash.one.value clash.other.value).1 values) ∙ clash.differ)

clash_refused : (r : Report) → least fault_cmp r.faults ≡ None → HaveClash (facts_said r) → IsConflict (verdict r)
clash_refused r faultless clash = subst (λ o. IsConflict (unless_fault o r)) (sym faultless) (at (none_or_conflict (seats r.puts) (seats r.puts) r.pages))
  where
    at : (first_conflict (seats r.puts) ≡ None) ⊎ IsConflict (unless_fault None r) → IsConflict (unless_fault None r)
    at (inl none) = absurd (two_values r clash none)
    at (inr conflict) = conflict

-- ---- what is held

pub clash_untaken : (s : Held) (r : Report) → s.fault ≡ None → Adds nothing_held s r → HaveClash s.facts → IsClash r
clash_untaken s r faultless adds clash =
    let none : least fault_cmp r.faults ≡ None = sym adds.fault ∙ faultless in
    record { faultless = none; conflict = clash_refused r none (clash_more s.facts (facts_said r) (λ f. (adds.facts f).0) clash) }

pub unjoined_untaken : (s : Held) (facts : List Fact) (refused : Untaken) → s.fault ≡ None → ((f : Fact) → Among f facts → Among f s.facts) → IsUnjoined facts refused
    → (r : Report) → Adds nothing_held s r → IsUntaken r refused
unjoined_untaken s facts (Fault f) faultless more h r adds = absurd h
unjoined_untaken s facts Clash faultless more h r adds = clash_untaken s r faultless adds (clash_more facts s.facts more h)
unjoined_untaken s facts NoMemory faultless more h r adds = tt

-- ---- rows that are torn

pub torn_rows_clash : (rows : List Fact) (torn : List BegunRow) → AllByRecursion IsTorn torn → HaveTypeNames (rows ++ torn_facts torn) → (torn ≡ [] → ⊥) → HaveClash (rows ++ torn_facts torn)
torn_rows_clash rows [] all named some = absurd (some refl)
torn_rows_clash rows (b ∷ bs) all named some = at all.0
  where
    there : (f : Fact) → Among f (begun_facts (Some b)) → Among f (rows ++ torn_facts (b ∷ bs))
    there f h = among_right f rows (torn_facts (b ∷ bs)) (among_left f (begun_facts (Some b)) (torn_facts bs) h)

    at : IsTorn b → HaveClash (rows ++ torn_facts (b ∷ bs))
    at (inl misnamed) =
        let name = fact_at b.id (typename, Leaf (Words b.type_name)) in
        let is = of_among (λ (f : Fact). bytes_eq f.key typename ≡ true → IsTypeName f.value) name (rows ++ torn_facts (b ∷ bs)) named (there name (inl refl)) ((bytes_eq-Decides typename typename).1 refl) in
        absurd (true≢false (sym (ap is_name (ap name_given is.1) ∙ is.2) ∙ misnamed))
    at (inr clash) = clash_more (begun_facts (Some b)) (rows ++ torn_facts (b ∷ bs)) there clash
