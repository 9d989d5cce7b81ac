-- Where the value of a field is a function of its id and its key, no two values conflict.
use Rattle.std.proofs.Common.{◌≡◌, true, List, [], ◌∷◌, Option, Some, None, map, refl, sym, ap, ap₂, ◌∙◌, true≢false}
use Rattle.std.proofs.lemmas.Bool.{and_parts}
use Rattle.std.proofs.lemmas.Slice.Eq.{bytes_eq-Decides}
use Rattle.std.specs.List.{AllByRecursion}
use Rattle.plan_ir.specs.store_record.Equal.{field_eq, field_eq-Decides}
use Rattle.plan_ir.specs.store_record.Keys.{Text}
use Rattle.plan_ir.specs.store_record.declared.field.Field.{Field}
use Rattle.plan_ir.proofs.store_model_laws.Seated.{of_among}
use Rattle.plan_ir.proofs.store_model_laws.Seats.{seats_are}
use Rattle.plan_ir.specs.store_model.Alike.{Among}
use Rattle.plan_ir.specs.store_model.Says.{Put, Report}
use Rattle.plan_ir.specs.store_model.Verdicts.{IsSeat, Seat, SecondIs, conflict_of, content, fault_cmp, first_conflict, in_order, least, same_place, seats, unless_conflict, unless_fault, verdict}
use Rattle.plan_ir.specs.store_model.FactOrder.{handle_cmp}

-- the value of a put is that of its id and key
abbrev pub IsOf : (Text → Text → Field) → Put → Type 0
IsOf f p = p.fact.value ≡ f p.fact.id p.fact.key

abbrev pub AreOf : (Text → Text → Field) → List Put → Type 0
AreOf f puts = AllByRecursion (IsOf f) puts

same_value : (f : Text → Text → Field) (p q : Put) → IsOf f p → IsOf f q → same_place p q ≡ true → field_eq q.fact.value p.fact.value ≡ true
same_value f p q a b e =
    let parts = and_parts _ _ e in
    let ids : p.fact.id ≡ q.fact.id = (bytes_eq-Decides p.fact.id q.fact.id).0 parts.0 in
    let keys : p.fact.key ≡ q.fact.key = (bytes_eq-Decides p.fact.key q.fact.key).0 parts.1 in
    let same : q.fact.value ≡ p.fact.value = b ∙ ap₂ f (sym ids) (sym keys) ∙ sym a in
    (field_eq-Decides q.fact.value p.fact.value).1 same

no_second : (f : Text → Text → Field) (puts : List Put) → AreOf f puts → (first : Put) → Among first puts → (o : Option Put) → SecondIs puts first o → o ≡ None
no_second f puts all first there None h = refl
no_second f puts all first there (Some q) h =
    absurd (true≢false (sym (same_value f first q (of_among (IsOf f) first puts all there) (of_among (IsOf f) q puts all h.there) h.place) ∙ h.differs))

no_conflict_in : (f : Text → Text → Field) (puts : List Put) → AreOf f puts → (ss : List Seat) → AllByRecursion (IsSeat puts) ss → first_conflict ss ≡ None
no_conflict_in f puts all [] h = refl
no_conflict_in f puts all (s ∷ ss) h =
    ap (λ o. elim o [ None ↦ first_conflict ss | Some q ↦ Some (conflict_of s.first q) ]) (no_second f puts all s.first h.0.there s.second h.0.second)
    ∙ no_conflict_in f puts all ss h.1

-- without a fault such a report is taken for its facts and pages
pub is_content : (f : Text → Text → Field) (r : Report) → r.faults ≡ [] → AreOf f r.puts
    → verdict r ≡ content (record { facts = map (λ (s : Seat). s.first.fact) (seats r.puts); handles = in_order handle_cmp r.pages })
is_content f r none all =
    ap (λ fs. unless_fault (least fault_cmp fs) r) none
    ∙ ap (λ o. unless_conflict o (seats r.puts) r.pages) (no_conflict_in f r.puts all (seats r.puts) (seats_are r.puts))
