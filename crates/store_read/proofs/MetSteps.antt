-- What a walk met, one after another.
use Rattle.std.proofs.Common.{◌≡◌, ℕ, ◌+◌, ◌≤◌, Bool, true, false, ◌||◌, length, append-nil, append_assoc, refl, ap, ◌∙◌, arith}
use Rattle.std.proofs.lemmas.List.{length-append}
use Rattle.plan_ir.specs.store_model.Walks.{Trace, join_traces, still}
use Rattle.store_read.specs.Meeting.{Meeting, met_onto}

or_false : (b : Bool) → (b || false) ≡ b
or_false true = refl
or_false false = refl

or_assoc : (a b c : Bool) → ((a || b) || c) ≡ (a || (b || c))
or_assoc true b c = refl
or_assoc false b c = refl

pub met_still : (m : Meeting) → met_onto m still ≡ m
met_still m = λ i. record { missing = or_false m.missing i; seen = append-nil m.seen i }

pub met_joined : (m : Meeting) (s t : Trace) → met_onto (met_onto m s) t ≡ met_onto m (join_traces s t)
met_joined m s t = λ i. record { missing = or_assoc m.missing s.missing t.missing i; seen = append_assoc m.seen s.seen t.seen i }

-- what was met by one walk, and then by another
pub met_twice : (m n k : Meeting) (s t : Trace) → n ≡ met_onto m s → k ≡ met_onto n t → k ≡ met_onto m (join_traces s t)
met_twice m n k s t first second = second ∙ ap (λ x. met_onto x t) first ∙ met_joined m s t

-- looks that are at most the standings
pub looks_joined : (old mid new : ℕ) (s t : Trace) → mid ≤ old + length s.seen → new ≤ mid + length t.seen → new ≤ old + length (join_traces s t).seen
looks_joined old mid new s t first second = omega (arith, first, second, length-append s.seen t.seen)

pub looks_first : (old new : ℕ) (s t : Trace) → new ≤ old + length s.seen → new ≤ old + length (join_traces s t).seen
looks_first old new s t first = omega (arith, first, length-append s.seen t.seen)

pub ruleset meeting = (met_still)
