-- Walks that meet the same, in whatever order.
use Rattle.std.proofs.Common.{◌≡◌, Bool, true, false, ◌||◌, List, [], ◌++◌, append-nil, append_assoc, refl, sym, ap, subst, ◌∙◌}
use Rattle.std.proofs.lemmas.List.Sorted.{IsPermutation-refl, IsPermutation-sym, IsPermutation-trans, IsPermutation-append, IsPermutation-append_comm}
use Rattle.std.specs.List.Sorted.{IsPermutation}
use Rattle.plan_ir.specs.store_model.Walks.{Trace, join_traces, still}
use Rattle.plan_ir.specs.store_record.Keys.{Text}

pub record AreMet (s t : Trace) : Type 0 where
  pub missing : s.missing ≡ t.missing
  pub seen : IsPermutation s.seen t.seen

or_false : (b : Bool) → (b || false) ≡ b
or_false true = refl
or_false false = refl

or_comm : (a b : Bool) → (a || b) ≡ (b || a)
or_comm true true = refl
or_comm true false = refl
or_comm false true = refl
or_comm false false = refl

or_assoc : (a b c : Bool) → ((a || b) || c) ≡ (a || (b || c))
or_assoc true b c = refl
or_assoc false b c = refl

same_seen : (xs ys : List Text) → xs ≡ ys → IsPermutation xs ys
same_seen xs ys e = subst (IsPermutation xs) e (IsPermutation-refl xs)

pub met-refl : (s : Trace) → AreMet s s
met-refl s = record { missing = refl; seen = IsPermutation-refl s.seen }

pub met-sym : (s t : Trace) → AreMet s t → AreMet t s
met-sym s t a = record { missing = sym a.missing; seen = IsPermutation-sym _ _ a.seen }

pub met-trans : (s t u : Trace) → AreMet s t → AreMet t u → AreMet s u
met-trans s t u a b = record { missing = a.missing ∙ b.missing; seen = IsPermutation-trans _ _ _ a.seen b.seen }

pub met-join : (s t u v : Trace) → AreMet s t → AreMet u v → AreMet (join_traces s u) (join_traces t v)
met-join s t u v a b = record {
  missing = λ i. a.missing i || b.missing i;
  seen = IsPermutation-append s.seen t.seen u.seen v.seen a.seen b.seen;
}

pub met-assoc : (s t u : Trace) → AreMet (join_traces (join_traces s t) u) (join_traces s (join_traces t u))
met-assoc s t u = record {
  missing = or_assoc s.missing t.missing u.missing;
  seen = same_seen _ _ (append_assoc s.seen t.seen u.seen);
}

pub met-comm : (s t : Trace) → AreMet (join_traces s t) (join_traces t s)
met-comm s t = record {
  missing = or_comm s.missing t.missing;
  seen = IsPermutation-append_comm s.seen t.seen;
}

pub met-still : (s : Trace) → AreMet (join_traces s still) s
met-still s = record {
  missing = or_false s.missing;
  seen = same_seen _ _ (append-nil s.seen);
}

-- nothing missing and no id stood at, in front
pub met-after : (q s : Trace) → q.missing ≡ false → q.seen ≡ [] → AreMet s (join_traces q s)
met-after q s none nowhere = record {
  missing = sym (ap (λ b. b || s.missing) none);
  seen = same_seen _ _ (sym (ap (λ xs. xs ++ s.seen) nowhere));
}

-- the second and the third exchanged
pub met-turn : (s t u : Trace) → AreMet (join_traces s (join_traces t u)) (join_traces s (join_traces u t))
met-turn s t u = met-join s s (join_traces t u) (join_traces u t) (met-refl s) (met-comm t u)

-- the third put behind the second, as a pair
pub met-around : (s t u : Trace) → AreMet (join_traces s (join_traces t u)) (join_traces (join_traces s u) t)
met-around s t u = met-trans _ (join_traces s (join_traces u t)) _ (met-turn s t u) (met-sym _ _ (met-assoc s u t))

-- one more in front of the first part, and in front of the second
pub met-first : (a s t : Trace) → AreMet (join_traces a (join_traces s t)) (join_traces (join_traces a s) t)
met-first a s t = met-sym _ _ (met-assoc a s t)

pub met-second : (a s t : Trace) → AreMet (join_traces a (join_traces s t)) (join_traces s (join_traces a t))
met-second a s t =
    met-trans _ (join_traces (join_traces a s) t) _ (met-first a s t)
    (met-trans _ (join_traces (join_traces s a) t) _ (met-join (join_traces a s) (join_traces s a) t t (met-comm a s) (met-refl t)) (met-assoc s a t))
