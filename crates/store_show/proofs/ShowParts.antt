-- Fields around pointers, one part after another, and a record of a possible type.
use Rattle.std.proofs.Common.{◌≡◌, ℕ, ◌+◌, ◌≤◌, Bool, true, false, cond, List, ◌++◌, length, Some, sym, ap, arith}
use Rattle.std.proofs.lemmas.List.{length-append}
use Rattle.plan_ir.specs.gql_plain.Tree.{Tree}
use Rattle.json.specs.Token.{Token}
use Rattle.plan_ir.specs.Reader.{Reader}
use Rattle.plan_ir.specs.ReaderMeaning.{ReaderPart, collect_reading}
use Rattle.plan_order.specs.Responses.{fragments}
use Rattle.plan_order.specs.Walk.{fields_alone, fields_around, is_none, object_in_order}
use Rattle.plan_ir.specs.schema_types.Environments.{Values}
use Rattle.plan_ir.specs.store_model.Walks.{Fields, Next, Shown, Trace, join_traces, shown_object}
use Rattle.store_show.proofs.StoodSteps.{stood_twice}
use Rattle.store_read.specs.Meeting.{Meeting}
use Rattle.store_read.specs.Walked.{if_possible}
use Rattle.store_show.proofs.ShowTokens.{pairs-append, then_two}
use Rattle.store_show.specs.Showing.{pairs_tokens}
use Rattle.store_show.specs.Stood.{stood_onto}
use Rattle.plan_ir.specs.store_record.Keys.{Text}

-- ---- three parts

pub three_written : (a b c d : List Token) (xs ys zs : List (Text × Tree)) → b ≡ a ++ pairs_tokens xs → c ≡ b ++ pairs_tokens ys → d ≡ c ++ pairs_tokens zs → d ≡ a ++ pairs_tokens (xs ++ (ys ++ zs))
three_written a b c d xs ys zs first second third =
    then_two a b d (pairs_tokens xs) (pairs_tokens (ys ++ zs)) (pairs_tokens (xs ++ (ys ++ zs))) first
    (then_two b c d (pairs_tokens ys) (pairs_tokens zs) (pairs_tokens (ys ++ zs)) second third (sym (pairs-append ys zs)))
    (sym (pairs-append xs (ys ++ zs)))

pub three_met : (m n o p : Meeting) (s t u : Trace) → n ≡ stood_onto m s → o ≡ stood_onto n t → p ≡ stood_onto o u → p ≡ stood_onto m (join_traces s (join_traces t u))
three_met m n o p s t u first second third = stood_twice m n p s (join_traces t u) first (stood_twice n o p t u second third)

pub one_of_three : (old new : ℕ) (s t u : Trace) → new ≤ old + length s.seen → new ≤ old + length (join_traces s (join_traces t u)).seen
one_of_three old new s t u first = omega (arith, first, length-append s.seen (join_traces t u).seen)

pub two_of_three : (old mid new : ℕ) (s t u : Trace) → mid ≤ old + length s.seen → new ≤ mid + length t.seen → new ≤ old + length (join_traces s (join_traces t u)).seen
two_of_three old mid new s t u first second = omega (arith, first, second, length-append s.seen (join_traces t u).seen, length-append t.seen u.seen)

pub three_looks : (old mid more new : ℕ) (s t u : Trace) → mid ≤ old + length s.seen → more ≤ mid + length t.seen → new ≤ more + length u.seen → new ≤ old + length (join_traces s (join_traces t u)).seen
three_looks old mid more new s t u first second third = omega (arith, first, second, third, length-append s.seen (join_traces t u).seen, length-append t.seen u.seen)

-- ---- whether there are pointers

module _ (owner : Text) (next : Next ReaderPart) (T : Text) (env : Values) (steps : Reader) (id : Text) (fields : Fields) where
  pub object_around : is_none (fragments steps) ≡ false → fields_around owner next T id fields (collect_reading env T steps) ≡ object_in_order owner next T env steps id fields
  object_around some = ap (λ b. cond b (fields_alone next T fields (collect_reading env T steps)) (fields_around owner next T id fields (collect_reading env T steps))) (sym some)

-- ---- whether the type is possible

pub possible_shown : (b : Bool) (r s : Shown × Trace) → b ≡ true → s ≡ r → (Some (shown_object s.0), s.1) ≡ if_possible b r
possible_shown b r s holds same = λ i. if_possible (sym holds i) (same i)
