-- The first line of some bytes.
use Rattle.std.proofs.Common.{◌≡◌, ℕ, ◌+◌, ◌-◌, suc, add-one, [], ◌∷◌, ◌++◌, length, take, drop, cond, Bool, true, false, ◌==◌, Some, None, refl, sym, ap, subst, ◌∙◌, arith}
use Rattle.std.specs.List.{position, position_from}
use Rattle.std.proofs.lemmas.Bool.{eqb-true}
use Rattle.std.proofs.lemmas.Iterator.Adapters.{position_from-zero}
use Rattle.relay_io.proofs.Streaming.{rest_is}
use Rattle.relay_forms.specs.Scripts.{HasNoEnd}
use Rattle.plan_ir.specs.schema_tables.Types.{Text}

abbrev is_end : ℕ → Bool
is_end b = b == 10

-- the first LF, of the place `at` where the bytes begin at the place `from`, behind a line and before the rest
record Splits (bytes : Text) (from at : ℕ) : Type 0 where
  line : Text
  rest : Text
  joined : bytes ≡ line ++ 10 ∷ rest
  plain : HasNoEnd line
  length_is : at ≡ from + length line

same_place : (i at : ℕ) → Some i ≡ Some at → at ≡ i
same_place i at h = cc

splits_step : (b : ℕ) (bs : Text) (i at : ℕ) (t : Bool) → is_end b ≡ t → (position_from is_end (i + 1) bs ≡ Some at → Splits bs (i + 1) at) → cond t (Some i) (position_from is_end (i + 1) bs) ≡ Some at → Splits (b ∷ bs) i at
splits_step b bs i at true e next h =
    record { line = []; rest = bs; joined = ap (λ x. x ∷ bs) (eqb-true b 10 e); plain = tt; length_is = omega (arith, same_place i at h) }
splits_step b bs i at false e next h =
    let s = next h in
    record { line = b ∷ s.line; rest = s.rest; joined = ap (λ xs. b ∷ xs) s.joined; plain = (e, s.plain); length_is = omega (arith, s.length_is) }

splits_from : (bytes : Text) (i at : ℕ) → position_from is_end i bytes ≡ Some at → Splits bytes i at
splits_from [] i at h = absurd (cc)
splits_from (b ∷ bs) i at h = splits_step b bs i at (is_end b) refl (splits_from bs (i + 1) at) h

no_end_step : (b : ℕ) (bs : Text) (i : ℕ) (t : Bool) → is_end b ≡ t → (position_from is_end (i + 1) bs ≡ None → HasNoEnd bs) → cond t (Some i) (position_from is_end (i + 1) bs) ≡ None → HasNoEnd (b ∷ bs)
no_end_step b bs i true e next h = absurd (cc)
no_end_step b bs i false e next h = (e, next h)

no_end_from : (bytes : Text) (i : ℕ) → position_from is_end i bytes ≡ None → HasNoEnd bytes
no_end_from [] i h = tt
no_end_from (b ∷ bs) i h = no_end_step b bs i (is_end b) refl (no_end_from bs (i + 1)) h

take_front : (xs ys : Text) → take (length xs) (xs ++ ys) ≡ xs
take_front [] ys = refl
take_front (x ∷ xs) ys = ap (λ l. x ∷ l) (take_front xs ys)

behind_more : (n : ℕ) (xs rest : Text) → drop (n + 1) xs ≡ rest → drop (suc n) xs ≡ rest
behind_more n xs rest h = rw (← add-one n) h

behind : (line rest : Text) → drop (length line + 1) (line ++ 10 ∷ rest) ≡ rest
behind [] rest = refl
behind (b ∷ bs) rest = rw add-one (behind_more (length bs) (bs ++ 10 ∷ rest) rest (behind bs rest))

-- no line ends
pub no_end : (bytes : Text) → position is_end bytes ≡ None → HasNoEnd bytes
no_end bytes h = no_end_from bytes 0 (sym (position_from-zero is_end bytes) ∙ h)

-- what stands before the first LF is a line, and what stands behind it is the rest
pub first_line_is : (bytes : Text) (end : ℕ) → position is_end bytes ≡ Some end
    → (bytes ≡ take end bytes ++ 10 ∷ take (length bytes - (end + 1)) (drop (end + 1) bytes)) × HasNoEnd (take end bytes)
first_line_is bytes end h =
    let s = splits_from bytes 0 end (sym (position_from-zero is_end bytes) ∙ h) in
    let end_is : end ≡ length s.line = omega (arith, s.length_is) in
    let line_is : take end bytes ≡ s.line = ap (take end) s.joined ∙ ap (λ k. take k (s.line ++ 10 ∷ s.rest)) end_is ∙ take_front s.line (10 ∷ s.rest) in
    let rest_of : drop (end + 1) bytes ≡ s.rest = ap (drop (end + 1)) s.joined ∙ ap (λ k. drop (k + 1) (s.line ++ 10 ∷ s.rest)) end_is ∙ behind s.line s.rest in (
      s.joined ∙ ap (λ l. l ++ 10 ∷ s.rest) (sym line_is) ∙ ap (λ r. take end bytes ++ 10 ∷ r) (sym (rest_is (end + 1) bytes ∙ rest_of)),
      subst HasNoEnd (sym line_is) s.plain,
    )
