-- The place of an offset, counted on from an earlier one.
use Rattle.std.proofs.Common.{◌≡◌, ◌<◌, ◌≤◌, ◌+◌, ◌-◌, ◌^◌, ℕ, zero, suc, List, [], ◌∷◌, ◌++◌, length, chars, take, drop, IsCharBoundary, refl, ap, ◌∙◌, arith}
use Rattle.std.specs.Prelude.{IsUtf8}
use Rattle.std.specs.List.{between}
use Rattle.std.proofs.lemmas.Str.{chars-append, IsUtf8-between, IsCharBoundary-start, chars-nil}
use Rattle.std.proofs.lemmas.List.{length-append, take_all, drop-drop}
use Rattle.std.proofs.lemmas.List.Edits.{between_none}
use Rattle.gql_lex.specs.Lines.{ended_lines, line_start, place_at}
use Rattle.gql_lex.specs.declared.tokens.Place.{Place}
use Rattle.gql_lex.specs.Counted.{IsCounted}

take_cut : (n m : ℕ) (xs : List ℕ) → take (n + m) xs ≡ take n xs ++ take m (drop n xs)
take_cut zero m xs = let e : zero + m ≡ m = omega arith in rw e refl
take_cut (suc n) m [] = let e : suc n + m ≡ suc (n + m) = omega arith in rw (e, take_all {A = ℕ} m [] (omega arith)) refl
take_cut (suc n) m (x ∷ xs) = let e : suc n + m ≡ suc (n + m) = omega arith in rw e (ap (λ l. x ∷ l) (take_cut n m xs))

pub between_cut : (a b c : ℕ) (bs : List ℕ) → a ≤ b → b ≤ c → between a c bs ≡ between a b bs ++ between b c bs
between_cut a b c bs h k =
    let n : c - a ≡ b - a + (c - b) = omega arith in
    let d : drop (b - a) (drop a bs) ≡ drop b bs = (let e : a + (b - a) ≡ b = omega arith in drop-drop (b - a) a bs ∙ ap (λ i. drop i bs) e) in
    rw (n, take_cut (b - a) (c - b) (drop a bs), d) refl

pub chars_cut : (bs : List ℕ) (a b c : ℕ) → IsUtf8 bs → a ≤ b → b ≤ c → IsCharBoundary bs a → IsCharBoundary bs b
    → length (chars (between a c bs)) ≡ length (chars (between a b bs)) + length (chars (between b c bs))
chars_cut bs a b c u h k p q =
    rw (between_cut a b c bs h k, chars-append (between a b bs) (between b c bs) (IsUtf8-between bs a b u h p q))
    (length-append (chars (between a b bs)) (chars (between b c bs)))

pub counted_none : (bs : List ℕ) → length bs < 2 ^ 32 - 1 → IsUtf8 bs → IsCounted bs 0 1 1
unfolding ended_lines line_start
counted_none bs l u = record {
  short = l;
  boundary = IsCharBoundary-start bs u;
  start = IsCharBoundary-start bs u;
  behind = omega arith;
  line = refl;
  column = rw (between_none bs 0, chars-nil) refl;
  few = omega arith;
}

-- no character stands between an offset and itself
pub no_chars : (bs : List ℕ) (i : ℕ) → length (chars (between i i bs)) ≡ 0
no_chars bs i = rw (between_none bs i, chars-nil) refl

-- what is known behind the last end of a line, or at the offset that was counted before
pub record IsOnLine (bs : List ℕ) (i l c start : ℕ) : Type 0 where
  pub lines : l ≡ 1 + ended_lines i bs
  pub column : c ≡ 1 + length (chars (between (line_start i bs) start bs))
  pub behind : line_start i bs ≤ start
  pub within : start ≤ i
  pub first : IsCharBoundary bs (line_start i bs)
  pub boundary : IsCharBoundary bs start
  pub few : c ≤ 1 + start

pub counted_to : (bs : List ℕ) (i l c start n : ℕ) → length bs < 2 ^ 32 - 1 → IsUtf8 bs → IsCharBoundary bs i → IsOnLine bs i l c start
    → n ≡ length (chars (between start i bs)) → n ≤ i - start → IsCounted bs i l (c + n)
counted_to bs i l c start n s u b o m few = record {
  short = s;
  boundary = b;
  start = o.first;
  behind = omega (arith, o.behind, o.within);
  line = o.lines;
  column = omega (arith, chars_cut bs (line_start i bs) start i u o.behind o.within o.first o.boundary, o.column, m);
  few = omega (arith, o.few, o.within);
}

pub counted_place : (bs : List ℕ) (i l c : ℕ) → IsCounted bs i l c → ◌≡◌ {A = Place} (record { line = l; column = c }) (place_at bs i)
counted_place bs i l c k = let a = k.line in let b = k.column in cc
