-- Escapes, by the code that their digits write.
use Rattle.std.proofs.Common.{◌≡◌, ℕ, Bool, true, false, cond, ◌&&◌, List, get_or, drop, Some, None, Ok, Err, eqb, IsOk, ◌+◌, ◌*◌, ◌<◌, ◌⊎◌, leb, inl, inr, ⊎_elim, arith, refl}
use Rattle.std.proofs.lemmas.Bool.{and_right, and_from, eq-eqb, and_parts, and_cases, leb-false, ltb-true}
use Rattle.std.specs.Char.{digit_value}
use Rattle.gql_lex.specs.Strings.{escape_len, is_four_hex, code_of_hex, is_simple_escape, is_surrogate, is_hex}

none_false : (b : Bool) (x : ℕ) → None ≡ cond b (Some x) None → b ≡ false
none_false true x e = cc
none_false false x e = refl

some_true : (b : Bool) (x y : ℕ) → Some y ≡ cond b (Some x) None → (b ≡ true) × (y ≡ x)
some_true true x y e = (refl, cc)
some_true false x y e = (cc, cc)

pub escape_none : (bs : List ℕ) → is_simple_escape (get_or bs 0 0) ≡ false → None ≡ cond (is_four_hex (drop 1 bs)) (Some (code_of_hex (drop 1 bs))) None → Err 4 ≡ escape_len bs
unfolding escape_len
escape_none bs s e =
    let f = and_right (eqb (get_or bs 0 0) 117) (is_four_hex (drop 1 bs)) (none_false (is_four_hex (drop 1 bs)) _ e) in
    rw (s, f) refl

pub escape_some : (bs : List ℕ) (y : ℕ) → is_simple_escape (get_or bs 0 0) ≡ false → get_or bs 0 0 ≡ 117 → Some y ≡ cond (is_four_hex (drop 1 bs)) (Some (code_of_hex (drop 1 bs))) None
    → cond (is_surrogate y) (Err 5) (Ok 5) ≡ escape_len bs
unfolding escape_len
escape_some bs y s u e =
    let p = some_true (is_four_hex (drop 1 bs)) _ y e in
    let f = and_from (eqb (get_or bs 0 0) 117) (is_four_hex (drop 1 bs)) (eq-eqb _ _ u) p.0 in
    rw (s, f, p.1) refl

-- ---- an escape without fault

in_unicode : (h s : Bool) → IsOk {T = ℕ} {E = ℕ} (cond h (cond s (Err 5) (Ok 5)) (Err 4)) → (h ≡ true) × (s ≡ false)
in_unicode true true e = (refl, cc)
in_unicode true false e = (refl, refl)
in_unicode false s e = (cc, cc)

pub unicode_ok : (bs : List ℕ) → IsOk (escape_len bs) → get_or bs 0 0 ≡ 117 → (is_four_hex (drop 1 bs) ≡ true) × (is_surrogate (code_of_hex (drop 1 bs)) ≡ false)
unfolding escape_len
unicode_ok bs o u = in_unicode (is_four_hex (drop 1 bs)) (is_surrogate (code_of_hex (drop 1 bs))) (rw u at o)

code_small : (a b c d : ℕ) → a < 16 → b < 16 → c < 16 → d < 16 → ((a * 16 + b) * 16 + c) * 16 + d < 65536
code_small a b c d ha hb hc hd = omega arith

hex_of : (c : ℕ) → is_hex c ≡ true → digit_value c < 16
hex_of c e = ltb-true (digit_value c) 16 e

pub record FourHex (bs : List ℕ) : Type 0 where
  pub first : is_hex (get_or bs 0 0) ≡ true
  pub second : is_hex (get_or bs 1 0) ≡ true
  pub third : is_hex (get_or bs 2 0) ≡ true
  pub fourth : is_hex (get_or bs 3 0) ≡ true

pub four_hex : (bs : List ℕ) → is_four_hex bs ≡ true → FourHex bs
four_hex bs e =
    let p = and_parts (is_hex (get_or bs 0 0) && is_hex (get_or bs 1 0) && is_hex (get_or bs 2 0)) (is_hex (get_or bs 3 0)) e in
    let q = and_parts (is_hex (get_or bs 0 0) && is_hex (get_or bs 1 0)) (is_hex (get_or bs 2 0)) p.0 in
    let r = and_parts (is_hex (get_or bs 0 0)) (is_hex (get_or bs 1 0)) q.0 in
    record { first = r.0; second = r.1; third = q.1; fourth = p.1 }

pub code_below : (bs : List ℕ) → is_four_hex bs ≡ true → code_of_hex bs < 65536
code_below bs e =
    let f = four_hex bs e in
    code_small (digit_value (get_or bs 0 0)) (digit_value (get_or bs 1 0)) (digit_value (get_or bs 2 0)) (digit_value (get_or bs 3 0))
    (hex_of (get_or bs 0 0) f.first) (hex_of (get_or bs 1 0) f.second) (hex_of (get_or bs 2 0) f.third) (hex_of (get_or bs 3 0) f.fourth)

-- the code is that of a character
pub code_scalar : (bs : List ℕ) (y : ℕ) → IsOk (escape_len bs) → get_or bs 0 0 ≡ 117 → Some y ≡ cond (is_four_hex (drop 1 bs)) (Some (code_of_hex (drop 1 bs))) None
    → (y ≡ code_of_hex (drop 1 bs)) × ((y < 0xD800) ⊎ (0xDFFF < y)) × (y < 65536)
code_scalar bs y o u e =
    let k = unicode_ok bs o u in
    let p = some_true (is_four_hex (drop 1 bs)) (code_of_hex (drop 1 bs)) y e in
    let b = code_below (drop 1 bs) k.0 in
    let s = and_cases (leb 0xD800 (code_of_hex (drop 1 bs))) (leb (code_of_hex (drop 1 bs)) 0xDFFF) k.1 in
    (p.1, ⊎_elim (λ l. inl (rw p.1 (leb-false 0xD800 (code_of_hex (drop 1 bs)) l))) (λ r. inr (rw p.1 (leb-false (code_of_hex (drop 1 bs)) 0xDFFF r))) s, rw p.1 b)

pub code_some : (bs : List ℕ) → IsOk (escape_len bs) → get_or bs 0 0 ≡ 117 → None ≡ cond (is_four_hex (drop 1 bs)) (Some (code_of_hex (drop 1 bs))) None → ⊥
code_some bs o u e = let f = none_false (is_four_hex (drop 1 bs)) (code_of_hex (drop 1 bs)) e in let t = (unicode_ok bs o u).0 in cc
