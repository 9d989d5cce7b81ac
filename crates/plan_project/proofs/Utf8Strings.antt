-- What the strings of a text say is text: it is UTF-8 where the text is.
use Rattle.std.proofs.Common.{◌≡◌, ℕ, zero, suc, ◌+◌, ◌-◌, ◌<◌, ◌≤◌, Bool, true, false, cond, eqb, ltb, leb, ◌&&◌, ◌||◌, List, [], ◌∷◌, ◌++◌, map, length, get_or, take, drop, Option, Some, None, unwrap_or, IsUtf8, lit<, refl, sym, ap, subst, ◌∙◌, inl, inr, arith, append_assoc, append-nil, length-append, get_or-append-add, encode_utf8}
use Rattle.std.proofs.lemmas.Bool.{and_cases, cases_lt, eqb-true, leb-false, ne_eqb}
use Rattle.std.proofs.lemmas.Bool.Decides.{nat_tests}
use Rattle.std.proofs.lemmas.List.{drop_all, drop_at, take_at}
use Rattle.std.proofs.lemmas.Str.{IsCharBoundary-after_ascii, IsCharBoundary-before_ascii, IsUtf8-append, IsUtf8-drop, IsUtf8-encode, IsUtf8-from_ascii, IsUtf8-take}
use Rattle.std.specs.Char.{IsScalar}
use Rattle.std.specs.List.{AllByRecursion, prefix_len, suffix_len}
use Rattle.plan_ir.proofs.gql_lex_laws.Escapes.{code_below, four_hex}
use Rattle.plan_ir.proofs.gql_lex_laws.Extents.{or_below, same_below}
use Rattle.plan_ir.proofs.gql_lex_laws.Texts.{hex_below, simple_below}
use Rattle.plan_ir.proofs.gql_lex_laws.Margins.{indent_boundary}
use Rattle.plan_ir.specs.gql_lex.Lexemes.{Part, character, escape, unicode, AreParts, parts_then, BlockPart, letter, quotes, AreBlockParts, block_then}
use Rattle.plan_ir.specs.gql_lex.Lines.{ends_line, lines, onto_first}
use Rattle.plan_ir.specs.gql_lex.Strings.{code_of_hex, is_four_hex, is_hex, is_simple_escape, is_surrogate}
use Rattle.plan_ir.specs.gql_lex.Values.{block_value, common_indent, indent, is_blank_line, join_lines, least, least_indent, raw_text, simple_escape, text_value, unindent, without_blank_end, without_blank_start}

-- ---- ASCII bytes

pub one_ascii : (c : ℕ) → c < 128 → IsUtf8 (c ∷ [])
one_ascii c h = IsUtf8-from_ascii (c ∷ []) at
  where
    at : (i : ℕ) → get_or (c ∷ []) i 0 < 128
    at zero = h
    at (suc i) = lit< tt

pub no_text : IsUtf8 []
no_text = IsUtf8-from_ascii [] (λ i. lit< tt)

pub put_ascii : (c : ℕ) (t : List ℕ) → c < 128 → IsUtf8 t → IsUtf8 (c ∷ t)
put_ascii c t h u = IsUtf8-append (c ∷ []) t (one_ascii c h) u

-- a text is cut at such a byte
pub cut_at : (front : List ℕ) (c : ℕ) (rest : List ℕ) → c < 128 → IsUtf8 (front ++ c ∷ rest) → IsUtf8 front × IsUtf8 rest
cut_at front c rest below u =
    let size : length (front ++ c ∷ rest) ≡ length front + suc (length rest) = length-append front (c ∷ rest) in
    let place : length front ≡ length front + 0 = omega arith in
    let is : get_or (front ++ c ∷ rest) (length front) 0 ≡ c = ap (λ k. get_or (front ++ c ∷ rest) k 0) place ∙ get_or-append-add front (c ∷ rest) 0 0 in
    let within : length front < length (front ++ c ∷ rest) = omega (arith, size) in
    let ascii : get_or (front ++ c ∷ rest) (length front) 0 < 128 = omega (arith, is, below) in
    let two : drop (length front + 1) (front ++ c ∷ rest) ≡ rest =
    ap (drop (length front + 1)) (sym (append_assoc front (c ∷ []) rest)) ∙ drop_at (front ++ c ∷ []) rest (length front + 1) (length-append front (c ∷ [])) in (
      subst IsUtf8 (take_at front (c ∷ rest) (length front) refl) (IsUtf8-take (front ++ c ∷ rest) (length front) u (IsCharBoundary-before_ascii (front ++ c ∷ rest) (length front) within ascii)),
      subst IsUtf8 two (IsUtf8-drop (front ++ c ∷ rest) (length front + 1) u (IsCharBoundary-after_ascii (front ++ c ∷ rest) (length front) u within ascii)),
    )

-- ---- escapes

low_scalar : (c : ℕ) → c < 55296 → IsScalar c
low_scalar c h = grind (arith, nat_tests)

high_scalar : (c : ℕ) → 57343 < c → c < 65536 → IsScalar c
high_scalar c h k =
    let a : ltb c 55296 ≡ false = grind (arith, nat_tests) in
    let b : leb 57344 c ≡ true = grind (arith, nat_tests) in
    let d : ltb c 1114112 ≡ true = grind (arith, nat_tests) in
    rw (a, b, d) refl

either_below : (b : Bool) (x y : ℕ) → x < 128 → y < 128 → cond b x y < 128
either_below true x y h k = h
either_below false x y h k = k

escape_below : (c : ℕ) → c < 128 → simple_escape c < 128
escape_below c h =
    either_below (eqb c 98) 8 _ (lit< tt) (either_below (eqb c 102) 12 _ (lit< tt) (either_below (eqb c 110) 10 _ (lit< tt) (either_below (eqb c 114) 13 _ (lit< tt) (either_below (eqb c 116) 9 c (lit< tt) h))))

simple_utf8 : (c : ℕ) → is_simple_escape c ≡ true → IsUtf8 (encode_utf8 (simple_escape c))
simple_utf8 c e =
    let below : simple_escape c < 128 = escape_below c (simple_below c e) in
    IsUtf8-encode (simple_escape c) (low_scalar (simple_escape c) (omega (arith, below)))

not_unicode : (c : ℕ) → is_simple_escape c ≡ true → c ≡ 117 → ⊥
not_unicode c e same = let f : is_simple_escape 117 ≡ true = ap is_simple_escape (sym same) ∙ e in cc

code_utf8 : (bs : List ℕ) → is_four_hex bs ≡ true → is_surrogate (code_of_hex bs) ≡ false → IsUtf8 (encode_utf8 (code_of_hex bs))
code_utf8 bs e s =
    let below : code_of_hex bs < 65536 = code_below bs e in
    IsUtf8-encode (code_of_hex bs) (elim (and_cases (leb 0xD800 (code_of_hex bs)) (leb (code_of_hex bs) 0xDFFF) s) [
      | inl l ↦ low_scalar (code_of_hex bs) (omega (arith, leb-false 0xD800 (code_of_hex bs) l))
      | inr r ↦ high_scalar (code_of_hex bs) (omega (arith, leb-false (code_of_hex bs) 0xDFFF r)) below
    ])

-- ---- a Text

text_says : (ps : List Part) (front : List ℕ) → AreParts ps → IsUtf8 (front ++ parts_then ps []) → IsUtf8 (front ++ text_value 0 (parts_then ps []))
unfolding text_value
text_says [] front h u = subst IsUtf8 (sym (append-nil front)) (cut_at front 34 [] (lit< tt) u).0
text_says (character c ∷ ps) front h u =
    let rest : List ℕ = parts_then ps [] in
    let e : text_value 0 (c ∷ rest) ≡ c ∷ text_value 0 rest = rw (ne_eqb c 34 h.0.1, ne_eqb c 92 h.0.2) refl in
    let more = text_says ps (front ++ c ∷ []) h.1 (subst IsUtf8 (sym (append_assoc front (c ∷ []) rest)) u) in
    subst (λ t. IsUtf8 (front ++ t)) (sym e) (subst IsUtf8 (append_assoc front (c ∷ []) (text_value 0 rest)) more)
text_says (escape c ∷ ps) front h u =
    let rest : List ℕ = parts_then ps [] in
    let e : text_value 0 (92 ∷ c ∷ rest) ≡ encode_utf8 (simple_escape c) ++ text_value 0 rest = rw (ne_eqb c 117 (not_unicode c h.0)) refl in
    let parts = cut_at front 92 (c ∷ rest) (lit< tt) u in
    let behind = cut_at [] c rest (simple_below c h.0) parts.1 in
    subst (λ t. IsUtf8 (front ++ t)) (sym e)
    (IsUtf8-append front (encode_utf8 (simple_escape c) ++ text_value 0 rest) parts.0
    (IsUtf8-append (encode_utf8 (simple_escape c)) (text_value 0 rest) (simple_utf8 c h.0) (text_says ps [] h.1 behind.1)))
text_says (unicode a b c d ∷ ps) front h u =
    let rest : List ℕ = parts_then ps [] in
    let digits : List ℕ = a ∷ b ∷ c ∷ d ∷ [] in
    let e : text_value 0 (92 ∷ 117 ∷ a ∷ b ∷ c ∷ d ∷ rest) ≡ encode_utf8 (code_of_hex digits) ++ text_value 0 rest = refl in
    let hex = four_hex digits h.0.0 in
    let parts = cut_at front 92 (117 ∷ a ∷ b ∷ c ∷ d ∷ rest) (lit< tt) u in
    let one = cut_at [] 117 (a ∷ b ∷ c ∷ d ∷ rest) (lit< tt) parts.1 in
    let two = cut_at [] a (b ∷ c ∷ d ∷ rest) (hex_below a hex.first) one.1 in
    let three = cut_at [] b (c ∷ d ∷ rest) (hex_below b hex.second) two.1 in
    let four = cut_at [] c (d ∷ rest) (hex_below c hex.third) three.1 in
    let behind = cut_at [] d rest (hex_below d hex.fourth) four.1 in
    subst (λ t. IsUtf8 (front ++ t)) (sym e)
    (IsUtf8-append front (encode_utf8 (code_of_hex digits) ++ text_value 0 rest) parts.0
    (IsUtf8-append (encode_utf8 (code_of_hex digits)) (text_value 0 rest) (code_utf8 digits h.0.0 h.0.1) (text_says ps [] h.1 behind.1)))

pub text_utf8 : (ps : List Part) → AreParts ps → IsUtf8 (34 ∷ parts_then ps []) → IsUtf8 (text_value 0 (parts_then ps []))
text_utf8 ps h u = text_says ps [] h (cut_at [] 34 (parts_then ps []) (lit< tt) u).1

-- ---- a Block: its raw text

raw_says : (ps : List BlockPart) (front : List ℕ) → AreBlockParts ps → IsUtf8 (front ++ block_then ps []) → IsUtf8 (front ++ raw_text 0 (block_then ps []))
unfolding raw_text
raw_says [] front h u = subst IsUtf8 (sym (append-nil front)) (cut_at front 34 (34 ∷ 34 ∷ []) (lit< tt) u).0
raw_says (letter c ∷ ps) front h u =
    let rest : List ℕ = block_then ps [] in
    let e : raw_text 0 (c ∷ rest) ≡ c ∷ raw_text 0 rest = rw (h.1, h.2) refl in
    let more = raw_says ps (front ++ c ∷ []) h.3 (subst IsUtf8 (sym (append_assoc front (c ∷ []) rest)) u) in
    subst (λ t. IsUtf8 (front ++ t)) (sym e) (subst IsUtf8 (append_assoc front (c ∷ []) (raw_text 0 rest)) more)
raw_says (quotes ∷ ps) front h u =
    let rest : List ℕ = block_then ps [] in
    let e : raw_text 0 (92 ∷ 34 ∷ 34 ∷ 34 ∷ rest) ≡ 34 ∷ 34 ∷ 34 ∷ raw_text 0 rest = refl in
    let parts = cut_at front 92 (34 ∷ 34 ∷ 34 ∷ rest) (lit< tt) u in
    let one = cut_at [] 34 (34 ∷ 34 ∷ rest) (lit< tt) parts.1 in
    let two = cut_at [] 34 (34 ∷ rest) (lit< tt) one.1 in
    let behind = cut_at [] 34 rest (lit< tt) two.1 in
    let more : IsUtf8 (34 ∷ 34 ∷ 34 ∷ raw_text 0 rest) =
    put_ascii 34 (34 ∷ 34 ∷ raw_text 0 rest) (lit< tt) (put_ascii 34 (34 ∷ raw_text 0 rest) (lit< tt) (put_ascii 34 (raw_text 0 rest) (lit< tt) (raw_says ps [] h behind.1))) in
    subst (λ t. IsUtf8 (front ++ t)) (sym e) (IsUtf8-append front (34 ∷ 34 ∷ 34 ∷ raw_text 0 rest) parts.0 more)

-- ---- its lines

abbrev AreUtf8 : List (List ℕ) → Type 0
AreUtf8 ls = AllByRecursion IsUtf8 ls

abbrev onto_front : List ℕ → List (List ℕ) → List (List ℕ)
onto_front front [] = front ∷ []
onto_front front (l ∷ ls) = (front ++ l) ∷ ls

front_nil : (ls : List (List ℕ)) → AreUtf8 (onto_front [] ls) → AreUtf8 ls
front_nil [] h = tt
front_nil (l ∷ ls) h = h

front_more : (front : List ℕ) (c : ℕ) (ls : List (List ℕ)) → AreUtf8 (onto_front (front ++ c ∷ []) ls) → AreUtf8 (onto_front front (onto_first c ls))
front_more front c [] h = h
front_more front c (l ∷ ls) h = (subst IsUtf8 (append_assoc front (c ∷ []) l) h.0, h.1)

ends_below : (c : ℕ) (b : Bool) → (eqb c 10 || (eqb c 13 && b)) ≡ true → c < 128
ends_below c b = or_below c (eqb c 10) (eqb c 13 && b) (same_below c 10 (lit< tt)) (λ e. same_below c 13 (lit< tt) (first (eqb c 13) b e))
  where
    first : (x y : Bool) → (x && y) ≡ true → x ≡ true
    first true y e = refl
    first false y e = e

lines_say : (cs front : List ℕ) → IsUtf8 (front ++ cs) → AreUtf8 (onto_front front (lines cs))
unfolding lines
lines_say [] front u = (u, tt)
lines_say (c ∷ cs) front u = on (λ f h. lines_say cs f h) (ends_line c cs) (eqb c 13) refl refl
  where
    on : ((f : List ℕ) → IsUtf8 (f ++ cs) → AreUtf8 (onto_front f (lines cs))) → (a b : Bool) → ends_line c cs ≡ a → eqb c 13 ≡ b
        → AreUtf8 (onto_front front (cond a ([] ∷ lines cs) (cond b (lines cs) (onto_first c (lines cs)))))
    on more true b d e =
        let parts = cut_at front c cs (ends_below c _ d) u in
        (subst IsUtf8 (sym (append-nil front)) parts.0, front_nil (lines cs) (more [] parts.1))
    on more false true d e =
        let parts = cut_at front c cs (same_below c 13 (lit< tt) e) u in
        more front (IsUtf8-append front cs parts.0 parts.1)
    on more false false d e = front_more front c (lines cs) (more (front ++ c ∷ []) (subst IsUtf8 (sym (append_assoc front (c ∷ []) cs)) u))

abbrev AtMost : ℕ → Option ℕ → Type 0
AtMost c None = Unit {0}
AtMost c (Some n) = c ≤ n

at_most_itself : (o : Option ℕ) → AtMost (unwrap_or o 0) o
at_most_itself None = tt
at_most_itself (Some n) = omega arith

both_least : (c n : ℕ) (most : Option ℕ) → c ≤ least n most → (c ≤ n) × AtMost c most
both_least c n None h = (h, tt)
both_least c n (Some m) h = (omega (arith, h), omega (arith, h))

cut_within : (c : ℕ) (m : List ℕ) → IsUtf8 m → c ≤ indent m → IsUtf8 (drop c m)
cut_within zero m u h = u
cut_within (suc c) m u h = IsUtf8-drop m (suc c) u (indent_boundary m (suc c) u (omega arith) h)

cut_blank : (c : ℕ) (m : List ℕ) → IsUtf8 m → is_blank_line m ≡ true → IsUtf8 (drop c m)
cut_blank c m u e =
    let all : indent m ≡ length m = eqb-true (indent m) (length m) e in
    elim (cases_lt (indent m) c) [
      | inl l ↦ subst IsUtf8 (sym (drop_all c m (omega (arith, l, all)))) no_text
      | inr h ↦ cut_within c m u h
    ]

cut_all : (c : ℕ) (ls : List (List ℕ)) → AreUtf8 ls → AtMost c (least_indent ls) → AreUtf8 (map (λ m. drop c m) ls)
cut_all c [] h k = tt
cut_all c (l ∷ ls) h k = on (λ x. cut_all c ls h.1 x) (is_blank_line l) refl k
  where
    on : (AtMost c (least_indent ls) → AreUtf8 (map (λ m. drop c m) ls)) → (b : Bool) → is_blank_line l ≡ b
        → AtMost c (cond b (least_indent ls) (Some (least (indent l) (least_indent ls)))) → IsUtf8 (drop c l) × AreUtf8 (map (λ m. drop c m) ls)
    on more true e k = (cut_blank c l h.0 e, more k)
    on more false e k = let r = both_least c (indent l) (least_indent ls) k in (cut_within c l h.0 r.0, more r.1)

unindent_all : (ls : List (List ℕ)) → AreUtf8 ls → AreUtf8 (unindent ls)
unindent_all [] h = tt
unindent_all (l ∷ ls) h = (h.0, cut_all (common_indent ls) ls h.1 (at_most_itself (least_indent ls)))

drop_from : (n : ℕ) (ls : List (List ℕ)) → AreUtf8 ls → AreUtf8 (drop n ls)
drop_from zero ls h = h
drop_from (suc n) [] h = tt
drop_from (suc n) (l ∷ ls) h = drop_from n ls h.1

take_to : (n : ℕ) (ls : List (List ℕ)) → AreUtf8 ls → AreUtf8 (take n ls)
take_to zero ls h = tt
take_to (suc n) [] h = tt
take_to (suc n) (l ∷ ls) h = (h.0, take_to n ls h.1)

join_all : (ls : List (List ℕ)) → AreUtf8 ls → IsUtf8 (join_lines ls)
join_all [] h = no_text
join_all (l ∷ []) h = h.0
join_all (l ∷ m ∷ ms) h = IsUtf8-append l (10 ∷ join_lines (m ∷ ms)) h.0 (put_ascii 10 (join_lines (m ∷ ms)) (lit< tt) (join_all (m ∷ ms) h.1))

value_says : (raw : List ℕ) → IsUtf8 raw → IsUtf8 (block_value raw)
unfolding block_value
value_says raw u =
    let ls : List (List ℕ) = unindent (lines raw) in
    let own : AreUtf8 ls = unindent_all (lines raw) (front_nil (lines raw) (lines_say raw [] u)) in
    let begun : AreUtf8 (without_blank_start ls) = drop_from (prefix_len is_blank_line ls) ls own in
    join_all (without_blank_end (without_blank_start ls)) (take_to (length (without_blank_start ls) - suffix_len is_blank_line (without_blank_start ls)) (without_blank_start ls) begun)

pub block_utf8 : (ps : List BlockPart) → AreBlockParts ps → IsUtf8 (34 ∷ 34 ∷ 34 ∷ block_then ps []) → IsUtf8 (block_value (raw_text 0 (block_then ps [])))
block_utf8 ps h u =
    let one = cut_at [] 34 (34 ∷ 34 ∷ block_then ps []) (lit< tt) u in
    let two = cut_at [] 34 (34 ∷ block_then ps []) (lit< tt) one.1 in
    let behind = cut_at [] 34 (block_then ps []) (lit< tt) two.1 in
    value_says (raw_text 0 (block_then ps [])) (raw_says ps [] h behind.1)
