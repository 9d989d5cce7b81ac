-- Whole numbers are read back.
use Rattle.std.proofs.Common.{◌≡◌, ℕ, suc, ◌+◌, ◌-◌, ◌<◌, ◌≤◌, ◌^◌, Bool, true, false, cond, ◌||◌, List, [], ◌∷◌, ◌++◌, length, take, drop, get_or, option_map, Ok, refl, sym, ap, ◌∙◌, subst, arith, eqb, pos, negsuc, ℤ, neg_ℤ, true≢false, ◌⊎◌, inl, inr}
use Rattle.std.proofs.lemmas.Bool.Decides.{nat_tests}
use Rattle.std.proofs.lemmas.Bool.{ne_eqb, lt-ltb, le-leb, cases_eq}
use Rattle.std.proofs.lemmas.Fmt.{decimal_is_IsNumeral, first_decimal, decimal_digit}
use Rattle.std.proofs.lemmas.Str.Parse.{digit_at}
use Rattle.std.specs.Fmt.{decimal, signed_decimal}
use Rattle.std.specs.List.{prefix_len, AllByRecursion}
use Rattle.std.specs.Str.Parse.{digits_value, AllDigits}
use Rattle.plan_text.proofs.ReadBack.{found_read, take_front}
use Rattle.plan_ir.specs.gql_lex.declared.tokens.TokenKind.TheVariants.{Int}
use Rattle.plan_ir.specs.gql_lex.Characters.{is_digit, is_float_mark, is_ignored, is_punctuator}
use Rattle.plan_ir.specs.gql_plain.Names.{is_name_byte, is_name_start}
use Rattle.plan_ir.specs.gql_lex.Heads.{head, number, int_before, string_head}
use Rattle.plan_ir.specs.gql_lex.Numbers.{sign_len, digits_len, int_value, is_in_i64}
use Rattle.plan_ir.specs.gql_lex.Toks.{Tok, tokens_of, tok_of}
use Rattle.plan_ir.specs.gql_lex.Toks as tok

-- what may follow a number: no byte of a name, and no full stop
pub record Ends (rest : List ℕ) : Type 0 where
  pub digit : prefix_len is_digit rest ≡ 0
  pub name : is_name_byte (get_or rest 0 0) ≡ false
  pub mark : is_float_mark (get_or rest 0 0) ≡ false

prefix_of : (xs rest : List ℕ) → AllByRecursion (λ x. is_digit x ≡ true) xs → prefix_len is_digit rest ≡ 0 → prefix_len is_digit (xs ++ rest) ≡ length xs
prefix_of [] rest all stop = stop
prefix_of (x ∷ xs) rest all stop =
    ap (λ b. cond b (1 + prefix_len is_digit (xs ++ rest)) 0) all.0 ∙ ap (λ n. 1 + n) (prefix_of xs rest all.1 stop) ∙ omega arith

drop_front : (xs rest : List ℕ) → drop (length xs) (xs ++ rest) ≡ rest
drop_front [] rest = refl
drop_front (x ∷ xs) rest = drop_front xs rest

digit_is_no : (c : ℕ) → is_digit c ≡ true → (is_ignored c ≡ false) × ((eqb c 239 ≡ false) × ((eqb c 35 ≡ false) × ((is_punctuator c ≡ false) × ((eqb c 46 ≡ false) × ((is_name_start c ≡ false) × (eqb c 45 ≡ false))))))
digit_is_no c h = (grind (arith, nat_tests), (grind (arith, nat_tests), (grind (arith, nat_tests), (grind (arith, nat_tests), (grind (arith, nat_tests), (grind (arith, nat_tests), grind (arith, nat_tests)))))))

or-true : (a : Bool) → (a || true) ≡ true
or-true true = refl
or-true false = refl

-- a digit begins a number
head_digit : (c : ℕ) (cs : List ℕ) → is_digit c ≡ true → head (c ∷ cs) ≡ number (c ∷ cs)
unfolding head
head_digit c cs h =
    let n = digit_is_no c h in
    rw (n.0, n.1.0, n.1.1.0, n.1.1.1.0, n.1.1.1.1.0, n.1.1.1.1.1.0, n.1.1.1.1.1.1, h) refl

-- digits that begin with 0 only where they are one
abbrev pub Leads : List ℕ → Type 0
Leads [] = ⊥
Leads (c ∷ xs) = eqb c 48 ≡ true → xs ≡ []

digits_len_is : (c : ℕ) (xs rest : List ℕ) → AllByRecursion (λ x. is_digit x ≡ true) (c ∷ xs) → Leads (c ∷ xs) → prefix_len is_digit rest ≡ 0
    → digits_len (c ∷ (xs ++ rest)) ≡ length (c ∷ xs)
digits_len_is c xs rest all leads stop = at (eqb c 48) refl
  where
    at : (b : Bool) → eqb c 48 ≡ b → cond b 1 (prefix_len is_digit (c ∷ (xs ++ rest))) ≡ length (c ∷ xs)
    at true e = ap (λ ys. length (c ∷ ys)) (sym (leads e))
    at false e = prefix_of (c ∷ xs) rest all stop

number_is : (bs text rest : List ℕ) (s d k : ℕ) → sign_len bs ≡ s → digits_len (drop s bs) ≡ d → eqb d 0 ≡ false → take (s + d) bs ≡ text → drop (s + d) bs ≡ rest
    → Ends rest → is_in_i64 text ≡ true → length text - 1 ≡ 0 + k → number bs ≡ string_head Int 0 (Ok k)
unfolding number int_before
number_is bs text rest s d k a b z t r ends fits less = rw (a, b, z, t, r, ends.mark, ends.name, fits, less) refl

-- digits, where no byte of a number or a name follows
pub digits_read : (ds rest : List ℕ) → AllByRecursion (λ x. is_digit x ≡ true) ds → Leads ds → digits_value 10 ds < 2 ^ 63 → Ends rest
    → tokens_of (ds ++ rest) ≡ option_map (λ ts. tok.int (pos (digits_value 10 ds)) ∷ ts) (tokens_of rest)
digits_read [] rest all leads small ends = absurd leads
digits_read (c ∷ xs) rest all leads small ends =
    let no = digit_is_no c all.0 in
    let minus = no.1.1.1.1.1.1 in
    let fits : is_in_i64 (c ∷ xs) ≡ true = rw minus (lt-ltb (digits_value 10 (c ∷ xs)) (2 ^ 63) small) in
    let count = digits_len_is c xs rest all leads ends.digit in
    let more : 0 + length (c ∷ xs) ≡ length (c ∷ xs) = omega arith in
    let some : eqb (length (c ∷ xs)) 0 ≡ false = ne_eqb (length (c ∷ xs)) 0 (λ e. omega arith) in
    let less : length (c ∷ xs) - 1 ≡ 0 + length xs = omega arith in
    let front : head (c ∷ (xs ++ rest)) ≡ string_head Int 0 (Ok (length xs)) =
    head_digit c (xs ++ rest) all.0
    ∙ number_is (c ∷ (xs ++ rest)) (c ∷ xs) rest 0 (length (c ∷ xs)) (length xs) (ap (λ b. cond b 1 0) minus) count some
    (ap (λ n. take n (c ∷ (xs ++ rest))) more ∙ take_front (c ∷ xs) rest) (ap (λ n. drop n (c ∷ (xs ++ rest))) more ∙ drop_front (c ∷ xs) rest) ends fits less in
    let is : int_value (c ∷ xs) ≡ pos (digits_value 10 (c ∷ xs)) = rw minus refl in
    found_read Int c xs rest front ∙ ap (λ z. option_map (λ ts. tok.int z ∷ ts) (tokens_of rest)) is

-- a minus in front
pub minus_read : (ds rest : List ℕ) → AllByRecursion (λ x. is_digit x ≡ true) ds → Leads ds → digits_value 10 ds ≤ 2 ^ 63 → Ends rest
    → tokens_of (45 ∷ (ds ++ rest)) ≡ option_map (λ ts. tok.int (int_value (45 ∷ ds)) ∷ ts) (tokens_of rest)
unfolding head
minus_read [] rest all leads small ends = absurd leads
minus_read (c ∷ xs) rest all leads small ends =
    let fits : is_in_i64 (45 ∷ c ∷ xs) ≡ true = le-leb (digits_value 10 (c ∷ xs)) (2 ^ 63) small in
    let count = digits_len_is c xs rest all leads ends.digit in
    let more : 1 + length (c ∷ xs) ≡ length (45 ∷ c ∷ xs) = omega arith in
    let some : eqb (length (c ∷ xs)) 0 ≡ false = ne_eqb (length (c ∷ xs)) 0 (λ e. omega arith) in
    let less : length (45 ∷ c ∷ xs) - 1 ≡ 0 + length (c ∷ xs) = omega arith in
    let front : head (45 ∷ ((c ∷ xs) ++ rest)) ≡ string_head Int 0 (Ok (length (c ∷ xs))) =
    number_is (45 ∷ ((c ∷ xs) ++ rest)) (45 ∷ c ∷ xs) rest 1 (length (c ∷ xs)) (length (c ∷ xs)) refl count some
    (ap (λ n. take n (45 ∷ ((c ∷ xs) ++ rest))) more ∙ take_front (45 ∷ c ∷ xs) rest) (ap (λ n. drop n (45 ∷ ((c ∷ xs) ++ rest))) more ∙ drop_front (45 ∷ c ∷ xs) rest) ends fits less in
    found_read Int 45 (c ∷ xs) rest front

-- ---- the numbers of 64 bits

all_digits : (ds : List ℕ) → AllDigits 10 ds → AllByRecursion (λ x. is_digit x ≡ true) ds
all_digits [] h = tt
all_digits (d ∷ ds) h =
    let low = digit_at (d ∷ ds) 0 h (omega arith) in
    (grind (arith, nat_tests), all_digits ds h.1)

leads_above : (ds : List ℕ) → 0 < length ds → 48 < get_or ds 0 0 → Leads ds
leads_above [] some h = absurd (omega arith)
leads_above (c ∷ xs) some h = λ e. absurd (true≢false (sym e ∙ ne_eqb c 48 (λ same. omega arith)))

leads_decimal : (n : ℕ) → n < 2 ^ 64 → Leads (decimal n)
leads_decimal n small = at (cases_eq n 0)
  where
    at : (n ≡ 0) ⊎ (n ≡ 0 → ⊥) → Leads (decimal n)
    at (inl e) = subst (λ k. Leads (decimal k)) (sym e) (subst Leads (sym (decimal_digit 0 (omega arith))) (λ h. refl))
    at (inr ne) = leads_above (decimal n) (decimal_is_IsNumeral n small).0.0 (first_decimal n (omega arith) small)

abbrev pub IsInRange64 : ℤ → Type 0
IsInRange64 (pos n) = n < 2 ^ 63
IsInRange64 (negsuc n) = n < 2 ^ 63

pub int_read : (z : ℤ) (rest : List ℕ) → IsInRange64 z → Ends rest → tokens_of (signed_decimal z ++ rest) ≡ option_map (λ ts. tok.int z ∷ ts) (tokens_of rest)
int_read (pos n) rest small ends =
    let numeral = decimal_is_IsNumeral n (omega arith) in
    let less : digits_value 10 (decimal n) < 2 ^ 63 = subst (λ k. k < 2 ^ 63) (sym numeral.1) small in
    digits_read (decimal n) rest (all_digits (decimal n) numeral.0.1) (leads_decimal n (omega arith)) less ends
    ∙ ap (λ k. option_map (λ ts. tok.int (pos k) ∷ ts) (tokens_of rest)) numeral.1
int_read (negsuc n) rest small ends =
    let numeral = decimal_is_IsNumeral (suc n) (omega arith) in
    let le : suc n ≤ 2 ^ 63 = omega arith in
    let less : digits_value 10 (decimal (suc n)) ≤ 2 ^ 63 = subst (λ k. k ≤ 2 ^ 63) (sym numeral.1) le in
    minus_read (decimal (suc n)) rest (all_digits (decimal (suc n)) numeral.0.1) (leads_decimal (suc n) (omega arith)) less ends
    ∙ ap (λ k. option_map (λ ts. tok.int (neg_ℤ (pos k)) ∷ ts) (tokens_of rest)) numeral.1
