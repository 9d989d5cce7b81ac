-- Texts written as in JSON are read back.
use Rattle.std.proofs.Common.{◌≡◌, ℕ, zero, suc, ◌+◌, ◌<◌, ◌≤◌, true, false, List, [], ◌∷◌, ◌++◌, length, get_or, option_map, Result, Ok, refl, sym, ap, ◌∙◌, subst, arith, eqb, ◌⊎◌, inl, inr, append_assoc}
use Rattle.std.proofs.lemmas.Bool.{cases_eq, cases_lt, ne_eqb}
use Rattle.std.proofs.lemmas.Bool.Decides.{nat_tests}
use Rattle.std.proofs.lemmas.List.{length-append}
use Rattle.json.specs.Print.{escape_byte, escape, quoted}
use Rattle.json.proofs.Printed.Strings.{escape_byte_plain}
use Rattle.plan_text.proofs.ReadBack.{found_read}
use Rattle.plan_ir.specs.gql_lex.declared.tokens.TokenKind.TheVariants.{Text}
use Rattle.plan_ir.specs.gql_lex.Characters.{is_two_quotes, may_stand}
use Rattle.plan_ir.specs.gql_lex.Heads.{head, string, string_head}
use Rattle.plan_ir.specs.gql_lex.Strings.{text_end, further, escape_len}
use Rattle.plan_ir.specs.gql_lex.Values.{text_value}
use Rattle.plan_ir.specs.gql_lex.Toks.{Tok, tokens_of, tok_of}
use Rattle.plan_ir.specs.gql_lex.Toks as tok
use Rattle.std.specs.Char.{encode_utf8}

-- more bytes, one by one
abbrev furthers : ℕ → Result ℕ ℕ → Result ℕ ℕ
furthers zero r = r
furthers (suc k) r = further 1 (furthers k r)

furthers_ok : (k m : ℕ) → furthers k (Ok m) ≡ Ok (k + m)
furthers_ok zero m = ap Ok (omega arith)
furthers_ok (suc k) m = ap (further 1) (furthers_ok k m) ∙ ap Ok (omega arith)

furthers_on : (k m : ℕ) (r : Result ℕ ℕ) → furthers k (furthers m r) ≡ furthers (k + m) r
furthers_on zero m r =
    let e : m ≡ 0 + m = omega arith in
    ap (λ n. furthers n r) e
furthers_on (suc k) m r =
    let e : suc k + m ≡ suc (k + m) = omega arith in
    ap (further 1) (furthers_on k m r) ∙ ap (λ n. furthers n r) (sym e)

-- what is written for a byte is passed over, says that byte, and begins with no quote
record Passes (x : ℕ) : Type 0 where
  pub ends : (r : List ℕ) → text_end 0 (escape_byte x ++ r) ≡ furthers (length (escape_byte x)) (text_end 0 r)
  pub says : (r : List ℕ) → text_value 0 (escape_byte x ++ r) ≡ x ∷ text_value 0 r
  pub front : (r : List ℕ) → is_two_quotes (escape_byte x ++ r) ≡ false

abbrev Each : (ℕ → Type 0) → ℕ → Type 0
Each P zero = Unit {0}
Each P (suc n) = P n × Each P n

each_sound : (P : ℕ → Type 0) (n : ℕ) → Each P n → (x : ℕ) → x < n → P x
each_sound P zero h x lt = absurd (omega arith)
each_sound P (suc n) h x lt = go (each_sound P n h.1 x) (cases_eq x n)
  where
    go : (x < n → P x) → (x ≡ n) ⊎ (x ≡ n → ⊥) → P x
    go rest (inl e) = subst P (sym e) h.0
    go rest (inr ne) = rest (omega arith)

controls : Each Passes 32
unfolding escape_byte text_end text_value escape_len encode_utf8
controls = (record { ends = λ r. refl; says = λ r. refl; front = λ r. refl }, (record { ends = λ r. refl; says = λ r. refl; front = λ r. refl }, (record { ends = λ r. refl; says = λ r. refl; front = λ r. refl }, (record { ends = λ r. refl; says = λ r. refl; front = λ r. refl }, (record { ends = λ r. refl; says = λ r. refl; front = λ r. refl }, (record { ends = λ r. refl; says = λ r. refl; front = λ r. refl }, (record { ends = λ r. refl; says = λ r. refl; front = λ r. refl }, (record { ends = λ r. refl; says = λ r. refl; front = λ r. refl }, (record { ends = λ r. refl; says = λ r. refl; front = λ r. refl }, (record { ends = λ r. refl; says = λ r. refl; front = λ r. refl }, (record { ends = λ r. refl; says = λ r. refl; front = λ r. refl }, (record { ends = λ r. refl; says = λ r. refl; front = λ r. refl }, (record { ends = λ r. refl; says = λ r. refl; front = λ r. refl }, (record { ends = λ r. refl; says = λ r. refl; front = λ r. refl }, (record { ends = λ r. refl; says = λ r. refl; front = λ r. refl }, (record { ends = λ r. refl; says = λ r. refl; front = λ r. refl }, (record { ends = λ r. refl; says = λ r. refl; front = λ r. refl }, (record { ends = λ r. refl; says = λ r. refl; front = λ r. refl }, (record { ends = λ r. refl; says = λ r. refl; front = λ r. refl }, (record { ends = λ r. refl; says = λ r. refl; front = λ r. refl }, (record { ends = λ r. refl; says = λ r. refl; front = λ r. refl }, (record { ends = λ r. refl; says = λ r. refl; front = λ r. refl }, (record { ends = λ r. refl; says = λ r. refl; front = λ r. refl }, (record { ends = λ r. refl; says = λ r. refl; front = λ r. refl }, (record { ends = λ r. refl; says = λ r. refl; front = λ r. refl }, (record { ends = λ r. refl; says = λ r. refl; front = λ r. refl }, (record { ends = λ r. refl; says = λ r. refl; front = λ r. refl }, (record { ends = λ r. refl; says = λ r. refl; front = λ r. refl }, (record { ends = λ r. refl; says = λ r. refl; front = λ r. refl }, (record { ends = λ r. refl; says = λ r. refl; front = λ r. refl }, (record { ends = λ r. refl; says = λ r. refl; front = λ r. refl }, (record { ends = λ r. refl; says = λ r. refl; front = λ r. refl }, tt))))))))))))))))))))))))))))))))

quote_passes : Passes 34
unfolding escape_byte text_end text_value escape_len encode_utf8
quote_passes = record { ends = λ r. refl; says = λ r. refl; front = λ r. refl }

backslash_passes : Passes 92
unfolding escape_byte text_end text_value escape_len encode_utf8
backslash_passes = record { ends = λ r. refl; says = λ r. refl; front = λ r. refl }

plain_passes : (x : ℕ) → (x ≡ 34 → ⊥) → (x ≡ 92 → ⊥) → 32 ≤ x → Passes x
unfolding text_end text_value
plain_passes x q b l =
    let same = escape_byte_plain x q b l in
    let stands : may_stand x ≡ true = grind (arith, nat_tests) in
    record {
      ends = λ r. rw (same, ne_eqb x 34 q, ne_eqb x 92 b, stands) refl;
      says = λ r. rw (same, ne_eqb x 34 q, ne_eqb x 92 b) refl;
      front = λ r. rw (same, ne_eqb x 34 q) refl;
    }

passes : (x : ℕ) → Passes x
passes x = go (cases_eq x 34) (cases_eq x 92) (cases_lt x 32)
  where
    go : (x ≡ 34) ⊎ (x ≡ 34 → ⊥) → (x ≡ 92) ⊎ (x ≡ 92 → ⊥) → (x < 32) ⊎ (32 ≤ x) → Passes x
    go (inl e) b c = subst Passes (sym e) quote_passes
    go (inr q) (inl e) c = subst Passes (sym e) backslash_passes
    go (inr q) (inr b) (inl c) = each_sound Passes 32 controls x c
    go (inr q) (inr b) (inr l) = plain_passes x q b l

-- a whole text, up to its last quote
text_ends : (s rest : List ℕ) → text_end 0 (escape s ++ 34 ∷ rest) ≡ furthers (length (escape s)) (Ok 1)
unfolding text_end
text_ends [] rest = refl
text_ends (x ∷ s) rest =
    ap (text_end 0) (append_assoc (escape_byte x) (escape s) (34 ∷ rest)) ∙ (passes x).ends (escape s ++ 34 ∷ rest)
    ∙ ap (furthers (length (escape_byte x))) (text_ends s rest) ∙ furthers_on (length (escape_byte x)) (length (escape s)) (Ok 1)
    ∙ ap (λ n. furthers n (Ok 1)) (sym (length-append (escape_byte x) (escape s)))

text_says : (s rest : List ℕ) → text_value 0 (escape s ++ 34 ∷ rest) ≡ s
unfolding text_value
text_says [] rest = refl
text_says (x ∷ s) rest =
    ap (text_value 0) (append_assoc (escape_byte x) (escape s) (34 ∷ rest)) ∙ (passes x).says (escape s ++ 34 ∷ rest) ∙ ap (λ t. x ∷ t) (text_says s rest)

-- three quotes do not stand there, where none follows
no_block : (s rest : List ℕ) → eqb (get_or rest 0 0) 34 ≡ false → is_two_quotes (escape s ++ 34 ∷ rest) ≡ false
no_block [] rest h = h
no_block (x ∷ s) rest h = ap is_two_quotes (append_assoc (escape_byte x) (escape s) (34 ∷ rest)) ∙ (passes x).front (escape s ++ 34 ∷ rest)

string_text : (cs : List ℕ) (n : ℕ) → is_two_quotes cs ≡ false → text_end 0 cs ≡ Ok n → head (34 ∷ cs) ≡ string_head Text 0 (Ok n)
unfolding head string
string_text cs n a b = rw (a, b) refl

-- a text in quotes, where no quote follows
pub text_read : (s rest : List ℕ) → eqb (get_or rest 0 0) 34 ≡ false
    → tokens_of (quoted s ++ rest) ≡ option_map (λ ts. tok.text s ∷ ts) (tokens_of rest)
text_read s rest h =
    let whole : (escape s ++ 34 ∷ []) ++ rest ≡ escape s ++ 34 ∷ rest = append_assoc (escape s) (34 ∷ []) rest in
    let size : length (escape s ++ 34 ∷ []) ≡ length (escape s) + 1 = length-append (escape s) (34 ∷ []) in
    let front : head (34 ∷ ((escape s ++ 34 ∷ []) ++ rest)) ≡ string_head Text 0 (Ok (length (escape s ++ 34 ∷ []))) =
    ap (λ cs. head (34 ∷ cs)) whole
    ∙ string_text (escape s ++ 34 ∷ rest) (length (escape s) + 1) (no_block s rest h) (text_ends s rest ∙ furthers_ok (length (escape s)) 1)
    ∙ ap (λ n. string_head Text 0 (Ok n)) (sym size) in
    found_read Text 34 (escape s ++ 34 ∷ []) rest front
    ∙ ap (λ t. option_map (λ ts. tok.text t ∷ ts) (tokens_of rest)) (text_says s [])
