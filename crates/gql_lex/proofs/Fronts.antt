-- What stands in front of bytes: one principle for `head` and one for each of its parts, by the test that decides.
use Rattle.std.proofs.Common.{◌≡◌, ◌<◌, ℕ, ◌+◌, ◌-◌, ◌⊎◌, Bool, true, false, cond, eqb, ◌&&◌, ◌||◌, List, [], ◌∷◌, length, get_or, take, drop, Result, Ok, Err, refl, sym, subst, arith, inl, inr, ⊎_elim}
use Rattle.std.specs.List.{prefix_len}
use Rattle.std.proofs.lemmas.Bool.{and_parts, cond_both, eqb-true}
use Rattle.gql_lex.specs.declared.tokens.TokenKind.{TokenKind}
use Rattle.gql_lex.specs.declared.tokens.TokenKind.TheVariants.{Punct, Name, Int, Text, Block}
use Rattle.gql_lex.specs.declared.tokens.Head.{Head}
use Rattle.gql_lex.specs.declared.tokens.Head.TheVariants.{Ignored, Found, Wrong}
use Rattle.gql_lex.specs.Characters.{is_ignored, is_mark, is_punctuator, is_spread, is_number_start, is_float_mark, is_line_end, is_two_quotes, may_stand}
use Rattle.gql_plain.specs.Names.{is_name_start, is_name_byte}
use Rattle.gql_lex.specs.Numbers.{sign_len, digits_len, int_len, is_in_i64}
use Rattle.gql_lex.specs.Strings.{text_end, block_end}
use Rattle.gql_lex.specs.Heads.{comment, int_before, number, string, string_head, head}

-- which branch gave the answer
pub choice : {A : Type 0} (b : Bool) (x y z : A) → cond b x y ≡ z → ((b ≡ true) × (x ≡ z)) ⊎ ((b ≡ false) × (y ≡ z))
choice true x y z e = inl (refl, e)
choice false x y z e = inr (refl, e)

-- three bytes that were found by their tests, and what follows them
pub three_bytes : (x y z : ℕ) (bs : List ℕ) → 0 < z → (eqb (get_or bs 0 0) x && eqb (get_or bs 1 0) y && eqb (get_or bs 2 0) z) ≡ true
    → (rest : List ℕ) × (bs ≡ x ∷ y ∷ z ∷ rest)
three_bytes x y z [] l e = absurd (let p = eqb-true 0 z (and_parts (eqb 0 x && eqb 0 y) (eqb 0 z) e).1 in omega (arith, l, p))
three_bytes x y z (a ∷ []) l e = absurd (let p = eqb-true 0 z (and_parts (eqb a x && eqb 0 y) (eqb 0 z) e).1 in omega (arith, l, p))
three_bytes x y z (a ∷ b ∷ []) l e = absurd (let p = eqb-true 0 z (and_parts (eqb a x && eqb b y) (eqb 0 z) e).1 in omega (arith, l, p))
three_bytes x y z (a ∷ b ∷ c ∷ rest) l e =
    let p = and_parts (eqb a x && eqb b y) (eqb c z) e in
    let q = and_parts (eqb a x) (eqb b y) p.0 in
    (rest, λ i. eqb-true a x q.0 i ∷ eqb-true b y q.1 i ∷ eqb-true c z p.1 i ∷ rest)

-- ---- the parts

pub comment_by : (P : Head → Type 0) (cs : List ℕ) → ((n : ℕ) → P (Ignored n)) → ((n : ℕ) → P (Wrong 1 n)) → P (comment cs)
unfolding comment
comment_by P cs ends wrong =
    cond_both ((eqb (length cs) (prefix_len may_stand cs)) || is_line_end (get_or cs (prefix_len may_stand cs) 0)) _ _ P (λ _. ends _) (λ _. wrong _)

int_by : (P : Head → Type 0) (text rest : List ℕ) → ((n : ℕ) → P (Found Int n)) → ((code : ℕ) → P (Wrong code 0)) → P (int_before text rest)
unfolding int_before
int_by P text rest int wrong =
    cond_both (is_float_mark (get_or rest 0 0)) _ _ P (λ _. wrong 3)
    (λ _. cond_both (is_name_byte (get_or rest 0 0)) _ _ P (λ _. wrong 2)
    (λ _. cond_both (is_in_i64 text) _ _ P (λ _. int (length text - 1)) (λ _. wrong 2)))

pub number_by : (P : Head → Type 0) (bs : List ℕ) → ((n : ℕ) → P (Found Int n)) → ((code : ℕ) → P (Wrong code 0)) → P (number bs)
unfolding number
number_by P bs int wrong =
    cond_both (eqb (digits_len (drop (sign_len bs) bs)) 0) _ _ P (λ _. wrong 2) (λ _. int_by P (take (int_len bs) bs) (drop (int_len bs) bs) int wrong)

string_head_by : (P : Head → Type 0) (kind : TokenKind) (more : ℕ) (r : Result ℕ ℕ) → ((n : ℕ) → P (Found kind n)) → ((code : ℕ) → P (Wrong code 0)) → P (string_head kind more r)
string_head_by P kind more (Ok n) ends wrong = ends (more + n)
string_head_by P kind more (Err code) ends wrong = wrong code

pub string_by : (P : Head → Type 0) (cs : List ℕ) → ((n : ℕ) → P (Found Text n)) → ((n : ℕ) → P (Found Block n)) → ((code : ℕ) → P (Wrong code 0)) → P (string cs)
unfolding string
string_by P cs text block wrong =
    cond_both (is_two_quotes cs) _ _ P (λ _. string_head_by P Block 2 (block_end 0 (drop 2 cs)) block wrong) (λ _. string_head_by P Text 0 (text_end 0 cs) text wrong)

-- ---- the whole

pub head_by : (P : Head → Type 0) (bs : List ℕ)
    → (is_ignored (get_or bs 0 0) ≡ true → P (Ignored 0))
    → (is_mark bs ≡ true → P (Ignored 2))
    → (get_or bs 0 0 ≡ 35 → P (comment (drop 1 bs)))
    → (is_punctuator (get_or bs 0 0) ≡ true → P (Found Punct 0))
    → (is_spread bs ≡ true → P (Found Punct 2))
    → (is_name_start (get_or bs 0 0) ≡ true → P (Found Name (prefix_len is_name_byte (drop 1 bs))))
    → (is_number_start (get_or bs 0 0) ≡ true → P (number bs))
    → (get_or bs 0 0 ≡ 34 → P (string (drop 1 bs)))
    → P (Wrong 1 0)
    → P (head bs)
unfolding head
head_by P bs blank mark sign punct spread name digit quote wrong =
    cond_both (is_ignored (get_or bs 0 0)) _ _ P blank
    (λ _. cond_both (is_mark bs) _ _ P mark
    (λ _. cond_both (eqb (get_or bs 0 0) 35) _ _ P (λ e. sign (eqb-true (get_or bs 0 0) 35 e))
    (λ _. cond_both (is_punctuator (get_or bs 0 0)) _ _ P punct
    (λ _. cond_both (is_spread bs) _ _ P spread
    (λ _. cond_both (is_name_start (get_or bs 0 0)) _ _ P name
    (λ _. cond_both (is_number_start (get_or bs 0 0)) _ _ P digit
    (λ _. cond_both (eqb (get_or bs 0 0) 34) _ _ P (λ e. quote (eqb-true (get_or bs 0 0) 34 e)) (λ _. wrong))))))))

-- ---- a token that is found, by its kind

pub found_kind : (k kind : TokenKind) (m n : ℕ) → Found k m ≡ Found kind n → k ≡ kind
found_kind k kind m n e = cc

pub found_len : (k kind : TokenKind) (m n : ℕ) → Found k m ≡ Found kind n → m ≡ n
found_len k kind m n e = cc

pub ignored_found : (m : ℕ) (kind : TokenKind) (n : ℕ) → ¬ (Ignored m ≡ Found kind n)
ignored_found m kind n e = cc

pub wrong_found : (code at : ℕ) (kind : TokenKind) (n : ℕ) → ¬ (Wrong code at ≡ Found kind n)
wrong_found code at kind n e = cc

pub no_comment : (cs : List ℕ) (kind : TokenKind) (n : ℕ) → ¬ (comment cs ≡ Found kind n)
no_comment cs kind n = comment_by (λ h. ¬ (h ≡ Found kind n)) cs (λ m. ignored_found m kind n) (λ m. wrong_found 1 m kind n)

pub number_kind : (bs : List ℕ) (kind : TokenKind) (n : ℕ) → number bs ≡ Found kind n → Int ≡ kind
number_kind bs kind n = number_by (λ h. h ≡ Found kind n → Int ≡ kind) bs (λ m. found_kind Int kind m n) (λ code e. absurd (wrong_found code 0 kind n e))

string_kind : (cs : List ℕ) (kind : TokenKind) (n : ℕ) → string cs ≡ Found kind n → (Text ≡ kind) ⊎ (Block ≡ kind)
string_kind cs kind n =
    string_by (λ h. h ≡ Found kind n → (Text ≡ kind) ⊎ (Block ≡ kind)) cs (λ m e. inl (found_kind Text kind m n e)) (λ m e. inr (found_kind Block kind m n e))
    (λ code e. absurd (wrong_found code 0 kind n e))

-- what the bytes begin with where a token of the kind is found, n bytes behind its first
abbrev pub Begins : List ℕ → TokenKind → ℕ → Type 0
Begins bs Punct n = ((is_punctuator (get_or bs 0 0) ≡ true) × (0 ≡ n)) ⊎ ((is_spread bs ≡ true) × (2 ≡ n))
Begins bs Name n = (is_name_start (get_or bs 0 0) ≡ true) × (prefix_len is_name_byte (drop 1 bs) ≡ n)
Begins bs Int n = number bs ≡ Found Int n
Begins bs Text n = (get_or bs 0 0 ≡ 34) × (string (drop 1 bs) ≡ Found Text n)
Begins bs Block n = (get_or bs 0 0 ≡ 34) × (string (drop 1 bs) ≡ Found Block n)

pub begins : (bs : List ℕ) (kind : TokenKind) (n : ℕ) → head bs ≡ Found kind n → Begins bs kind n
begins bs kind n =
    head_by (λ h. h ≡ Found kind n → Begins bs kind n) bs
    (λ _ e. absurd (ignored_found 0 kind n e))
    (λ _ e. absurd (ignored_found 2 kind n e))
    (λ _ e. absurd (no_comment (drop 1 bs) kind n e))
    (λ p e. subst (λ k. Begins bs k n) (found_kind Punct kind 0 n e) (inl (p, found_len Punct kind 0 n e)))
    (λ p e. subst (λ k. Begins bs k n) (found_kind Punct kind 2 n e) (inr (p, found_len Punct kind 2 n e)))
    (λ p e. subst (λ k. Begins bs k n) (found_kind Name kind _ n e) (p, found_len Name kind _ n e))
    (λ p e. subst (λ k. number bs ≡ Found k n → Begins bs k n) (number_kind bs kind n e) (λ f. f) e)
    (λ p e. ⊎_elim
    (λ k. subst (λ x. string (drop 1 bs) ≡ Found x n → Begins bs x n) k (λ f. (p, f)) e)
    (λ k. subst (λ x. string (drop 1 bs) ≡ Found x n → Begins bs x n) k (λ f. (p, f)) e)
    (string_kind (drop 1 bs) kind n e))
    (λ e. absurd (wrong_found 1 0 kind n e))
