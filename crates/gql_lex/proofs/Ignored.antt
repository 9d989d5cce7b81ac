-- Ignored text is ignored text where it is cut off behind a part that is ignored.
use Rattle.std.proofs.Common.{◌≡◌, ℕ, zero, suc, ◌+◌, ◌-◌, ◌<◌, ◌≤◌, Bool, true, false, cond, eqb, ◌||◌, List, [], ◌∷◌, length, get_or, take, drop, Result, Ok, Err, lit<, refl, arith, sym, ap, ◌∙◌, ⊎_elim}
use Rattle.std.specs.List.{prefix_len, between}
use Rattle.std.proofs.lemmas.Bool.{cond_both, or_cases, or_left, or_right, eqb-true, eq-eqb, cases_eq}
use Rattle.std.proofs.lemmas.List.{length-drop, length-take, get_or-take, drop-take, drop-drop}
use Rattle.std.proofs.lemmas.List.Sums.{prefix_len-le-length}
use Rattle.gql_lex.specs.declared.tokens.TokenKind.TheVariants.{Punct, Name, Text, Block}
use Rattle.gql_lex.specs.declared.tokens.TokenKind.{TokenKind}
use Rattle.gql_lex.specs.declared.tokens.Head.{Head}
use Rattle.gql_lex.specs.declared.tokens.Head.TheVariants.{Ignored, Found, Wrong}
use Rattle.gql_lex.specs.Characters.{is_line_end, is_punctuator, is_spread, is_mark, is_ignored, is_number_start, is_float_mark, is_two_quotes, may_stand}
use Rattle.gql_plain.specs.Names.{is_name_start, is_name_byte}
use Rattle.gql_lex.specs.Numbers.{sign_len, digits_len, int_len, is_in_i64}
use Rattle.gql_lex.specs.Strings.{text_end, block_end}
use Rattle.gql_lex.specs.Heads.{comment, int_before, number, string, string_head, head}
use Rattle.gql_lex.specs.Sources.{Source, ended, lex_from, read, read_head}
use Rattle.gql_lex.specs.Descriptions.{IsIgnored}
use Rattle.gql_lex.proofs.Reading.{lexed_ignored}
use Rattle.gql_lex.proofs.Fronts.{choice}
use Rattle.gql_lex.proofs.Whole.{step_same, step_kept, three_shorter}

-- ---- the offset does not matter

shift_head : (h : Head) (a b : ℕ) (bs : List ℕ) (go go' : ℕ → Source) → ((n : ℕ) → go n ≡ ended → go' n ≡ ended) → read_head h a bs go ≡ ended → read_head h b bs go' ≡ ended
shift_head (Ignored n) a b bs go go' f e = f n e
shift_head (Found kind n) a b bs go go' f e = cc
shift_head (Wrong code n) a b bs go go' f e = cc

shift : (k a b : ℕ) (bs : List ℕ) → read k a bs ≡ ended → read k b bs ≡ ended
unfolding read
shift k a b [] e = refl
shift (suc k) a b (c ∷ cs) e = shift k (a + 1) (b + 1) cs e
shift zero a b (c ∷ cs) e = shift_head (head (c ∷ cs)) a b (c ∷ cs) _ _ (λ n. shift n (a + 1) (b + 1) cs) e

-- ---- what begins with ignored text

no_int : (text rest : List ℕ) (n : ℕ) → ¬ (int_before text rest ≡ Ignored n)
unfolding int_before
no_int text rest n =
    cond_both (is_float_mark (get_or rest 0 0)) _ _ (λ h. ¬ (h ≡ Ignored n)) (λ _ e. cc)
    (λ _. cond_both (is_name_byte (get_or rest 0 0)) _ _ (λ h. ¬ (h ≡ Ignored n)) (λ _ e. cc)
    (λ _. cond_both (is_in_i64 text) _ _ (λ h. ¬ (h ≡ Ignored n)) (λ _ e. cc) (λ _ e. cc)))

no_number : (bs : List ℕ) (n : ℕ) → ¬ (number bs ≡ Ignored n)
unfolding number
no_number bs n =
    cond_both (eqb (digits_len (drop (sign_len bs) bs)) 0) _ _ (λ h. ¬ (h ≡ Ignored n)) (λ _ e. cc)
    (λ _ e. no_int (take (int_len bs) bs) (drop (int_len bs) bs) n e)

no_end : (kind : TokenKind) (more : ℕ) (r : Result ℕ ℕ) (n : ℕ) → ¬ (string_head kind more r ≡ Ignored n)
no_end kind more (Ok m) n e = cc
no_end kind more (Err code) n e = cc

no_string : (cs : List ℕ) (n : ℕ) → ¬ (string cs ≡ Ignored n)
unfolding string
no_string cs n =
    cond_both (is_two_quotes cs) _ _ (λ h. ¬ (h ≡ Ignored n)) (λ _ e. no_end Block 2 (block_end 0 (drop 2 cs)) n e) (λ _ e. no_end Text 0 (text_end 0 cs) n e)

run_cut : (p : ℕ → Bool) (c : ℕ) (m l : ℕ) (b : Bool) → (l ≤ m → l ≤ m) → cond b (1 + l) 0 ≤ suc m → (k : ℕ) → (l ≤ m → k ≡ l) → cond b (1 + k) 0 ≡ cond b (1 + l) 0
run_cut p c m l true i h k f = let e = f (omega arith) in rw e refl
run_cut p c m l false i h k f = refl

run_prefix : (p : ℕ → Bool) (cs : List ℕ) (j : ℕ) → prefix_len p cs ≤ j → prefix_len p (take j cs) ≡ prefix_len p cs
run_prefix p [] zero l = refl
run_prefix p [] (suc j) l = refl
run_prefix p (c ∷ cs) zero l = omega arith
run_prefix p (c ∷ cs) (suc j) l = run_cut p c j (prefix_len p cs) (p c) (λ x. x) l (prefix_len p (take j cs)) (run_prefix p cs j)

comment_cut : (cs : List ℕ) (j : ℕ) → prefix_len may_stand cs ≤ j → ((eqb (length cs) (prefix_len may_stand cs)) || is_line_end (get_or cs (prefix_len may_stand cs) 0)) ≡ true
    → ((eqb (length (take j cs)) (prefix_len may_stand cs)) || is_line_end (get_or (take j cs) (prefix_len may_stand cs) 0)) ≡ true
comment_cut cs j l e =
    let w = prefix_len-le-length may_stand cs in
    ⊎_elim
    (λ q. or_left (eqb (length (take j cs)) (prefix_len may_stand cs)) (is_line_end (get_or (take j cs) (prefix_len may_stand cs) 0)) (eq-eqb (length (take j cs)) (prefix_len may_stand cs) (omega (arith, length-take j cs))))
    (λ q. ⊎_elim
    (λ a. let s = eqb-true (length cs) (prefix_len may_stand cs) a in
    or_left (eqb (length (take j cs)) (prefix_len may_stand cs)) (is_line_end (get_or (take j cs) (prefix_len may_stand cs) 0)) (eq-eqb (length (take j cs)) (prefix_len may_stand cs) (omega (arith, length-take j cs))))
    (λ b. let g = get_or-take j cs (prefix_len may_stand cs) 0 (omega arith) in
    let t : is_line_end (get_or (take j cs) (prefix_len may_stand cs) 0) ≡ true = rw g b in
    or_right (eqb (length (take j cs)) (prefix_len may_stand cs)) (is_line_end (get_or (take j cs) (prefix_len may_stand cs) 0)) t)
    (or_cases (eqb (length cs) (prefix_len may_stand cs)) (is_line_end (get_or cs (prefix_len may_stand cs) 0)) e))
    (cases_eq j (prefix_len may_stand cs))

no_wrong : (m n : ℕ) → ¬ (Wrong 1 m ≡ Ignored n)
no_wrong m n e = cc

comment_kept : (cs : List ℕ) (n j : ℕ) → n ≤ j → comment cs ≡ Ignored n → comment (take j cs) ≡ Ignored n
unfolding comment
comment_kept cs n j l e = ⊎_elim
    (λ w. let q : prefix_len may_stand cs ≡ n = let f = w.1 in cc in
    let r = run_prefix may_stand cs j (omega arith) in
    let t = comment_cut cs j (omega arith) w.0 in
    rw (r, t, q) refl)
    (λ w. absurd (no_wrong (1 + prefix_len may_stand cs) n w.1))
    (choice ((eqb (length cs) (prefix_len may_stand cs)) || is_line_end (get_or cs (prefix_len may_stand cs) 0)) _ _ _ e)

mark_kept : (bs : List ℕ) (n j : ℕ) → is_mark bs ≡ true → Ignored 2 ≡ Ignored n → n < j → is_mark (take j bs) ≡ true
mark_kept bs n j t e l =
    let q : 2 ≡ n = cc in
    let a = get_or-take j bs 0 0 (omega arith) in
    let b = get_or-take j bs 1 0 (omega arith) in
    let c = get_or-take j bs 2 0 (omega arith) in
    rw (a, b, c) t

no_found : (kind : TokenKind) (m n : ℕ) → ¬ (Found kind m ≡ Ignored n)
no_found kind m n e = cc

head_cut : (c : ℕ) (cs : List ℕ) (n j : ℕ) → n ≤ j → head (c ∷ cs) ≡ Ignored n → head (c ∷ take j cs) ≡ Ignored n
unfolding head
head_cut c cs n j l e =
    step_same (is_ignored c) (Ignored 0) (Ignored 0) _ _ (Ignored n) (λ x. x)
    (step_kept (is_mark (c ∷ cs)) (is_mark (c ∷ take j cs)) (Ignored 2) (Ignored 2) _ _ (Ignored n) (λ t x. (mark_kept (c ∷ cs) n (suc j) t x (omega arith), x))
    (λ f. three_shorter (c ∷ cs) (suc j) 239 187 191 (lit< tt) (lit< tt) (lit< tt) f)
    (step_same (eqb c 35) (comment cs) (comment (take j cs)) _ _ (Ignored n) (λ x. comment_kept cs n j l x)
    (step_same (is_punctuator c) (Found Punct 0) (Found Punct 0) _ _ (Ignored n) (λ x. x)
    (step_kept (is_spread (c ∷ cs)) (is_spread (c ∷ take j cs)) (Found Punct 2) (Found Punct 2) _ _ (Ignored n) (λ t x. absurd (no_found Punct 2 n x))
    (λ f. three_shorter (c ∷ cs) (suc j) 46 46 46 (lit< tt) (lit< tt) (lit< tt) f)
    (step_same (is_name_start c) _ _ _ _ (Ignored n) (λ x. absurd (no_found Name _ n x))
    (step_same (is_number_start c) _ _ _ _ (Ignored n) (λ x. absurd (no_number (c ∷ cs) n x))
    (step_same (eqb c 34) _ _ (Wrong 1 0) (Wrong 1 0) (Ignored n) (λ x. absurd (no_string cs n x)) (λ x. x)))))))) e

ignored_cut : (bs : List ℕ) (n m : ℕ) → 0 < length bs → n < m → head bs ≡ Ignored n → head (take m bs) ≡ Ignored n
ignored_cut [] n m h l e = absurd (omega arith)
ignored_cut (c ∷ cs) n zero h l e = absurd (omega arith)
ignored_cut (c ∷ cs) n (suc j) h l e = head_cut c cs n j (omega arith) e

pub gap_none : (bs : List ℕ) (at to : ℕ) → to ≤ at → IsIgnored (between at to bs)
unfolding read
gap_none bs at to l = let z : to - at ≡ 0 = omega arith in rw z refl

-- ignored text before ignored text
pub gap_more : (bs : List ℕ) (at n to : ℕ) → at + n < length bs → Ignored n ≡ head (drop at bs) → at + (1 + n) ≤ to → to ≤ length bs
    → IsIgnored (between (at + (1 + n)) to bs) → IsIgnored (between at to bs)
gap_more bs at n to l e m w g =
    let k : to - at ≡ 1 + n + (to - (at + (1 + n))) = omega arith in
    let s : 0 < length (take (to - at) (drop at bs)) = omega (arith, length-take (to - at) (drop at bs), length-drop at bs) in
    let h = ignored_cut (drop at bs) n (to - at) (omega (arith, length-drop at bs)) (omega arith) (sym e) in
    let x = lexed_ignored 0 n (take (to - at) (drop at bs)) s (sym h) in
    let y : drop (1 + n) (take (to - at) (drop at bs)) ≡ take (to - (at + (1 + n))) (drop (at + (1 + n)) bs)
    = ap (λ z. drop (1 + n) (take z (drop at bs))) k ∙ drop-take (1 + n) (to - (at + (1 + n))) (drop at bs) ∙ ap (λ z. take (to - (at + (1 + n))) z) (drop-drop (1 + n) at bs) in
    x ∙ ap (λ z. lex_from (0 + (1 + n)) z) y ∙ shift 0 0 (0 + (1 + n)) (take (to - (at + (1 + n))) (drop (at + (1 + n)) bs)) g
