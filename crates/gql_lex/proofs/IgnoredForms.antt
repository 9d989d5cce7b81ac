-- What is passed over in front of bytes has the form of ignored text.
use Rattle.std.proofs.Common.{◌≡◌, ℕ, suc, ◌+◌, ◌⊎◌, Bool, true, false, eqb, ◌||◌, List, [], ◌∷◌, length, get_or, take, drop, Result, Ok, Err, refl, sym, ap, ◌∙◌, subst, arith, lit<, inl, inr, ⊎_elim, true≢false}
use Rattle.std.specs.List.{prefix_len, list_all}
use Rattle.std.proofs.lemmas.Bool.{eqb-true}
use Rattle.std.proofs.lemmas.List.{drop_all}
use Rattle.gql_lex.specs.declared.tokens.TokenKind.{TokenKind}
use Rattle.gql_lex.specs.declared.tokens.TokenKind.TheVariants.{Punct, Name, Int, Text, Block}
use Rattle.gql_lex.specs.declared.tokens.Head.TheVariants.{Ignored, Found, Wrong}
use Rattle.gql_lex.specs.Characters.{is_ignored, is_mark, is_line_end, may_stand}
use Rattle.gql_lex.specs.Heads.{comment}
use Rattle.gql_lex.specs.Lexemes.{IsIgnored, IgnoredText}
use Rattle.gql_lex.proofs.Fronts.{choice, three_bytes, number_by, string_by, head_by}
use Rattle.gql_lex.proofs.LongestToken.{run_passes, take_one_more}

-- the form, and where a comment ends
abbrev Passed : List ℕ → ℕ → Type 0
Passed bs n = IsIgnored (take (n + 1) bs) × (get_or bs 0 0 ≡ 35 → (drop (n + 1) bs ≡ []) ⊎ (is_line_end (get_or bs (n + 1) 0) ≡ true))

passed_len : (m n : ℕ) → Ignored m ≡ Ignored n → m ≡ n
passed_len m n e = cc

either : (a b : Bool) → (a || b) ≡ true → (a ≡ true) ⊎ (b ≡ true)
either true b e = inl refl
either false b e = inr e

blank_passed : (bs : List ℕ) (n : ℕ) → is_ignored (get_or bs 0 0) ≡ true → 0 ≡ n → Passed bs n
blank_passed [] n h z = absurd (true≢false (sym h))
blank_passed (c ∷ cs) n h z =
    (subst (λ k. IsIgnored (take (k + 1) (c ∷ cs))) z (inl (c, refl, h)), λ e. absurd (true≢false (sym h ∙ ap is_ignored e)))

mark_passed : (bs : List ℕ) (n : ℕ) → is_mark bs ≡ true → 2 ≡ n → Passed bs n
mark_passed bs n h z =
    let q = three_bytes 239 187 191 bs (lit< tt) h in
    let first : get_or bs 0 0 ≡ 239 = ap (λ xs. get_or xs 0 0) q.1 in
    (subst (λ k. IsIgnored (take (k + 1) bs)) z (inr (inl (ap (take 3) q.1))), λ e. absurd (omega (arith, first, e)))

found_no : (kind : TokenKind) (m n : ℕ) → ¬ (Found kind m ≡ Ignored n)
found_no kind m n e = cc

wrong_no : (code at n : ℕ) → ¬ (Wrong code at ≡ Ignored n)
wrong_no code at n e = cc

comment_passed : (bs : List ℕ) (n : ℕ) → get_or bs 0 0 ≡ 35 → comment (drop 1 bs) ≡ Ignored n → Passed bs n
unfolding comment
comment_passed [] n h e = absurd (omega (arith, h))
comment_passed (c ∷ cs) n h e =
    ⊎_elim (λ w. ends w.0 (passed_len (prefix_len may_stand cs) n w.1)) (λ w. absurd (wrong_no 1 (1 + prefix_len may_stand cs) n w.1))
    (choice (eqb (length cs) (prefix_len may_stand cs) || is_line_end (get_or cs (prefix_len may_stand cs) 0)) _ _ _ e)
  where
    ends : (eqb (length cs) (prefix_len may_stand cs) || is_line_end (get_or cs (prefix_len may_stand cs) 0)) ≡ true → prefix_len may_stand cs ≡ n → Passed (c ∷ cs) n
    ends o m =
        let s : n + 1 ≡ suc n = omega arith in
        let all : list_all may_stand (take n cs) ≡ true = subst (λ k. list_all may_stand (take k cs) ≡ true) m (run_passes may_stand cs) in (
          inr (inr (take n cs, take_one_more n c cs ∙ ap (λ x. x ∷ take n cs) h, all)),
          λ _. ⊎_elim
              (λ l. let k = eqb-true (length cs) (prefix_len may_stand cs) l in inl (ap (λ i. drop i (c ∷ cs)) s ∙ drop_all n cs (omega (arith, k, m))))
              (λ l. inr (rw s (subst (λ i. is_line_end (get_or cs i 0) ≡ true) m l)))
              (either (eqb (length cs) (prefix_len may_stand cs)) (is_line_end (get_or cs (prefix_len may_stand cs) 0)) o),
        )

pub ignored_text : IgnoredText
ignored_text bs n =
    head_by (λ h. h ≡ Ignored n → Passed bs n) bs
    (λ p e. blank_passed bs n p (passed_len 0 n e))
    (λ p e. mark_passed bs n p (passed_len 2 n e))
    (λ p e. comment_passed bs n p e)
    (λ _ e. absurd (found_no Punct 0 n e))
    (λ _ e. absurd (found_no Punct 2 n e))
    (λ _ e. absurd (found_no Name _ n e))
    (λ _. number_by (λ h. h ≡ Ignored n → Passed bs n) bs (λ m e. absurd (found_no Int m n e)) (λ code e. absurd (wrong_no code 0 n e)))
    (λ _. string_by (λ h. h ≡ Ignored n → Passed bs n) (drop 1 bs) (λ m e. absurd (found_no Text m n e)) (λ m e. absurd (found_no Block m n e)) (λ code e. absurd (wrong_no code 0 n e)))
    (λ e. absurd (wrong_no 1 0 n e))
