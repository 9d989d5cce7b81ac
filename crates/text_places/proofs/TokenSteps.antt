-- Steps along the tokens of a tree, each with the number of nodes that begin at it.
use Rattle.std.proofs.Common.{◌≡◌, ℕ, zero, suc, ◌+◌, ◌<◌, List, [], ◌∷◌, ◌++◌, length, replicate, Some, refl, ap, sym, ◌∙◌, subst, append_assoc, arith}
use Rattle.std.proofs.lemmas.List.{length-append, length-replicate}
use Rattle.gql_parse.specs.gql_lex.Toks.{Tok}
use Rattle.gql_parse.specs.gql_syntax.Spelling.{Mark}
use Rattle.text_places.specs.Naming.{element_at}

abbrev pub both : Mark (Tok × ℕ)
both t level nodes = (t, nodes)

-- of each token as many as nodes begin at it
abbrev pub node_tokens : List (Tok × ℕ) → List Tok
node_tokens [] = []
node_tokens (x ∷ xs) = replicate x.1 x.0 ++ node_tokens xs

in_replicated : {A : Type 0} (a : A) (n j : ℕ) (more : List A) → j < n → element_at (replicate n a ++ more) j ≡ Some a
in_replicated a zero j more h = absurd (omega (arith, h))
in_replicated a (suc n) zero more h = refl
in_replicated a (suc n) (suc j) more h = in_replicated a n j more (omega (arith, h))

behind : {A : Type 0} (before more : List A) (j : ℕ) → element_at (before ++ more) (length before + j) ≡ element_at more j
behind [] more j = ap (element_at more) (omega arith)
behind (b ∷ bs) more j = let e : length (b ∷ bs) + j ≡ suc (length bs + j) = omega arith in ap (element_at (b ∷ bs ++ more)) e ∙ behind bs more j

-- so many nodes begin before these tokens
pub record At (whole : List Tok) (from : ℕ) (rest : List (Tok × ℕ)) : Type 0 where
  pub before : List Tok
  pub is : whole ≡ before ++ node_tokens rest
  pub count : length before ≡ from

module _ (whole : List Tok) where
  pub move_to : (from to : ℕ) (rest : List (Tok × ℕ)) → from ≡ to → At whole from rest → At whole to rest
  move_to from to rest e a = subst (λ n. At whole n rest) e a

  pub pass : (from : ℕ) (t : Tok) (n : ℕ) (rest : List (Tok × ℕ)) → At whole from ((t, n) ∷ rest) → At whole (from + n) rest
  pass from t n rest a = record {
    before = a.before ++ replicate n t;
    is = a.is ∙ sym (append_assoc a.before (replicate n t) (node_tokens rest));
    count = length-append a.before (replicate n t) ∙ ap (λ k. length a.before + k) (length-replicate n t) ∙ ap (λ k. k + n) a.count;
  }

  -- a token at which no node begins
  pub pass_none : (from : ℕ) (t : Tok) (rest : List (Tok × ℕ)) → At whole from ((t, 0) ∷ rest) → At whole from rest
  pass_none from t rest a = move_to (from + 0) from rest (omega arith) (pass from t 0 rest a)

  -- the token of a node
  pub token_at : (from : ℕ) (t : Tok) (n : ℕ) (rest : List (Tok × ℕ)) (j at : ℕ) → j < n → from + j ≡ at → At whole from ((t, n) ∷ rest) → element_at whole at ≡ Some t
  token_at from t n rest j at h e a =
      let same : length a.before + j ≡ at = ap (λ k. k + j) a.count ∙ e in
      ap (λ ts. element_at ts at) a.is ∙ ap (element_at (a.before ++ node_tokens ((t, n) ∷ rest))) (sym same)
      ∙ behind a.before (node_tokens ((t, n) ∷ rest)) j ∙ in_replicated t n j (node_tokens rest) h
