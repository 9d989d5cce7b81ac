-- The tokens of nodes are those of the pieces of the text at which the nodes begin.
use Rattle.std.proofs.Common.{◌≡◌, ◌⊎◌, inl, inr, ℕ, zero, suc, Bool, true, false, cond, ◌==◌, List, [], ◌∷◌, ◌++◌, map, replicate, slice_index, length, Option, Some, None, option_map, refl, ap, sym, ◌∙◌, subst}
use Rattle.std.proofs.lemmas.List.{map-append, append-nil, append_assoc}
use Rattle.gql_parse.specs.gql_ast.declared.place.FilePlace.{FilePlace}
use Rattle.schema_types.specs.gql_graph.Texts.{Text}
use Rattle.gql_parse.specs.gql_lex.Sources.{Piece, Source, ended, faulty, token}
use Rattle.gql_parse.specs.gql_lex.Toks as tok
use Rattle.gql_parse.specs.gql_lex.Toks.{Tok, tok_of, tok_of_piece, punctuator_of, toks_of}
use Rattle.gql_parse.specs.gql_lex.declared.tokens.TokenKind.{TokenKind}
use Rattle.gql_parse.specs.gql_lex.declared.tokens.TokenKind.TheVariants as K
use Rattle.gql_parse.specs.gql_syntax.Places.{file_place, place_nodes}
use Rattle.text_places.specs.Naming.{node_pieces, element_at, element_from}
use Rattle.text_places.proofs.TokenSteps.{node_tokens}

map-replicate : {A B : Type 0} (f : A → B) (n : ℕ) (a : A) → map f (replicate n a) ≡ replicate n (f a)
map-replicate f zero a = refl
map-replicate f (suc n) a = ap (λ bs. f a ∷ bs) (map-replicate f n a)

-- ---- tokens

abbrev tokens_in : List (Tok × ℕ) → List Tok
tokens_in xs = map (λ (x : Tok × ℕ). x.0) xs

abbrev counts_in : List (Tok × ℕ) → List ℕ
counts_in xs = map (λ (x : Tok × ℕ). x.1) xs

pub piece_tokens : (xs : List (Tok × ℕ)) (s : Source) → toks_of s ≡ Some (tokens_in xs) → map tok_of_piece (node_pieces (counts_in xs) s) ≡ node_tokens xs
piece_tokens [] s e = refl
piece_tokens (x ∷ xs) ended e = absurd (let h : [] ≡ x.0 ∷ tokens_in xs = cc e in cc h)
piece_tokens (x ∷ xs) (faulty code at) e = absurd cc
piece_tokens (x ∷ xs) (token p rest) e = on_rest (toks_of rest) refl e (λ d. piece_tokens xs rest d) where
  on_rest : (o : Option (List Tok)) → toks_of rest ≡ o → option_map (λ ts. tok_of_piece p ∷ ts) o ≡ Some (x.0 ∷ tokens_in xs)
      → (toks_of rest ≡ Some (tokens_in xs) → map tok_of_piece (node_pieces (counts_in xs) rest) ≡ node_tokens xs)
      → map tok_of_piece (replicate x.1 p ++ node_pieces (counts_in xs) rest) ≡ replicate x.1 x.0 ++ node_tokens xs
  on_rest None d f next = absurd cc
  on_rest (Some us) d f next =
      let whole : tok_of_piece p ∷ us ≡ x.0 ∷ tokens_in xs = cc f in
      let first : tok_of_piece p ≡ x.0 = cc whole in
      let later : us ≡ tokens_in xs = cc whole in
      map-append tok_of_piece (replicate x.1 p) (node_pieces (counts_in xs) rest)
      ∙ ap (λ ts. ts ++ map tok_of_piece (node_pieces (counts_in xs) rest)) (map-replicate tok_of_piece x.1 p ∙ ap (replicate x.1) first)
      ∙ ap (λ ts. replicate x.1 x.0 ++ ts) (next (d ∙ ap Some later))

-- ---- places

pub piece_places : (file : ℕ) (text : List ℕ) (there : List FilePlace) (ns : List ℕ) (s : Source)
    → place_nodes file text there ns s ≡ there ++ map (λ (p : Piece). file_place file text p.start) (node_pieces ns s)
piece_places file text there [] s = sym (append-nil there)
piece_places file text there (n ∷ ns) ended = sym (append-nil there)
piece_places file text there (n ∷ ns) (faulty code at) = sym (append-nil there)
piece_places file text there (n ∷ ns) (token p rest) =
    let at = λ (q : Piece). file_place file text q.start in
    piece_places file text (there ++ replicate n (at p)) ns rest ∙ append_assoc there (replicate n (at p)) (map at (node_pieces ns rest))
    ∙ ap (λ ps. there ++ ps) (sym (map-append at (replicate n p) (node_pieces ns rest) ∙ ap (λ ps. ps ++ map at (node_pieces ns rest)) (map-replicate at n p)))

pub element_map : {A B : Type 0} (f : A → B) (ps : List A) (at : ℕ) (p : A) → element_at ps at ≡ Some p → element_at (map f ps) at ≡ Some (f p)
element_map f [] at p e = absurd cc
element_map f (q ∷ ps) zero p e = let same : q ≡ p = cc e in ap (λ r. Some (f r)) same
element_map f (q ∷ ps) (suc at) p e = element_map f ps at p e

-- the element that was mapped
pub piece_at : {A B : Type 0} (f : A → B) (ps : List A) (at : ℕ) (b : B) → element_at (map f ps) at ≡ Some b → (p : A) × (element_at ps at ≡ Some p) × (f p ≡ b)
piece_at f [] at b e = absurd cc
piece_at f (q ∷ ps) zero b e = (q, refl, cc e)
piece_at f (q ∷ ps) (suc at) b e = piece_at f ps at b e

-- ---- elements that others stand before

pub element_from-map : {A B : Type 0} (f : A → B) (first : ℕ) (ps : List A) (at : ℕ) (p : A) → element_from first ps at ≡ Some p → element_from first (map f ps) at ≡ Some (f p)
element_from-map f zero ps at p e = element_map f ps at p e
element_from-map f (suc k) ps zero p e = absurd cc
element_from-map f (suc k) ps (suc at) p e = element_from-map f k ps at p e

in_front : {A : Type 0} (xs more : List A) (at : ℕ) (a : A) → element_at xs at ≡ Some a → element_at (xs ++ more) at ≡ Some a
in_front [] more at a e = absurd cc
in_front (b ∷ xs) more zero a e = e
in_front (b ∷ xs) more (suc at) a e = in_front xs more at a e

-- what stands behind `first` others has the number that is counted from there
pub between : {A : Type 0} (before xs more : List A) (at : ℕ) (a : A) → element_from (length before) xs at ≡ Some a → element_at (before ++ (xs ++ more)) at ≡ Some a
between [] xs more at a e = in_front xs more at a e
between (b ∷ before) xs more zero a e = absurd cc
between (b ∷ before) xs more (suc at) a e = between before xs more at a e

-- behind others that are all the same, and are not this one
pub behind_same : {A B : Type 0} (f : A → B) (other : B) (first : ℕ) (ps : List A) (at : ℕ) (b : B) → element_at (replicate first other ++ map f ps) at ≡ Some b → (other ≡ b → ⊥)
    → (p : A) × (element_from first ps at ≡ Some p) × (f p ≡ b)
behind_same f other zero ps at b e apart = piece_at f ps at b e
behind_same f other (suc k) ps zero b e apart = absurd (apart (cc e))
behind_same f other (suc k) ps (suc at) b e apart = behind_same f other k ps at b e apart

-- ---- kinds

-- a punctuator bears no text
abbrev Bare : Tok → Type 0
Bare (tok.name n) = ⊥
Bare (tok.text t) = ⊥
Bare t = Unit {0}

bare_cond : (b : Bool) (t u : Tok) → Bare t → Bare u → Bare (cond b t u)
bare_cond true t u h g = h
bare_cond false t u h g = g

punctuators_bare : (c : ℕ) → Bare (punctuator_of c)
punctuators_bare c =
    bare_cond (c == 33) _ _ tt (bare_cond (c == 36) _ _ tt (bare_cond (c == 38) _ _ tt (bare_cond (c == 40) _ _ tt (bare_cond (c == 41) _ _ tt
    (bare_cond (c == 46) _ _ tt (bare_cond (c == 58) _ _ tt (bare_cond (c == 61) _ _ tt (bare_cond (c == 64) _ _ tt (bare_cond (c == 91) _ _ tt
    (bare_cond (c == 93) _ _ tt (bare_cond (c == 123) _ _ tt (bare_cond (c == 124) tok.bar tok.close_brace tt tt))))))))))))

pub name_piece : (k : TokenKind) (bs n : Text) → tok_of k bs ≡ tok.name n → (k ≡ K.Name) × (bs ≡ n)
name_piece K.Punct bs n e = absurd (subst Bare e (punctuators_bare (slice_index bs 0)))
name_piece K.Name bs n e = (refl, cc e)
name_piece K.Int bs n e = absurd cc
name_piece K.Text bs n e = absurd cc
name_piece K.Block bs n e = absurd cc

pub text_piece : (k : TokenKind) (bs t : Text) → tok_of k bs ≡ tok.text t → (k ≡ K.Text) ⊎ (k ≡ K.Block)
text_piece K.Punct bs t e = absurd (subst Bare e (punctuators_bare (slice_index bs 0)))
text_piece K.Name bs t e = absurd cc
text_piece K.Int bs t e = absurd cc
text_piece K.Text bs t e = inl refl
text_piece K.Block bs t e = inr refl
