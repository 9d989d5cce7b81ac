-- The places of the nodes that begin at the tokens ahead.
use Rattle.std.specs.Prelude.{slice_index_or}
use Rattle.std.specs.List.{insert}
use Rattle.std.proofs.Common.{◌≡◌, ◌<◌, ◌+◌, ℕ, zero, suc, true, Some, List, [], ◌∷◌, ◌++◌, replicate, refl, ap, sym, ◌∙◌, arith, length, add-one}
use Rattle.std.proofs.lemmas.List.{append_assoc, append-nil, replicate-append-replicate, replicate_more, length-append}
use Rattle.gql_lex.specs.Sources.{Source, ended, faulty, token}
use Rattle.gql_ast.specs.declared.place.FilePlace.{FilePlace}
use Rattle.gql_ast.specs.Ty as ty
use Rattle.gql_ast.specs.Ty.{Ty}
use Rattle.gql_syntax.specs.Nexts.{behind, repeat, IsLast, next_is, next_word}
use Rattle.gql_syntax.specs.Answers.{node_count}
use Rattle.gql_syntax.specs.Spelling.{spell_type}
use Rattle.gql_syntax.specs.Steps.{from, first_again, IsTypeLaid}
use Rattle.gql_syntax.specs.Places.{file_place, place_nodes, Ahead, lay}

-- where no token is ahead nothing is laid
pub placed_last : (file : ℕ) (text : List ℕ) (there : List FilePlace) (ns : List ℕ) (s : Source) → IsLast s → place_nodes file text there ns s ≡ there
placed_last file text there [] s l = refl
placed_last file text there (n ∷ ns) ended l = refl
placed_last file text there (n ∷ ns) (faulty code at) l = refl
placed_last file text there (n ∷ ns) (token p rest) l = absurd l

pub laid_last : (n : ℕ) (ns : List ℕ) (c : Ahead) → IsLast c.source → lay (n ∷ ns) c ≡ lay ns c
laid_last n ns c l = placed_last c.file c.text c.places (n ∷ ns) c.source l ∙ sym (placed_last c.file c.text c.places ns c.source l)

-- a place put before itself
pub insert_repeated : (n : ℕ) (xs : List FilePlace) (x : FilePlace) → x ≡ slice_index_or xs n x → n < length xs → insert xs n x ≡ repeat n xs
insert_repeated n [] x e l = absurd (omega arith)
insert_repeated zero (y ∷ ys) x e l = rw e refl
insert_repeated (suc n) (y ∷ ys) x e l = ap (λ r. y ∷ r) (insert_repeated n ys x e (omega arith))

-- ---- places behind any others

abbrev pub start_of : Source → ℕ
start_of ended = 0
start_of (faulty code at) = 0
start_of (token p rest) = p.start

-- the place of the next token
abbrev pub next_place : Ahead → FilePlace
next_place c = file_place c.file c.text (start_of c.source)

abbrev pub HasNext : Source → Type 0
HasNext ended = ⊥
HasNext (faulty code at) = ⊥
HasNext (token p rest) = Unit {0}

pub next_at : (c : ℕ) (s : Source) → next_is c s ≡ true → HasNext s
next_at c ended e = absurd cc
next_at c (faulty code at) e = absurd cc
next_at c (token p rest) e = tt

pub next_named : (n : List ℕ) (s : Source) → next_word s ≡ Some n → HasNext s
next_named n ended e = absurd cc
next_named n (faulty code at) e = absurd cc
next_named n (token p rest) e = tt

-- a token taken, behind these places
placed_taken : (file : ℕ) (text : List ℕ) (s : Source) (n : ℕ) (ns : List ℕ) (there : List FilePlace) → HasNext s
    → place_nodes file text there (n ∷ ns) s ≡ place_nodes file text (there ++ replicate n (file_place file text (start_of s))) ns (behind s)
placed_taken file text ended n ns there h = absurd h
placed_taken file text (faulty code at) n ns there h = absurd h
placed_taken file text (token p rest) n ns there h = refl

pub laid_taken : (c d : Ahead) (n : ℕ) (ns : List ℕ) (there : List FilePlace) → HasNext c.source → d.file ≡ c.file → d.text ≡ c.text → d.source ≡ behind c.source
    → lay (n ∷ ns) (from there c) ≡ lay ns (from (there ++ replicate n (next_place c)) d)
laid_taken c d n ns there h f t s = placed_taken c.file c.text c.source n ns there h
    ∙ (λ i. place_nodes (sym f i) (sym t i) (there ++ replicate n (next_place c)) ns (sym s i))

pub placed_here : (c d : Ahead) (n : ℕ) → HasNext c.source → ((ns : List ℕ) → lay (n ∷ ns) c ≡ lay ns d) → d.places ≡ c.places ++ replicate n (next_place c)
placed_here c d n h l = sym (l []) ∙ placed_taken c.file c.text c.source n [] c.places h

-- ---- the first place again

pub again_first : {A : Type 0} (n : ℕ) (xs : List A) → first_again n (repeat 0 xs) ≡ repeat 0 (first_again n xs)
again_first zero xs = refl
again_first (suc n) xs = ap (λ ys. repeat 0 ys) (again_first n xs)

more_first : {A : Type 0} (n : ℕ) (x : A) (xs : List A) → repeat 0 (replicate n x ++ x ∷ xs) ≡ replicate (suc n) x ++ x ∷ xs
more_first zero x xs = refl
more_first (suc n) x xs = refl

pub first_again_of : {A : Type 0} (n : ℕ) (x : A) (xs : List A) → first_again n (x ∷ xs) ≡ replicate n x ++ x ∷ xs
first_again_of zero x xs = refl
first_again_of (suc n) x xs = ap (λ ys. repeat 0 ys) (first_again_of n x xs) ∙ more_first n x xs

pub repeated_behind : {A : Type 0} (xs ys : List A) → repeat (length xs) (xs ++ ys) ≡ xs ++ repeat 0 ys
repeated_behind [] ys = refl
repeated_behind (x ∷ xs) ys = ap (λ zs. x ∷ zs) (repeated_behind xs ys)

-- ---- types

repeated_some : {A : Type 0} (xs : List A) → 0 < length xs → 0 < length (repeat 0 xs)
repeated_some [] l = absurd (omega arith)
repeated_some (x ∷ xs) l = omega arith

pub named_laid : (n : List ℕ) (c d : Ahead) → HasNext c.source → d.file ≡ c.file → d.text ≡ c.text → d.source ≡ behind c.source
    → ((ns : List ℕ) → lay (2 ∷ ns) c ≡ lay ns d) → IsTypeLaid (ty.named n) c d
named_laid n c d h f t s l = record {
  added = replicate 2 (next_place c);
  some = omega arith;
  kept = placed_here c d 2 h l;
  lays = λ around above there ns. laid_taken c d (above + 2) ns there h f t s
      ∙ ap (λ xs. lay ns (from (there ++ xs) d)) (sym (replicate-append-replicate above 2 (next_place c)) ∙ sym (first_again_of above (next_place c) (next_place c ∷ [])));
}

-- a token at which no node begins
pub kept_here : (c d : Ahead) → HasNext c.source → ((ns : List ℕ) → lay (0 ∷ ns) c ≡ lay ns d) → d.places ≡ c.places
kept_here c d h l = placed_here c d 0 h l ∙ append-nil c.places

pub laid_none : (c d : Ahead) (ns : List ℕ) (there : List FilePlace) → HasNext c.source → d.file ≡ c.file → d.text ≡ c.text → d.source ≡ behind c.source
    → lay (0 ∷ ns) (from there c) ≡ lay ns (from there d)
laid_none c d ns there h f t s = laid_taken c d 0 ns there h f t s ∙ ap (λ xs. lay ns (from xs d)) (append-nil there)

pub non_null_laid : (x : Ty) (c d e g : Ahead) (m : ℕ) → IsTypeLaid x c d → HasNext d.source → e.file ≡ d.file → e.text ≡ d.text → e.source ≡ behind d.source
    → ((ns : List ℕ) → lay (0 ∷ ns) d ≡ lay ns e) → m ≡ length c.places → g ≡ record e { places = repeat m e.places } → IsTypeLaid (ty.non_null x) c g
non_null_laid x c d e g m l h f t s z q r = record {
  added = repeat 0 l.added;
  some = repeated_some l.added l.some;
  kept = ap (λ a. a.places) r ∙ (λ i. repeat (q i) ((kept_here d e h z ∙ l.kept) i)) ∙ repeated_behind c.places l.added;
  lays = λ around above there ns. l.lays around (above + 1) there (0 ∷ ns)
      ∙ laid_none d e ns (there ++ first_again (above + 1) l.added) h f t s
      ∙ ap (λ xs. lay ns (from (there ++ xs) e)) (ap (λ k. first_again k l.added) (add-one above) ∙ sym (again_first above l.added))
      ∙ ap (λ a. lay ns (from (there ++ first_again above (repeat 0 l.added)) a)) (sym r);
}

pub list_laid : (x : Ty) (c d e g : Ahead) → HasNext c.source → d.file ≡ c.file → d.text ≡ c.text → d.source ≡ behind c.source
    → ((ns : List ℕ) → lay (1 ∷ ns) c ≡ lay ns d) → IsTypeLaid x d e
    → HasNext e.source → g.file ≡ e.file → g.text ≡ e.text → g.source ≡ behind e.source → ((ns : List ℕ) → lay (0 ∷ ns) e ≡ lay ns g) → IsTypeLaid (ty.list x) c g
list_laid x c d e g h f t s z l h' f' t' s' z' = record {
  added = next_place c ∷ l.added;
  some = omega arith;
  kept = kept_here e g h' z' ∙ l.kept ∙ ap (λ xs. xs ++ l.added) (placed_here c d 1 h z) ∙ append_assoc c.places (next_place c ∷ []) l.added;
  lays = λ around above there ns. laid_taken c d (above + 1) (spell_type node_count x (around + 1) 0 (0 ∷ ns)) there h f t s
      ∙ l.lays (around + 1) 0 (there ++ replicate (above + 1) (next_place c)) (0 ∷ ns)
      ∙ laid_none e g ns ((there ++ replicate (above + 1) (next_place c)) ++ l.added) h' f' t' s'
      ∙ ap (λ xs. lay ns (from xs g)) (append_assoc there (replicate (above + 1) (next_place c)) l.added
      ∙ ap (λ xs. there ++ (xs ++ l.added)) (sym (replicate_more above (next_place c)))
      ∙ ap (λ xs. there ++ xs) (append_assoc (replicate above (next_place c)) (next_place c ∷ []) l.added ∙ sym (first_again_of above (next_place c) l.added)));
}

pub type_laid : (x : Ty) (c d : Ahead) → IsTypeLaid x c d → (ns : List ℕ) → lay (spell_type node_count x 0 0 ns) c ≡ lay ns d
type_laid x c d l ns = l.lays 0 0 c.places ns ∙ ap (λ xs. lay ns (from xs d)) (sym l.kept)

pub mark_within : (x : Ty) (c d : Ahead) → IsTypeLaid x c d → length c.places < length d.places
mark_within x c d l = omega (arith, ap length l.kept, length-append c.places l.added, l.some)
