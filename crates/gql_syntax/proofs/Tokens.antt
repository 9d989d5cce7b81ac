-- The tokens by cases, and what comes next in a source.
use Rattle.std.proofs.Common.{◌≡◌, ◌<◌, ◌≤◌, ℕ, true, false, List, Some, None, refl, sym, arith}
use Rattle.std.proofs.lemmas.Bool.{eqb-true}
use Rattle.gql_lex.specs.Sources.{Piece, Source, ended, faulty, token}
use Rattle.gql_lex.specs.Toks.{Tok, bang, dollar, ampersand, open_paren, close_paren, spread, colon, equals, at_sign, open_bracket, close_bracket, open_brace, bar, close_brace, name, int, text, punctuator_of, tok_of_piece}
use Rattle.std.specs.Prelude.{ℤ}
use Rattle.gql_syntax.specs.Nexts.{behind, is_at, word_of, is_punctuator, next_is, next_word, next_is_punctuator, Comes, token_count}

pub by_tok : (P : Tok → Type 0) → P bang → P dollar → P ampersand → P open_paren → P close_paren → P spread → P colon → P equals → P at_sign
    → P open_bracket → P close_bracket → P open_brace → P bar → P close_brace → ((n : List ℕ) → P (name n)) → ((n : ℤ) → P (int n)) → ((t : List ℕ) → P (text t)) → (t : Tok) → P t
by_tok P a b c d e f g h i j k l m n o p q bang = a
by_tok P a b c d e f g h i j k l m n o p q dollar = b
by_tok P a b c d e f g h i j k l m n o p q ampersand = c
by_tok P a b c d e f g h i j k l m n o p q open_paren = d
by_tok P a b c d e f g h i j k l m n o p q close_paren = e
by_tok P a b c d e f g h i j k l m n o p q spread = f
by_tok P a b c d e f g h i j k l m n o p q colon = g
by_tok P a b c d e f g h i j k l m n o p q equals = h
by_tok P a b c d e f g h i j k l m n o p q at_sign = i
by_tok P a b c d e f g h i j k l m n o p q open_bracket = j
by_tok P a b c d e f g h i j k l m n o p q close_bracket = k
by_tok P a b c d e f g h i j k l m n o p q open_brace = l
by_tok P a b c d e f g h i j k l m n o p q bar = m
by_tok P a b c d e f g h i j k l m n o p q close_brace = n
by_tok P a b c d e f g h i j k l m n o p q (name w) = o w
by_tok P a b c d e f g h i j k l m n o p q (int w) = p w
by_tok P a b c d e f g h i j k l m n o p q (text w) = q w

pub at_is : (c : ℕ) (t : Tok) → is_at c t ≡ true → t ≡ punctuator_of c
at_is c bang e = rw (sym (eqb-true 33 c e)) refl
at_is c dollar e = rw (sym (eqb-true 36 c e)) refl
at_is c ampersand e = rw (sym (eqb-true 38 c e)) refl
at_is c open_paren e = rw (sym (eqb-true 40 c e)) refl
at_is c close_paren e = rw (sym (eqb-true 41 c e)) refl
at_is c spread e = rw (sym (eqb-true 46 c e)) refl
at_is c colon e = rw (sym (eqb-true 58 c e)) refl
at_is c equals e = rw (sym (eqb-true 61 c e)) refl
at_is c at_sign e = rw (sym (eqb-true 64 c e)) refl
at_is c open_bracket e = rw (sym (eqb-true 91 c e)) refl
at_is c close_bracket e = rw (sym (eqb-true 93 c e)) refl
at_is c open_brace e = rw (sym (eqb-true 123 c e)) refl
at_is c bar e = rw (sym (eqb-true 124 c e)) refl
at_is c close_brace e = rw (sym (eqb-true 125 c e)) refl
at_is c (name n) e = cc
at_is c (int n) e = cc
at_is c (text n) e = cc

pub word_is : (n : List ℕ) (t : Tok) → word_of t ≡ Some n → t ≡ name n
word_is n (name m) e = cc
word_is n bang e = cc
word_is n dollar e = cc
word_is n ampersand e = cc
word_is n open_paren e = cc
word_is n close_paren e = cc
word_is n spread e = cc
word_is n colon e = cc
word_is n equals e = cc
word_is n at_sign e = cc
word_is n open_bracket e = cc
word_is n close_bracket e = cc
word_is n open_brace e = cc
word_is n bar e = cc
word_is n close_brace e = cc
word_is n (int m) e = cc
word_is n (text m) e = cc

-- ---- what comes next

pub comes_at : (c : ℕ) (s : Source) → next_is c s ≡ true → Comes s (punctuator_of c)
comes_at c ended e = absurd cc
comes_at c (faulty code at) e = absurd cc
comes_at c (token p rest) e = at_is c (tok_of_piece p) e

pub comes_word : (n : List ℕ) (s : Source) → next_word s ≡ Some n → Comes s (name n)
comes_word n ended e = absurd cc
comes_word n (faulty code at) e = absurd cc
comes_word n (token p rest) e = word_is n (tok_of_piece p) e

pub comes_piece : (s : Source) (p : Piece) → s ≡ token p (behind s) → Comes s (tok_of_piece p)
comes_piece ended p e = absurd cc
comes_piece (faulty code at) p e = absurd cc
comes_piece (token q rest) p e = let f : q ≡ p = cc in rw f refl

pub not_at : (c : ℕ) (s : Source) (t : Tok) → Comes s t → next_is c s ≡ false → is_at c t ≡ false
not_at c ended t h e = absurd h
not_at c (faulty code at) t h e = absurd h
not_at c (token p rest) t h e = rw h at e

pub no_word : (s : Source) (t : Tok) → Comes s t → next_word s ≡ None → word_of t ≡ None
no_word ended t h e = absurd h
no_word (faulty code at) t h e = absurd h
no_word (token p rest) t h e = rw h at e

pub a_punctuator : (s : Source) (t : Tok) → Comes s t → next_is_punctuator s ≡ true → is_punctuator t ≡ true
a_punctuator ended t h e = absurd h
a_punctuator (faulty code at) t h e = absurd h
a_punctuator (token p rest) t h e = rw h at e

-- ---- fewer tokens

pub behind_fewer : (s : Source) → token_count (behind s) ≤ token_count s
behind_fewer ended = omega arith
behind_fewer (faulty code at) = omega arith
behind_fewer (token p rest) = omega arith

pub taken_fewer : (c : ℕ) (s : Source) → next_is c s ≡ true → token_count (behind s) < token_count s
taken_fewer c ended e = absurd cc
taken_fewer c (faulty code at) e = absurd cc
taken_fewer c (token p rest) e = omega arith
