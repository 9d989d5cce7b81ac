-- How the machine of types goes on.
use Rattle.std.proofs.Common.{◌≡◌, ◌<◌, ◌-◌, ℕ, zero, suc, true, false, List, Some, None, Ok, Err, refl, subst, arith}
use Rattle.gql_lex.specs.Sources.{Source, ended, faulty, token}
use Rattle.gql_lex.specs.Toks as tok
use Rattle.gql_lex.specs.Toks.{Tok, tok_of_piece}
use Rattle.gql_ast.specs.Ty as ty
use Rattle.gql_ast.specs.Ty.{Ty}
use Rattle.gql_syntax.specs.Answers.{Tells}
use Rattle.gql_syntax.specs.Machine.{Holder, whole, listed, Typing, want_type, typed, closing}
use Rattle.gql_syntax.specs.Nexts.{behind, stopped_at, too_deep_at, is_at, word_of, next_is, next_word}
use Rattle.gql_syntax.specs.Parts.{Part, goes, done_before, One, type_alone, type_there}
use Rattle.gql_syntax.specs.Run.{unexpected}
use Rattle.gql_syntax.specs.Steps.{type_on, put_type_alone}
use Rattle.gql_syntax.specs.declared.fault.Fault.{Fault}
use Rattle.gql_syntax.proofs.Moves.{Onward, moves, leaves, refuses, refuses_deep, alike}
use Rattle.gql_syntax.proofs.Tokens.{by_tok, comes_at, comes_word, not_at, no_word}

put_onward : (t : Ty) (h : Holder One) → Onward (put_type_alone t h)
put_onward t (whole k) = tt
put_onward t (listed h) = tt

module _ (size : ℕ) (src : Source) where
  pub names_type : (room : ℕ) (h : Holder One) (n : List ℕ) → next_word src ≡ Some n
      → type_on size (goes (want_type room h)) src ≡ type_on size (goes (typed (ty.named n) h)) (behind src)
  names_type room h n e = moves type_alone type_there size (want_type room h) (goes (typed (ty.named n) h)) (tok.name n) src (comes_word n src e) refl tt

  pub opens_type : (room : ℕ) (h : Holder One) → 0 < room → next_is 91 src ≡ true
      → type_on size (goes (want_type room h)) src ≡ type_on size (goes (want_type (room - 1) (listed h))) (behind src)
  opens_type zero h l n = absurd (omega arith)
  opens_type (suc room) h l n =
      let d : suc room - 1 ≡ room = omega arith in
      rw d (moves type_alone type_there size (want_type (suc room) h) (goes (want_type room (listed h))) tok.open_bracket src (comes_at 91 src n) refl tt)

  pub type_too_deep : (h : Holder One) → next_is 91 src ≡ true → type_on size (goes (want_type 0 h)) src ≡ Err (too_deep_at size src)
  type_too_deep h n = refuses_deep type_alone type_there size (want_type 0 h) tok.open_bracket src (comes_at 91 src n) refl

  pub no_type : (room : ℕ) (h : Holder One) → next_is 91 src ≡ false → next_word src ≡ None → type_on size (goes (want_type room h)) src ≡ Err (stopped_at size src)
  no_type room h n w =
      refuses type_alone type_there size (want_type room h) src refl (λ t k.
      by_tok (λ t. is_at 91 t ≡ false → word_of t ≡ None → type_alone (want_type room h) t ≡ Err unexpected)
      (λ _ _. refl) (λ _ _. refl) (λ _ _. refl) (λ _ _. refl) (λ _ _. refl) (λ _ _. refl) (λ _ _. refl) (λ _ _. refl) (λ _ _. refl)
      (λ e _. absurd cc) (λ _ _. refl) (λ _ _. refl) (λ _ _. refl) (λ _ _. refl) (λ _ _ e. absurd cc) (λ _ _ _. refl) (λ _ _ _. refl) t (not_at 91 src t k n) (no_word src t k w))

  -- behind the type that a list type holds
  pub closes_type : (t : Ty) (h : Holder One) → next_is 93 src ≡ true → type_on size (goes (closing t h)) src ≡ type_on size (goes (typed (ty.list t) h)) (behind src)
  closes_type t h n = moves type_alone type_there size (closing t h) (goes (typed (ty.list t) h)) tok.close_bracket src (comes_at 93 src n) refl tt

  pub no_close : (t : Ty) (h : Holder One) → next_is 93 src ≡ false → type_on size (goes (closing t h)) src ≡ Err (stopped_at size src)
  no_close t h n =
      refuses type_alone type_there size (closing t h) src refl (λ x k.
      by_tok (λ x. is_at 93 x ≡ false → type_alone (closing t h) x ≡ Err unexpected)
      (λ _. refl) (λ _. refl) (λ _. refl) (λ _. refl) (λ _. refl) (λ _. refl) (λ _. refl) (λ _. refl) (λ _. refl)
      (λ _. refl) (λ e. absurd cc) (λ _. refl) (λ _. refl) (λ _. refl) (λ _ _. refl) (λ _ _. refl) (λ _ _. refl) x (not_at 93 src x k n))

  pub never_null : (t : Ty) (h : Holder One) → next_is 33 src ≡ true → type_on size (goes (typed t h)) src ≡ type_on size (put_type_alone (ty.non_null t) h) (behind src)
  never_null t h n = moves type_alone type_there size (typed t h) (put_type_alone (ty.non_null t) h) tok.bang src (comes_at 33 src n) refl (put_onward (ty.non_null t) h)

-- where no `!` comes the type ends
pub may_be_null : (size : ℕ) (src : Source) (t : Ty) (h : Holder One) → next_is 33 src ≡ false → type_on size (goes (typed t h)) src ≡ type_on size (put_type_alone t h) src
may_be_null size src t (listed h) n =
    alike type_alone type_there size (typed t (listed h)) (closing t h) src refl (λ x k.
    by_tok (λ x. is_at 33 x ≡ false → type_alone (typed t (listed h)) x ≡ type_alone (closing t h) x)
    (λ e. absurd cc) (λ _. refl) (λ _. refl) (λ _. refl) (λ _. refl) (λ _. refl) (λ _. refl) (λ _. refl) (λ _. refl)
    (λ _. refl) (λ _. refl) (λ _. refl) (λ _. refl) (λ _. refl) (λ _ _. refl) (λ _ _. refl) (λ _ _. refl) x (not_at 33 src x k n))
may_be_null size ended t (whole k) n = refl
may_be_null size (faulty code at) t (whole k) n = refl
may_be_null size (token p rest) t (whole k) n =
    leaves type_alone type_there size (typed t (whole k)) t (tok_of_piece p) (token p rest) refl
    (by_tok (λ x. is_at 33 x ≡ false → type_alone (typed t (whole k)) x ≡ Ok (done_before t))
    (λ e. absurd cc) (λ _. refl) (λ _. refl) (λ _. refl) (λ _. refl) (λ _. refl) (λ _. refl) (λ _. refl) (λ _. refl)
    (λ _. refl) (λ _. refl) (λ _. refl) (λ _. refl) (λ _. refl) (λ _ _. refl) (λ _ _. refl) (λ _ _. refl) (tok_of_piece p) n)

pub same_type_course : (m n : ℕ) (x y : Part (Typing One) Ty) (s u : Source) → m ≡ n → type_on m x s ≡ type_on m y u → type_on n x s ≡ type_on n y u
same_type_course m n x y s u e h = subst (λ k. type_on k x s ≡ type_on k y u) e h

pub resized_tells : (m n : ℕ) (f : Fault) (x : Part (Typing One) Ty) (s : Source) → m ≡ n → Tells f (type_on m x s) → Tells f (type_on n x s)
resized_tells m n f x s e h = subst (λ k. Tells f (type_on k x s)) e h
