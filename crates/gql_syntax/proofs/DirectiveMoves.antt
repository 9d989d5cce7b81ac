-- How the machine of directives goes on.
use Rattle.std.proofs.Common.{◌≡◌, ℕ, Bool, true, false, List, [], Some, None, Ok, Err, refl, ap, ◌∙◌}
use Rattle.gql_lex.specs.Sources.{Source, ended, faulty, token}
use Rattle.gql_lex.specs.Toks as tok
use Rattle.gql_lex.specs.Toks.{Tok, tok_of_piece}
use Rattle.gql_ast.specs.Value.{Val}
use Rattle.gql_ast.specs.declared.directive.Directive.{Directive}
use Rattle.gql_syntax.specs.Answers.{Tells, call_read}
use Rattle.gql_syntax.specs.Machine.{Applied, first, further, at_name, applied, arguing, with_arguments}
use Rattle.gql_syntax.specs.Nexts.{behind, stopped_at, is_at, word_of, next_is, next_word}
use Rattle.gql_syntax.specs.Parts.{goes, done_before, One, directives_alone, directives_there}
use Rattle.gql_syntax.specs.Run.{unexpected}
use Rattle.gql_syntax.specs.Steps.{directives_on}
use Rattle.gql_syntax.specs.Texts.{nesting_limit}
use Rattle.gql_syntax.specs.declared.fault.Fault.{Fault}
use Rattle.gql_syntax.specs.declared.fault.Fault.TheVariants.{Wrong, NoMemory}
use Rattle.gql_syntax.proofs.Embedded.{goes_on, behind_arguments, arguments_inside}
use Rattle.gql_syntax.proofs.Moves.{moves, leaves, refuses, alike}
use Rattle.gql_syntax.proofs.Tokens.{by_tok, comes_at, comes_word, not_at, no_word}

module _ (size : ℕ) (c : Bool) (ds : List Directive) (src : Source) where
  pub directive_begins : next_is 64 src ≡ true → directives_on size (goes (further c ds tt)) src ≡ directives_on size (goes (at_name c ds tt)) (behind src)
  directive_begins n = moves (directives_alone nesting_limit) directives_there size (further c ds tt) (goes (at_name c ds tt)) tok.at_sign src (comes_at 64 src n) refl tt

  pub names_directive : (n : List ℕ) → next_word src ≡ Some n
      → directives_on size (goes (at_name c ds tt)) src ≡ directives_on size (goes (applied (record { constant = c; before = ds; name = n; on = tt }))) (behind src)
  names_directive n e =
      moves (directives_alone nesting_limit) directives_there size (at_name c ds tt) (goes (applied (record { constant = c; before = ds; name = n; on = tt }))) (tok.name n) src (comes_word n src e) refl tt

  pub no_name : next_word src ≡ None → directives_on size (goes (at_name c ds tt)) src ≡ Err (stopped_at size src)
  no_name w =
      refuses (directives_alone nesting_limit) directives_there size (at_name c ds tt) src refl (λ t h.
      by_tok (λ t. word_of t ≡ None → directives_alone nesting_limit (at_name c ds tt) t ≡ Err unexpected)
      (λ _. refl) (λ _. refl) (λ _. refl) (λ _. refl) (λ _. refl) (λ _. refl) (λ _. refl) (λ _. refl) (λ _. refl)
      (λ _. refl) (λ _. refl) (λ _. refl) (λ _. refl) (λ _. refl) (λ _ e. absurd cc) (λ _ _. refl) (λ _ _. refl) t (no_word src t h w))

-- where no `@` comes the directives end
pub directives_end : (size : ℕ) (c : Bool) (ds : List Directive) (src : Source) → next_is 64 src ≡ false → directives_on size (goes (further c ds tt)) src ≡ Ok (ds, src)
directives_end size c ds ended n = refl
directives_end size c ds (faulty code at) n = refl
directives_end size c ds (token p rest) n =
    leaves (directives_alone nesting_limit) directives_there size (further c ds tt) ds (tok_of_piece p) (token p rest) refl
    (by_tok (λ t. is_at 64 t ≡ false → directives_alone nesting_limit (further c ds tt) t ≡ Ok (done_before ds))
    (λ _. refl) (λ _. refl) (λ _. refl) (λ _. refl) (λ _. refl) (λ _. refl) (λ _. refl) (λ _. refl) (λ e. absurd cc)
    (λ _. refl) (λ _. refl) (λ _. refl) (λ _. refl) (λ _. refl) (λ _ _. refl) (λ _ _. refl) (λ _ _. refl) (tok_of_piece p) n)

module _ (size : ℕ) (d : Applied One) (src : Source) where
  -- behind a directive's name
  pub call_begins : next_is 40 src ≡ true → directives_on size (goes (applied d)) src ≡ directives_on size (goes (arguing (first d.constant d))) (behind src)
  call_begins n = moves (directives_alone nesting_limit) directives_there size (applied d) (goes (arguing (first d.constant d))) tok.open_paren src (comes_at 40 src n) refl tt

  pub no_call : next_is 40 src ≡ false → directives_on size (goes (applied d)) src ≡ directives_on size (goes (further d.constant (with_arguments d []) d.on)) src
  no_call n =
      alike (directives_alone nesting_limit) directives_there size (applied d) (further d.constant (with_arguments d []) d.on) src refl (λ t h.
      by_tok (λ t. is_at 40 t ≡ false → directives_alone nesting_limit (applied d) t ≡ directives_alone nesting_limit (further d.constant (with_arguments d []) d.on) t)
      (λ _. refl) (λ _. refl) (λ _. refl) (λ e. absurd cc) (λ _. refl) (λ _. refl) (λ _. refl) (λ _. refl) (λ _. refl)
      (λ _. refl) (λ _. refl) (λ _. refl) (λ _. refl) (λ _. refl) (λ _ _. refl) (λ _ _. refl) (λ _ _. refl) t (not_at 40 src t h n))

  by_call : (b : Bool) → next_is 40 src ≡ b → directives_on size (goes (applied d)) src ≡ goes_on (directives_alone nesting_limit) directives_there size (behind_arguments d) (call_read d.constant size src)
  by_call true e = rw e (call_begins e ∙ arguments_inside size d d.constant (behind src))
  by_call false e = rw e (no_call e)

  pub call_read_ok : (xs : List (List ℕ × Val)) (rest : Source) → call_read d.constant size src ≡ Ok (xs, rest)
      → directives_on size (goes (applied d)) src ≡ directives_on size (goes (further d.constant (with_arguments d xs) d.on)) rest
  call_read_ok xs rest e = by_call (next_is 40 src) refl ∙ ap (λ r. goes_on (directives_alone nesting_limit) directives_there size (behind_arguments d) r) e

  pub call_fault : (f : Fault) → Tells f (call_read d.constant size src) → Tells f (directives_on size (goes (applied d)) src)
  call_fault (Wrong code at) t = by_call (next_is 40 src) refl ∙ ap (λ r. goes_on (directives_alone nesting_limit) directives_there size (behind_arguments d) r) t
  call_fault NoMemory t = tt
