-- How the machine of arguments goes on.
use Rattle.std.proofs.Common.{◌≡◌, ℕ, Bool, true, false, List, [], Some, None, Ok, Err, refl, ap, ◌∙◌}
use Rattle.gql_lex.specs.Sources.{Piece, Source, ended, faulty, token}
use Rattle.gql_lex.specs.Toks as tok
use Rattle.gql_lex.specs.Toks.{Tok, tok_of_piece}
use Rattle.gql_ast.specs.Value.{Val}
use Rattle.gql_syntax.specs.Machine.{outer, want, Given, Arguing, first, called, inside, more}
use Rattle.gql_syntax.specs.Nexts.{behind, stopped_at, is_at, word_of, next_is, next_word}
use Rattle.gql_syntax.specs.Parts.{goes, done, One, never, arguments_alone, part_from, value_read}
use Rattle.gql_syntax.specs.Run.{unexpected, stamp}
use Rattle.gql_syntax.specs.Steps.{arguments_on, argument_named, argument_next}
use Rattle.gql_syntax.specs.Texts.{nesting_limit}
use Rattle.gql_syntax.specs.declared.fault.Fault.{Fault}
use Rattle.gql_syntax.specs.declared.fault.Fault.TheVariants.{Wrong, NoMemory}
use Rattle.gql_syntax.specs.Answers.{Tells}
use Rattle.gql_syntax.proofs.Embedded.{goes_on, behind_value, value_inside}
use Rattle.gql_syntax.proofs.Moves.{from_here, moves, refuses}
use Rattle.gql_syntax.proofs.Tokens.{by_tok, comes_at, not_at}

module _ (size : ℕ) (c : Bool) where
  -- a token where an argument's name is wanted
  names : (s : Arguing One) (xs : List (List ℕ × Val)) (p : Piece) (rest : Source) (t : Tok)
      → ((n : List ℕ) → arguments_alone nesting_limit s (tok.name n) ≡ Ok (goes (called (record { constant = c; before = xs; name = n; on = tt }))))
      → (word_of t ≡ None → arguments_alone nesting_limit s t ≡ Err unexpected)
      → part_from (arguments_alone nesting_limit) never size (stamp p.start (arguments_alone nesting_limit s t)) (token p rest) rest ≡ argument_named size c xs (word_of t) p.start rest
  names s xs p rest (tok.name n) h u =
      ap (λ r. part_from (arguments_alone nesting_limit) never size (stamp p.start r) (token p rest) rest) (h n)
      ∙ from_here (arguments_alone nesting_limit) never size (goes (called (record { constant = c; before = xs; name = n; on = tt }))) (token p rest) rest tt
  names s xs p rest tok.bang h u = ap (λ r. part_from (arguments_alone nesting_limit) never size (stamp p.start r) (token p rest) rest) (u refl)
  names s xs p rest tok.dollar h u = ap (λ r. part_from (arguments_alone nesting_limit) never size (stamp p.start r) (token p rest) rest) (u refl)
  names s xs p rest tok.ampersand h u = ap (λ r. part_from (arguments_alone nesting_limit) never size (stamp p.start r) (token p rest) rest) (u refl)
  names s xs p rest tok.open_paren h u = ap (λ r. part_from (arguments_alone nesting_limit) never size (stamp p.start r) (token p rest) rest) (u refl)
  names s xs p rest tok.close_paren h u = ap (λ r. part_from (arguments_alone nesting_limit) never size (stamp p.start r) (token p rest) rest) (u refl)
  names s xs p rest tok.spread h u = ap (λ r. part_from (arguments_alone nesting_limit) never size (stamp p.start r) (token p rest) rest) (u refl)
  names s xs p rest tok.colon h u = ap (λ r. part_from (arguments_alone nesting_limit) never size (stamp p.start r) (token p rest) rest) (u refl)
  names s xs p rest tok.equals h u = ap (λ r. part_from (arguments_alone nesting_limit) never size (stamp p.start r) (token p rest) rest) (u refl)
  names s xs p rest tok.at_sign h u = ap (λ r. part_from (arguments_alone nesting_limit) never size (stamp p.start r) (token p rest) rest) (u refl)
  names s xs p rest tok.open_bracket h u = ap (λ r. part_from (arguments_alone nesting_limit) never size (stamp p.start r) (token p rest) rest) (u refl)
  names s xs p rest tok.close_bracket h u = ap (λ r. part_from (arguments_alone nesting_limit) never size (stamp p.start r) (token p rest) rest) (u refl)
  names s xs p rest tok.open_brace h u = ap (λ r. part_from (arguments_alone nesting_limit) never size (stamp p.start r) (token p rest) rest) (u refl)
  names s xs p rest tok.bar h u = ap (λ r. part_from (arguments_alone nesting_limit) never size (stamp p.start r) (token p rest) rest) (u refl)
  names s xs p rest tok.close_brace h u = ap (λ r. part_from (arguments_alone nesting_limit) never size (stamp p.start r) (token p rest) rest) (u refl)
  names s xs p rest (tok.int n) h u = ap (λ r. part_from (arguments_alone nesting_limit) never size (stamp p.start r) (token p rest) rest) (u refl)
  names s xs p rest (tok.text n) h u = ap (λ r. part_from (arguments_alone nesting_limit) never size (stamp p.start r) (token p rest) rest) (u refl)

  pub first_wants : (src : Source) → arguments_on size (goes (first c tt)) src ≡ argument_next size c [] src
  first_wants ended = refl
  first_wants (faulty code at) = refl
  first_wants (token p rest) =
      names (first c tt) [] p rest (tok_of_piece p) (λ n. refl)
      (by_tok (λ t. word_of t ≡ None → arguments_alone nesting_limit (first c tt) t ≡ Err unexpected)
      (λ _. refl) (λ _. refl) (λ _. refl) (λ _. refl) (λ _. refl) (λ _. refl) (λ _. refl) (λ _. refl) (λ _. refl)
      (λ _. refl) (λ _. refl) (λ _. refl) (λ _. refl) (λ _. refl) (λ _ e. absurd cc) (λ _ _. refl) (λ _ _. refl) (tok_of_piece p))

  pub more_wants : (xs : List (List ℕ × Val)) (src : Source) → next_is 41 src ≡ false → arguments_on size (goes (more c xs tt)) src ≡ argument_next size c xs src
  more_wants xs ended n = refl
  more_wants xs (faulty code at) n = refl
  more_wants xs (token p rest) n =
      names (more c xs tt) xs p rest (tok_of_piece p) (λ n. refl)
      (by_tok (λ t. is_at 41 t ≡ false → word_of t ≡ None → arguments_alone nesting_limit (more c xs tt) t ≡ Err unexpected)
      (λ _ _. refl) (λ _ _. refl) (λ _ _. refl) (λ _ _. refl) (λ e _. absurd cc) (λ _ _. refl) (λ _ _. refl) (λ _ _. refl) (λ _ _. refl)
      (λ _ _. refl) (λ _ _. refl) (λ _ _. refl) (λ _ _. refl) (λ _ _. refl) (λ _ _ e. absurd cc) (λ _ _ _. refl) (λ _ _ _. refl) (tok_of_piece p) n)

  pub arguments_end : (xs : List (List ℕ × Val)) (src : Source) → next_is 41 src ≡ true → arguments_on size (goes (more c xs tt)) src ≡ Ok (xs, behind src)
  arguments_end xs src n = moves (arguments_alone nesting_limit) never size (more c xs tt) (done xs) tok.close_paren src (comes_at 41 src n) refl tt

  pub argument_begins : (xs : List (List ℕ × Val)) (n : List ℕ) (src : Source) → next_word src ≡ Some n
      → argument_next size c xs src ≡ arguments_on size (goes (called (record { constant = c; before = xs; name = n; on = tt }))) (behind src)
  argument_begins xs n ended e = absurd cc
  argument_begins xs n (faulty code at) e = absurd cc
  argument_begins xs n (token p rest) e = ap (λ o. argument_named size c xs o p.start rest) e

  pub no_argument : (xs : List (List ℕ × Val)) (src : Source) → next_word src ≡ None → argument_next size c xs src ≡ Err (stopped_at size src)
  no_argument xs ended e = refl
  no_argument xs (faulty code at) e = refl
  no_argument xs (token p rest) e = ap (λ o. argument_named size c xs o p.start rest) e

module _ (size : ℕ) (g : Given One) (src : Source) where
  pub value_begins : next_is 58 src ≡ true → arguments_on size (goes (called g)) src ≡ arguments_on size (goes (inside (want g.constant nesting_limit (outer g)))) (behind src)
  value_begins n = moves (arguments_alone nesting_limit) never size (called g) (goes (inside (want g.constant nesting_limit (outer g)))) tok.colon src (comes_at 58 src n) refl tt

  pub no_value_begins : next_is 58 src ≡ false → arguments_on size (goes (called g)) src ≡ Err (stopped_at size src)
  no_value_begins n =
      refuses (arguments_alone nesting_limit) never size (called g) src refl (λ t h.
      by_tok (λ t. is_at 58 t ≡ false → arguments_alone nesting_limit (called g) t ≡ Err unexpected)
      (λ _. refl) (λ _. refl) (λ _. refl) (λ _. refl) (λ _. refl) (λ _. refl) (λ e. absurd cc) (λ _. refl) (λ _. refl)
      (λ _. refl) (λ _. refl) (λ _. refl) (λ _. refl) (λ _. refl) (λ _ _. refl) (λ _ _. refl) (λ _ _. refl) t (not_at 58 src t h n))

  pub value_read_inside : (c : Bool) (room : ℕ) (v : Val) (rest : Source) → value_read c room size src ≡ Ok (v, rest)
      → arguments_on size (goes (inside (want c room (outer g)))) src ≡ arguments_on size (goes (behind_value g v)) rest
  value_read_inside c room v rest e = value_inside size g c room src ∙ ap (λ r. goes_on (arguments_alone nesting_limit) never size (behind_value g) r) e

  pub value_fault_inside : (c : Bool) (room : ℕ) (f : Fault) → Tells f (value_read c room size src) → Tells f (arguments_on size (goes (inside (want c room (outer g)))) src)
  value_fault_inside c room (Wrong code at) t = value_inside size g c room src ∙ ap (λ r. goes_on (arguments_alone nesting_limit) never size (behind_value g) r) t
  value_fault_inside c room NoMemory t = tt
