-- The codes of lexical faults: each of them is below those of a grammar.
use Rattle.std.proofs.Common.{◌≤◌, ℕ, zero, suc, ◌+◌, Bool, true, false, cond, eqb, ◌&&◌, List, [], ◌∷◌, length, get_or, take, drop, Result, Ok, Err, subst, arith}
use Rattle.gql_lex.specs.declared.tokens.TokenKind.{TokenKind}
use Rattle.gql_lex.specs.declared.tokens.TokenKind.TheVariants.{Text, Block}
use Rattle.gql_lex.specs.Characters.{is_ignored, is_mark, is_punctuator, is_spread, is_number_start, is_float_mark, is_line_end, is_two_quotes, is_three_quotes, is_escaped_quotes, may_stand, may_stand_in_block}
use Rattle.gql_lex.specs.Heads.{comment, int_before, number, string, string_head, head}
use Rattle.gql_lex.specs.Numbers.{sign_len, digits_len, int_len, is_in_i64}
use Rattle.gql_lex.specs.Sources.{Source, ended, faulty, token, read_head, read, lex_from}
use Rattle.gql_lex.specs.Strings.{further, and_then, is_simple_escape, is_four_hex, is_surrogate, code_of_hex, escape_len, text_step, text_end, block_step, block_end}
use Rattle.gql_lex.specs.Toks.{Tok}
use Rattle.gql_lex.specs.gql_plain.Names.{is_name_start, is_name_byte}
use Rattle.std.specs.List.{prefix_len}
use Rattle.std.specs.Prelude.{◌||◌, ◌==◌}
use Rattle.gql_syntax.specs.FirstFault.{Leads}

abbrev EndCode : Result ℕ ℕ → Type 0
EndCode (Ok n) = Unit {0}
EndCode (Err code) = code ≤ 5

-- no fault ahead has another code
abbrev pub SourceCode : Source → Type 0
SourceCode ended = Unit {0}
SourceCode (faulty code at) = code ≤ 5
SourceCode (token p rest) = SourceCode rest

either : {A : Type 0} (P : A → Type 0) (b : Bool) (x y : A) → P x → P y → P (cond b x y)
either P true x y h k = h
either P false x y h k = k

-- ---- strings

further_code : (k : ℕ) (r : Result ℕ ℕ) → EndCode r → EndCode (further k r)
further_code k (Ok n) h = tt
further_code k (Err code) h = h

then_code : (r : Result ℕ ℕ) (next : ℕ → Result ℕ ℕ) → EndCode r → ((n : ℕ) → EndCode (next n)) → EndCode (and_then r next)
then_code (Ok n) next h k = k n
then_code (Err code) next h k = h

four : EndCode (Err 4)
four = omega arith

escape_code : (bs : List ℕ) → EndCode (escape_len bs)
unfolding escape_len
escape_code bs =
    either EndCode (is_simple_escape (get_or bs 0 0)) _ _ tt
    (either EndCode (eqb (get_or bs 0 0) 117 && is_four_hex (drop 1 bs)) _ _
    (either EndCode (is_surrogate (code_of_hex (drop 1 bs))) (Err 5) (Ok 5) (omega arith) tt) four)

text_step_code : (c : ℕ) (cs : List ℕ) (next : ℕ → Result ℕ ℕ) → ((n : ℕ) → EndCode (next n)) → EndCode (text_step c cs next)
text_step_code c cs next h =
    either EndCode (eqb c 34) _ _ tt (either EndCode (eqb c 92) _ _ (then_code (escape_len cs) next (escape_code cs) h) (either EndCode (may_stand c) _ _ (h 0) four))

text_code : (n : ℕ) (bs : List ℕ) → EndCode (text_end n bs)
unfolding text_end
text_code n [] = four
text_code (suc n) (c ∷ cs) = further_code 1 (text_end n cs) (text_code n cs)
text_code zero (c ∷ cs) = text_step_code c cs (λ n. further 1 (text_end n cs)) (λ n. further_code 1 (text_end n cs) (text_code n cs))

block_step_code : (c : ℕ) (cs : List ℕ) (next : ℕ → Result ℕ ℕ) → ((n : ℕ) → EndCode (next n)) → EndCode (block_step c cs next)
block_step_code c cs next h =
    either EndCode (is_three_quotes (c ∷ cs)) _ _ tt
    (either EndCode (is_escaped_quotes (c ∷ cs)) _ _ (h 3) (either EndCode (may_stand_in_block c) _ _ (h 0) four))

block_code : (n : ℕ) (bs : List ℕ) → EndCode (block_end n bs)
unfolding block_end
block_code n [] = four
block_code (suc n) (c ∷ cs) = further_code 1 (block_end n cs) (block_code n cs)
block_code zero (c ∷ cs) = block_step_code c cs (λ n. further 1 (block_end n cs)) (λ n. further_code 1 (block_end n cs) (block_code n cs))

-- ---- what the bytes of a text begin with, and what follows

module _ (at : ℕ) (whole : List ℕ) (next : ℕ → Source) (follows : (n : ℕ) → SourceCode (next n)) where
  string_head_code : (kind : TokenKind) (more : ℕ) (r : Result ℕ ℕ) → EndCode r → SourceCode (read_head (string_head kind more r) at whole next)
  string_head_code kind more (Ok n) h = follows (more + n)
  string_head_code kind more (Err code) h = h

  string_code : (cs : List ℕ) → SourceCode (read_head (string cs) at whole next)
  unfolding string
  string_code cs =
      either (λ h. SourceCode (read_head h at whole next)) (is_two_quotes cs) (string_head Block 2 (block_end 0 (drop 2 cs))) (string_head Text 0 (text_end 0 cs))
      (string_head_code Block 2 (block_end 0 (drop 2 cs)) (block_code 0 (drop 2 cs))) (string_head_code Text 0 (text_end 0 cs) (text_code 0 cs))

  comment_code : (cs : List ℕ) → SourceCode (read_head (comment cs) at whole next)
  unfolding comment
  comment_code cs =
      let n = prefix_len may_stand cs in
      either (λ h. SourceCode (read_head h at whole next)) ((length cs == n) || is_line_end (get_or cs n 0)) _ _ (follows n) (omega arith)

  int_code : (text rest : List ℕ) → SourceCode (read_head (int_before text rest) at whole next)
  unfolding int_before
  int_code text rest =
      either (λ h. SourceCode (read_head h at whole next)) (is_float_mark (get_or rest 0 0)) _ _ (omega arith)
      (either (λ h. SourceCode (read_head h at whole next)) (is_name_byte (get_or rest 0 0)) _ _ (omega arith)
      (either (λ h. SourceCode (read_head h at whole next)) (is_in_i64 text) _ _ (follows _) (omega arith)))

  number_code : (bs : List ℕ) → SourceCode (read_head (number bs) at whole next)
  unfolding number
  number_code bs =
      either (λ h. SourceCode (read_head h at whole next)) (eqb (digits_len (drop (sign_len bs) bs)) 0) _ _ (omega arith)
      (int_code (take (int_len bs) bs) (drop (int_len bs) bs))

  head_code : (bs : List ℕ) → SourceCode (read_head (head bs) at whole next)
  unfolding head
  head_code bs =
      either (λ h. SourceCode (read_head h at whole next)) (is_ignored (get_or bs 0 0)) _ _ (follows 0)
      (either (λ h. SourceCode (read_head h at whole next)) (is_mark bs) _ _ (follows 2)
      (either (λ h. SourceCode (read_head h at whole next)) (eqb (get_or bs 0 0) 35) _ _ (comment_code (drop 1 bs))
      (either (λ h. SourceCode (read_head h at whole next)) (is_punctuator (get_or bs 0 0)) _ _ (follows 0)
      (either (λ h. SourceCode (read_head h at whole next)) (is_spread bs) _ _ (follows 2)
      (either (λ h. SourceCode (read_head h at whole next)) (is_name_start (get_or bs 0 0)) _ _ (follows _)
      (either (λ h. SourceCode (read_head h at whole next)) (is_number_start (get_or bs 0 0)) _ _ (number_code bs)
      (either (λ h. SourceCode (read_head h at whole next)) (eqb (get_or bs 0 0) 34) _ _ (string_code (drop 1 bs)) (omega arith))))))))

-- ---- a text

read_code : (n at : ℕ) (bs : List ℕ) → SourceCode (read n at bs)
unfolding read
read_code n at [] = tt
read_code (suc n) at (c ∷ cs) = read_code n (at + 1) cs
read_code zero at (c ∷ cs) = head_code at (c ∷ cs) (λ n. read n (at + 1) cs) (λ n. read_code n (at + 1) cs) (c ∷ cs)

pub lexed_code : (bs : List ℕ) → SourceCode (lex_from 0 bs)
lexed_code bs = read_code 0 0 bs

-- and behind the first tokens
pub led_code : (ts : List Tok) (from to : Source) → SourceCode from → Leads ts from to → SourceCode to
led_code [] from to h l = subst SourceCode l h
led_code (t ∷ ts) ended to h l = absurd l
led_code (t ∷ ts) (faulty code at) to h l = absurd l
led_code (t ∷ ts) (token p rest) to h l = led_code ts rest to h l.1
