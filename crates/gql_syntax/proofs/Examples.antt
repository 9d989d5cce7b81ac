-- What the definitions say of single trees and texts.
use Rattle.std.proofs.Common.{◌≡◌, ℕ, true, false, [], ◌∷◌, Ok, Err, codes, length, refl, pos}
use Rattle.gql_lex.specs.Heads.{head, number, int_before}
use Rattle.gql_lex.specs.Lines.{ended_lines, line_start}
use Rattle.gql_lex.specs.Sources.{ended, lex_from, read}
use Rattle.gql_lex.specs.Toks as tok
use Rattle.gql_lex.specs.Toks.{Tok}
use Rattle.gql_ast.specs.Value.{variable, int, truth, null, enum, list, object, no_vals, val, no_members, member}
use Rattle.gql_ast.specs.Ty as ty
use Rattle.gql_ast.specs.Ty.{Ty}
use Rattle.gql_syntax.specs.Parts.{value_read, arguments_read, directives_read, type_read}
use Rattle.gql_syntax.specs.Places.{place_nodes}
use Rattle.gql_syntax.specs.Spelling.{Mark, spell_value, spell_arguments, spell_directives, spell_type}
use Rattle.std.specs.Str.{chars}

-- all that a mark is given
abbrev token_with_place : Mark (Tok × ℕ × ℕ)
token_with_place t level nodes = (t, level, nodes)

-- ---- how trees are written

lists_in_one_another : spell_value token_with_place (list (val (int (pos 1)) (val (list no_vals) no_vals))) 0 []
    ≡ (tok.open_bracket, 1, 1) ∷ (tok.int (pos 1), 0, 1) ∷ (tok.open_bracket, 2, 1) ∷ (tok.close_bracket, 0, 0) ∷ (tok.close_bracket, 0, 0) ∷ []
lists_in_one_another = refl

object_in_list : spell_value token_with_place (list (val (object (member (codes "a") (variable (codes "b")) no_members)) no_vals)) 3 []
    ≡ (tok.open_bracket, 4, 1) ∷ (tok.open_brace, 5, 1) ∷ (tok.name (codes "a"), 0, 2) ∷ (tok.colon, 0, 0) ∷ (tok.dollar, 0, 1) ∷ (tok.name (codes "b"), 0, 1)
    ∷ (tok.close_brace, 0, 0) ∷ (tok.close_bracket, 0, 0) ∷ []
object_in_list = refl

enum_value : spell_value token_with_place (enum (codes "RED")) 0 [] ≡ (tok.name (codes "RED"), 0, 2) ∷ []
enum_value = refl

word_values : spell_value token_with_place (list (val (truth true) (val (truth false) (val null no_vals)))) 0 []
    ≡ (tok.open_bracket, 1, 1) ∷ (tok.name (codes "true"), 0, 1) ∷ (tok.name (codes "false"), 0, 1) ∷ (tok.name (codes "null"), 0, 1) ∷ (tok.close_bracket, 0, 0) ∷ []
word_values = refl

-- [[A!]]!
type_in_lists : spell_type token_with_place (ty.non_null (ty.list (ty.list (ty.non_null (ty.named (codes "A")))))) 0 0 []
    ≡ (tok.open_bracket, 1, 2) ∷ (tok.open_bracket, 2, 1) ∷ (tok.name (codes "A"), 0, 3) ∷ (tok.bang, 0, 0) ∷ (tok.close_bracket, 0, 0) ∷ (tok.close_bracket, 0, 0)
    ∷ (tok.bang, 0, 0) ∷ []
type_in_lists = refl

two_directives : spell_directives token_with_place (record { name = codes "a"; arguments = (codes "b", list no_vals) ∷ [] } ∷ record { name = codes "c"; arguments = [] } ∷ []) []
    ≡ (tok.at_sign, 0, 1) ∷ (tok.name (codes "a"), 0, 1) ∷ (tok.open_paren, 0, 0) ∷ (tok.name (codes "b"), 0, 2) ∷ (tok.colon, 0, 0) ∷ (tok.open_bracket, 1, 1)
    ∷ (tok.close_bracket, 0, 0) ∷ (tok.close_paren, 0, 0) ∷ (tok.at_sign, 0, 1) ∷ (tok.name (codes "c"), 0, 1) ∷ []
two_directives = refl

no_arguments : spell_arguments token_with_place [] [] ≡ []
no_arguments = refl

-- ---- what is read of a text

value_of_text : value_read false 2 (length (codes "[1 {a: $b} RED]")) (lex_from 0 (codes "[1 {a: $b} RED]"))
    ≡ Ok (list (val (int (pos 1)) (val (object (member (codes "a") (variable (codes "b")) no_members)) (val (enum (codes "RED")) no_vals))), ended)
unfolding read head number int_before
value_of_text = refl

no_variable_in_constant : value_read true 2 4 (lex_from 0 (codes "[ $b")) ≡ Err (6, 2)
unfolding read head
no_variable_in_constant = refl

one_list_too_many : value_read false 1 5 (lex_from 0 (codes "[ [ ]")) ≡ Err (8, 2)
unfolding read head
one_list_too_many = refl

list_without_end : value_read false 1 4 (lex_from 0 (codes "[ a ")) ≡ Err (6, 4)
unfolding read head
list_without_end = refl

fault_of_token_first : value_read false 0 3 (lex_from 0 (codes "1.5")) ≡ Err (3, 0)
unfolding read head number int_before
fault_of_token_first = refl

arguments_of_text : arguments_read 1 true 10 (lex_from 0 (codes "a:1 b:[])")) ≡ Ok ((codes "a", int (pos 1)) ∷ (codes "b", list no_vals) ∷ [], ended)
unfolding read head number int_before
arguments_of_text = refl

some_argument : arguments_read 1 true 1 (lex_from 0 (codes ")")) ≡ Err (6, 0)
unfolding read head
some_argument = refl

directives_before_brace : directives_read 1 false 9 (lex_from 0 (codes "@a @b {")) ≡ Ok (record { name = codes "a"; arguments = [] } ∷ record { name = codes "b"; arguments = [] } ∷ [], lex_from 6 (codes "{"))
unfolding read head
directives_before_brace = refl

directive_without_name : directives_read 1 false 4 (lex_from 0 (codes "@a @")) ≡ Err (6, 4)
unfolding read head
directive_without_name = refl

type_before_bang : type_read 1 6 (lex_from 0 (codes "[A!]!!")) ≡ Ok (ty.non_null (ty.list (ty.non_null (ty.named (codes "A")))), lex_from 5 (codes "!"))
unfolding read head
type_before_bang = refl

one_list_type_too_many : type_read 1 4 (lex_from 0 (codes "[[A]]")) ≡ Err (8, 1)
unfolding read head
one_list_type_too_many = refl

places_of_nodes : place_nodes 7 (36 ∷ 97 ∷ 10 ∷ 69 ∷ []) [] (1 ∷ 0 ∷ 2 ∷ []) (lex_from 0 (36 ∷ 97 ∷ 10 ∷ 69 ∷ []))
    ≡ record { file = 7; line = 1; column = 1 } ∷ record { file = 7; line = 2; column = 1 } ∷ record { file = 7; line = 2; column = 1 } ∷ []
unfolding read head ended_lines line_start chars
places_of_nodes = refl
