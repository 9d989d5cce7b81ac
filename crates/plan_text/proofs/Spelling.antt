-- Texts that are read back as tokens, put one behind the other.
use Rattle.std.proofs.Common.{◌≡◌, ℕ, ◌+◌, Bool, true, false, cond, not, ◌&&◌, ◌||◌, ◌==◌, List, [], ◌∷◌, ◌++◌, get_or, Option, Some, None, option_map, refl, ap, ◌∙◌, arith, eqb, append_assoc}
use Rattle.std.proofs.lemmas.Bool.Decides.{nat_tests}
use Rattle.std.specs.List.{AllByRecursion, list_all, prefix_len}
use Rattle.plan_ir.specs.gql_lex.Characters.{is_digit, is_float_mark}
use Rattle.plan_ir.specs.gql_lex.Heads.{head}
use Rattle.plan_ir.specs.gql_lex.Sources.{read}
use Rattle.plan_ir.specs.gql_lex.Toks as tok
use Rattle.plan_ir.specs.gql_lex.Toks.{Tok, tokens_of}
use Rattle.plan_ir.specs.gql_lex.declared.tokens.TokenKind.TheVariants.{Punct}
use Rattle.plan_ir.specs.gql_plain.Names.{is_name_byte, is_name_start}
use Rattle.plan_ir.specs.gql_syntax.Words.{IsName}
use Rattle.plan_ir.specs.OperationText.{join_texts}
use Rattle.plan_text.proofs.Ints.{Ends}
use Rattle.plan_text.proofs.ReadBack.{found_read, name_read}
use Rattle.plan_ir.specs.schema_tables.Types.{Text}

-- a byte that may follow every token: of no name or number, no full stop, no quote
abbrev pub is_free : ℕ → Bool
is_free c = not (is_name_byte c || (c == 46) || (c == 34))

abbrev pub IsFree : Text → Type 0
IsFree r = is_free (get_or r 0 0) ≡ true

-- the text is read back, whatever free bytes follow: `f` puts its tokens in front of theirs
abbrev pub Reads : Text → (List Tok → List Tok) → Type 0
Reads t f = (r : Text) → IsFree r → tokens_of (t ++ r) ≡ option_map f (tokens_of r)

-- free bytes are free behind the text too
abbrev pub Opens : Text → Type 0
Opens t = (r : Text) → IsFree r → IsFree (t ++ r)

-- the byte is a token
abbrev pub Stands : ℕ → Tok → Type 0
Stands c t = (r : Text) → tokens_of (c ∷ r) ≡ option_map (λ ts. t ∷ ts) (tokens_of r)

-- the byte stands between tokens
abbrev pub Parts : ℕ → Type 0
Parts c = (r : Text) → tokens_of (c ∷ r) ≡ tokens_of r

pub chain : (f g : List Tok → List Tok) (a b c : Option (List Tok)) → a ≡ option_map f b → b ≡ option_map g c → a ≡ option_map (λ ts. f (g ts)) c
chain f g a b c p q = p ∙ ap (option_map f) q ∙ at c
  where
    at : (d : Option (List Tok)) → option_map f (option_map g d) ≡ option_map (λ ts. f (g ts)) d
    at None = refl
    at (Some ts) = refl

pub same_option : (o : Option (List Tok)) → o ≡ option_map (λ ts. ts) o
same_option None = refl
same_option (Some ts) = refl

-- no text has no token
pub nothing_left : tokens_of [] ≡ Some []
unfolding read
nothing_left = refl

pub nothing_reads : Reads [] (λ ts. ts)
nothing_reads r free = same_option (tokens_of r)

pub then_reads : (t u : Text) (f g : List Tok → List Tok) → Reads t f → Reads u g → Opens u → Reads (t ++ u) (λ ts. f (g ts))
then_reads t u f g a b opens r free =
    ap tokens_of (append_assoc t u r)
    ∙ chain f g (tokens_of (t ++ (u ++ r))) (tokens_of (u ++ r)) (tokens_of r) (a (u ++ r) (opens r free)) (b r free)

pub then_opens : (t u : Text) → Opens t → Opens u → Opens (t ++ u)
then_opens t u a b r free = let e : IsFree (t ++ (u ++ r)) = a (u ++ r) (b r free) in ap (λ s. is_free (get_or s 0 0)) (append_assoc t u r) ∙ e

pub behind_reads : (c : ℕ) (p : Tok) → Stands c p → (t : Text) (f : List Tok → List Tok) → Reads t f → Reads (c ∷ t) (λ ts. p ∷ f ts)
behind_reads c p front t f a r free =
    chain (λ ts. p ∷ ts) f (tokens_of (c ∷ (t ++ r))) (tokens_of (t ++ r)) (tokens_of r) (front (t ++ r)) (a r free)

pub enclosed_reads : (o e : ℕ) (p q : Tok) → Stands o p → Stands e q → is_free e ≡ true → (t : Text) (f : List Tok → List Tok) → Reads t f
    → Reads (o ∷ (t ++ e ∷ [])) (λ ts. p ∷ f (q ∷ ts))
enclosed_reads o e p q front back free_e t f a =
    behind_reads o p front (t ++ e ∷ []) (λ ts. f (q ∷ ts)) (then_reads t (e ∷ []) f (λ ts. q ∷ ts) a (λ r free. back r) (λ r free. free_e))

pub joined_reads : (c : ℕ) → Parts c → is_free c ≡ true → (t u : Text) (us : List Text) (f g : List Tok → List Tok) → Reads t f → Reads (join_texts c (u ∷ us)) g
    → Reads (join_texts c (t ∷ u ∷ us)) (λ ts. f (g ts))
joined_reads c parts free_c t u us f g a b =
    then_reads t (c ∷ join_texts c (u ∷ us)) f g a (λ r free. parts (join_texts c (u ∷ us) ++ r) ∙ b r free) (λ r free. free_c)

-- ---- what may follow

pub free_name : (c : ℕ) → is_free c ≡ true → is_name_byte c ≡ false
free_name c h = grind (arith, nat_tests)

free_digit : (c : ℕ) → is_free c ≡ true → is_digit c ≡ false
free_digit c h = grind (arith, nat_tests)

free_mark : (c : ℕ) → is_free c ≡ true → is_float_mark c ≡ false
free_mark c h = grind (arith, nat_tests)

pub free_quote : (c : ℕ) → is_free c ≡ true → eqb c 34 ≡ false
free_quote c h = grind (arith, nat_tests)

no_prefix : (p : ℕ → Bool) (r : Text) → p (get_or r 0 0) ≡ false → prefix_len p r ≡ 0
no_prefix p [] h = refl
no_prefix p (c ∷ cs) h = ap (λ b. cond b (1 + prefix_len p cs) 0) h

pub ends_of : (r : Text) → IsFree r → Ends r
ends_of r h = record {
  digit = no_prefix is_digit r (free_digit (get_or r 0 0) h);
  name = free_name (get_or r 0 0) h;
  mark = free_mark (get_or r 0 0) h;
}

-- ---- names

both_hold : (a b : Bool) → (a && b) ≡ true → (a ≡ true) × (b ≡ true)
both_hold true true e = (refl, refl)
both_hold true false e = absurd cc
both_hold false b e = absurd cc

each_holds : (p : ℕ → Bool) (xs : Text) → list_all p xs ≡ true → AllByRecursion (λ x. p x ≡ true) xs
each_holds p [] e = tt
each_holds p (x ∷ xs) e = let both = both_hold (p x) (list_all p xs) e in (both.0, each_holds p xs both.1)

pub name_reads : (n : Text) → IsName n → Reads n (λ ts. tok.name n ∷ ts)
name_reads [] h r free = absurd cc
name_reads (c ∷ xs) h r free =
    let both = both_hold (is_name_start c) (list_all is_name_byte xs) h in
    name_read c xs r both.0 (each_holds is_name_byte xs both.1) (no_prefix is_name_byte r (free_name (get_or r 0 0) free))

-- ---- punctuators

pub bang_stands : Stands 33 tok.bang
unfolding head
bang_stands r = found_read Punct 33 [] r refl

pub dollar_stands : Stands 36 tok.dollar
unfolding head
dollar_stands r = found_read Punct 36 [] r refl

pub open_paren_stands : Stands 40 tok.open_paren
unfolding head
open_paren_stands r = found_read Punct 40 [] r refl

pub close_paren_stands : Stands 41 tok.close_paren
unfolding head
close_paren_stands r = found_read Punct 41 [] r refl

pub colon_stands : Stands 58 tok.colon
unfolding head
colon_stands r = found_read Punct 58 [] r refl

pub equals_stands : Stands 61 tok.equals
unfolding head
equals_stands r = found_read Punct 61 [] r refl

pub at_sign_stands : Stands 64 tok.at_sign
unfolding head
at_sign_stands r = found_read Punct 64 [] r refl

pub open_bracket_stands : Stands 91 tok.open_bracket
unfolding head
open_bracket_stands r = found_read Punct 91 [] r refl

pub close_bracket_stands : Stands 93 tok.close_bracket
unfolding head
close_bracket_stands r = found_read Punct 93 [] r refl

pub open_brace_stands : Stands 123 tok.open_brace
unfolding head
open_brace_stands r = found_read Punct 123 [] r refl

pub close_brace_stands : Stands 125 tok.close_brace
unfolding head
close_brace_stands r = found_read Punct 125 [] r refl
