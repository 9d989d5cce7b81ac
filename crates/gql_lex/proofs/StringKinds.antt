-- What a token of a string begins with.
use Rattle.std.proofs.Common.{◌≡◌, ℕ, ◌+◌, ◌-◌, true, false, eqb, List, length, get_or, drop, Result, Ok, Err, refl, arith, sym, ap, ◌∙◌, ⊎_elim}
use Rattle.std.proofs.lemmas.Bool.{eqb-true, and_parts}
use Rattle.std.proofs.lemmas.List.{length-drop, drop-drop, get_or-drop}
use Rattle.gql_lex.specs.declared.tokens.TokenKind.TheVariants.{Text, Block}
use Rattle.gql_lex.specs.declared.tokens.Head.TheVariants.{Found}
use Rattle.gql_lex.specs.Characters.{is_two_quotes}
use Rattle.gql_lex.specs.Strings.{text_end, block_end}
use Rattle.gql_lex.specs.Heads.{string, string_head, IsToken}
use Rattle.gql_lex.specs.Values.{IsTextRest, IsBlockRest}
use Rattle.gql_lex.proofs.Fronts.{choice, begins}

text_found : (r : Result ℕ ℕ) (n : ℕ) → string_head Text 0 r ≡ Found Text n → r ≡ Ok n
text_found (Ok m) n e =
    let p : 0 + m ≡ n = cc in
    let q : m ≡ n = omega arith in
    ap (λ (k : ℕ). Ok k) q
text_found (Err code) n e = cc

block_not_text : (r : Result ℕ ℕ) (n : ℕ) → ¬ (string_head Block 2 r ≡ Found Text n)
block_not_text (Ok m) n e = cc
block_not_text (Err code) n e = cc

block_found : (r : Result ℕ ℕ) (n : ℕ) → string_head Block 2 r ≡ Found Block n → (m : ℕ) × (r ≡ Ok m) × (2 + m ≡ n)
block_found (Ok m) n e = (m, refl, cc)
block_found (Err code) n e = (0, cc, cc)

text_not_block : (r : Result ℕ ℕ) (n : ℕ) → ¬ (string_head Text 0 r ≡ Found Block n)
text_not_block (Ok m) n e = cc
text_not_block (Err code) n e = cc

pub string_text : (cs : List ℕ) (n : ℕ) → string cs ≡ Found Text n → (is_two_quotes cs ≡ false) × (text_end 0 cs ≡ Ok n)
unfolding string
string_text cs n e =
    ⊎_elim (λ w. absurd (block_not_text (block_end 0 (drop 2 cs)) n w.1)) (λ w. (w.0, text_found (text_end 0 cs) n w.1)) (choice (is_two_quotes cs) _ _ _ e)

pub string_block : (cs : List ℕ) (n : ℕ) → string cs ≡ Found Block n → (is_two_quotes cs ≡ true) × ((m : ℕ) × (block_end 0 (drop 2 cs) ≡ Ok m) × (2 + m ≡ n))
unfolding string
string_block cs n e =
    ⊎_elim (λ w. (w.0, block_found (block_end 0 (drop 2 cs)) n w.1)) (λ w. absurd (text_not_block (text_end 0 cs) n w.1)) (choice (is_two_quotes cs) _ _ _ e)

pub text_token : (text : List ℕ) → IsToken Text text → (get_or text 0 0 ≡ 34) × IsTextRest (drop 1 text)
unfolding IsToken
text_token text e =
    let p = begins text Text (length text - 1) e in
    let q = (string_text (drop 1 text) (length text - 1) p.1).1 in
    (p.0, q ∙ ap (λ (k : ℕ). Ok k) (sym (length-drop 1 text)))

pub two_quotes : (cs : List ℕ) → is_two_quotes cs ≡ true → (get_or cs 0 0 ≡ 34) × (get_or cs 1 0 ≡ 34)
two_quotes cs e =
    let p = and_parts (eqb (get_or cs 0 0) 34) (eqb (get_or cs 1 0) 34) e in
    (eqb-true (get_or cs 0 0) 34 p.0, eqb-true (get_or cs 1 0) 34 p.1)

pub block_token : (text : List ℕ) → IsToken Block text → (get_or text 0 0 ≡ 34) × (get_or text 1 0 ≡ 34) × (get_or text 2 0 ≡ 34) × IsBlockRest (drop 3 text)
unfolding IsToken
block_token text e =
    let p = begins text Block (length text - 1) e in
    let q = string_block (drop 1 text) (length text - 1) p.1 in
    let d : drop 2 (drop 1 text) ≡ drop 3 text = drop-drop 2 1 text in
    let t = two_quotes (drop 1 text) q.0 in
    let a : get_or text 1 0 ≡ 34 = rw (get_or-drop 1 text 0 0) at t.0 in
    let b : get_or text 2 0 ≡ 34 = rw (get_or-drop 1 text 1 0) at t.1 in
    let n : q.1.0 ≡ length (drop 3 text) = omega (arith, length-drop 3 text, q.1.2) in
    (p.0, a, b, rw d at q.1.1 ∙ ap (λ (k : ℕ). Ok k) n)
