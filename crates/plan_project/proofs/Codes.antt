-- The codes of the faults of a text are 1 to 8.
use Rattle.std.specs.List.{prefix_len}
use Rattle.std.proofs.Common.{◌≡◌, ◌==◌, ◌&&◌, ◌||◌, ◌-◌, slice_index, length, take, ◌≤◌, ℕ, zero, suc, ◌+◌, Bool, true, false, cond, List, [], ◌∷◌, drop, Result, Ok, Err, subst, inl, inr, arith}
use Rattle.plan_ir.specs.gql_ast.declared.fault.ParseFault.{ParseFault}
use Rattle.plan_ir.specs.gql_ast.declared.fault.ParseFault.TheVariants.{Syntax, NoMemory}
use Rattle.plan_ir.specs.gql_ast.declared.fault.SyntaxFault.{SyntaxFault}
use Rattle.plan_ir.specs.gql_lex.Heads.{comment, int_before, number, string, string_head, head}
use Rattle.plan_ir.specs.gql_lex.Sources.{Source, ended, faulty, token, read_head, read}
use Rattle.plan_ir.specs.gql_lex.Characters.{quote, backslash, number_sign, is_line_end, may_stand, may_stand_in_block, is_punctuator, is_ignored, is_mark, is_spread, is_number_start, is_float_mark, is_two_quotes, is_three_quotes, is_escaped_quotes}
use Rattle.plan_ir.specs.gql_plain.Names.{is_name_start, is_name_byte}
use Rattle.plan_ir.specs.gql_lex.Numbers.{sign_len, digits_len, int_len, is_in_i64}
use Rattle.plan_ir.specs.gql_lex.Strings.{further, and_then, is_simple_escape, is_four_hex, code_of_hex, is_surrogate, escape_len, text_end, block_end}
use Rattle.plan_ir.specs.gql_lex.Toks.{Tok}
use Rattle.plan_ir.specs.gql_lex.declared.tokens.TokenKind.{TokenKind}
use Rattle.plan_ir.specs.gql_lex.declared.tokens.TokenKind.TheVariants.{Text, Block}
use Rattle.plan_ir.specs.gql_syntax.FirstFault.{Grammar, Leads, FaultAhead}
use Rattle.plan_ir.specs.gql_syntax.Texts.{IsParseFault}
use Rattle.plan_project.specs.Verdicts.{IsCoded}

abbrev InRange : ℕ → Type 0
InRange c = (1 ≤ c) × (c ≤ 5)

-- ---- the ends of strings

abbrev GoodEnd : Result ℕ ℕ → Type 0
GoodEnd (Ok n) = Unit {0}
GoodEnd (Err c) = InRange c

code_1 : InRange 1
code_1 = (omega arith, omega arith)

code_2 : InRange 2
code_2 = (omega arith, omega arith)

code_3 : InRange 3
code_3 = (omega arith, omega arith)

code_4 : InRange 4
code_4 = (omega arith, omega arith)

code_5 : InRange 5
code_5 = (omega arith, omega arith)

end-further : (n : ℕ) (r : Result ℕ ℕ) → GoodEnd r → GoodEnd (further n r)
end-further n (Ok m) h = tt
end-further n (Err c) h = h

end-then : (r : Result ℕ ℕ) (next : ℕ → Result ℕ ℕ) → GoodEnd r → ((n : ℕ) → GoodEnd (next n)) → GoodEnd (and_then r next)
end-then (Ok n) next h k = k n
end-then (Err c) next h k = h

end-escape : (simple hex pair : Bool) → GoodEnd (cond simple (Ok 1) (cond hex (cond pair (Err 5) (Ok 5)) (Err 4)))
end-escape true hex pair = tt
end-escape false true true = code_5
end-escape false true false = tt
end-escape false false pair = code_4

end-text : (a b c : Bool) (e : Result ℕ ℕ) (next : ℕ → Result ℕ ℕ) → GoodEnd e → ((n : ℕ) → GoodEnd (next n))
    → GoodEnd (cond a (Ok 1) (cond b (and_then e next) (cond c (next 0) (Err 4))))
end-text true b c e next h k = tt
end-text false true c e next h k = end-then e next h k
end-text false false true e next h k = k 0
end-text false false false e next h k = code_4

end-block : (a b c : Bool) (next : ℕ → Result ℕ ℕ) → ((n : ℕ) → GoodEnd (next n)) → GoodEnd (cond a (Ok 3) (cond b (next 3) (cond c (next 0) (Err 4))))
end-block true b c next k = tt
end-block false true c next k = k 3
end-block false false true next k = k 0
end-block false false false next k = code_4

good_escape : (bs : List ℕ) → GoodEnd (escape_len bs)
unfolding escape_len
good_escape bs =
    end-escape (is_simple_escape (slice_index bs 0)) ((slice_index bs 0 == 117) && is_four_hex (drop 1 bs)) (is_surrogate (code_of_hex (drop 1 bs)))

good_text : (n : ℕ) (bs : List ℕ) → GoodEnd (text_end n bs)
unfolding text_end
good_text n [] = code_4
good_text (suc n) (c ∷ cs) = end-further 1 (text_end n cs) (good_text n cs)
good_text zero (c ∷ cs) =
    end-text (c == quote) (c == backslash) (may_stand c) (escape_len cs) (λ n. further 1 (text_end n cs)) (good_escape cs)
    (λ n. end-further 1 (text_end n cs) (good_text n cs))

good_block : (n : ℕ) (bs : List ℕ) → GoodEnd (block_end n bs)
unfolding block_end
good_block n [] = code_4
good_block (suc n) (c ∷ cs) = end-further 1 (block_end n cs) (good_block n cs)
good_block zero (c ∷ cs) =
    end-block (is_three_quotes (c ∷ cs)) (is_escaped_quotes (c ∷ cs)) (may_stand_in_block c) (λ n. further 1 (block_end n cs))
    (λ n. end-further 1 (block_end n cs) (good_block n cs))

-- ---- sources

abbrev Good : Source → Type 0
Good ended = Unit {0}
Good (faulty c n) = InRange c
Good (token p rest) = Good rest

-- ---- what bytes begin with, by what is read behind it

abbrev GoodHead : {H : Type 0} → (run : H → ℕ → List ℕ → (ℕ → Source) → Source) → H → Type 0
GoodHead run h = (at : ℕ) (bs : List ℕ) (rest : ℕ → Source) → ((n : ℕ) → Good (rest n)) → Good (run h at bs rest)

head-cond : {H : Type 0} (P : H → Type 0) (b : Bool) (x y : H) → P x → P y → P (cond b x y)
head-cond P true x y h k = h
head-cond P false x y h k = k

head-string : (kind : TokenKind) (more : ℕ) (r : Result ℕ ℕ) → GoodEnd r → GoodHead read_head (string_head kind more r)
head-string kind more (Ok n) h = λ at bs rest k. k (more + n)
head-string kind more (Err c) h = λ at bs rest k. h

good_comment : (cs : List ℕ) → GoodHead read_head (comment cs)
unfolding comment
good_comment cs =
    let n = prefix_len may_stand cs in
    head-cond (GoodHead read_head) ((length cs == n) || is_line_end (slice_index cs n)) _ _ (λ at bs rest k. k n) (λ at bs rest k. code_1)

good_int : (text more : List ℕ) → GoodHead read_head (int_before text more)
unfolding int_before
good_int text more =
    head-cond (GoodHead read_head) (is_float_mark (slice_index more 0)) _ _ (λ at bs rest k. code_3)
    (head-cond (GoodHead read_head) (is_name_byte (slice_index more 0)) _ _ (λ at bs rest k. code_2)
    (head-cond (GoodHead read_head) (is_in_i64 text) _ _ (λ at bs rest k. k (length text - 1)) (λ at bs rest k. code_2)))

good_number : (bs : List ℕ) → GoodHead read_head (number bs)
unfolding number
good_number bs =
    head-cond (GoodHead read_head) (digits_len (drop (sign_len bs) bs) == 0) _ _ (λ at bs rest k. code_2) (good_int (take (int_len bs) bs) (drop (int_len bs) bs))

good_string : (cs : List ℕ) → GoodHead read_head (string cs)
unfolding string
good_string cs =
    head-cond (GoodHead read_head) (is_two_quotes cs) _ _
    (head-string Block 2 (block_end 0 (drop 2 cs)) (good_block 0 (drop 2 cs)))
    (head-string Text 0 (text_end 0 cs) (good_text 0 cs))

good_head : (bs : List ℕ) → GoodHead read_head (head bs)
unfolding head
good_head bs =
    let c = slice_index bs 0 in
    head-cond (GoodHead read_head) (is_ignored c) _ _ (λ at bs rest k. k 0)
    (head-cond (GoodHead read_head) (is_mark bs) _ _ (λ at bs rest k. k 2)
    (head-cond (GoodHead read_head) (c == number_sign) _ _ (good_comment (drop 1 bs))
    (head-cond (GoodHead read_head) (is_punctuator c) _ _ (λ at bs rest k. k 0)
    (head-cond (GoodHead read_head) (is_spread bs) _ _ (λ at bs rest k. k 2)
    (head-cond (GoodHead read_head) (is_name_start c) _ _ (λ at cs rest k. k (prefix_len is_name_byte (drop 1 bs)))
    (head-cond (GoodHead read_head) (is_number_start c) _ _ (good_number bs)
    (head-cond (GoodHead read_head) (c == quote) _ _ (good_string (drop 1 bs)) (λ at bs rest k. code_1))))))))

good_source : (n at : ℕ) (bs : List ℕ) → Good (read n at bs)
unfolding read
good_source n at [] = tt
good_source (suc n) at (c ∷ cs) = good_source n (at + 1) cs
good_source zero at (c ∷ cs) = good_head (c ∷ cs) at (c ∷ cs) (λ n. read n (at + 1) cs) (λ n. good_source n (at + 1) cs)

good_rest : (ts : List Tok) (from to : Source) → Leads ts from to → Good from → Good to
good_rest [] from to l h = subst Good l h
good_rest (t ∷ ts) ended to l h = absurd l
good_rest (t ∷ ts) (faulty c n) to l h = absurd l
good_rest (t ∷ ts) (token p rest) to l h = good_rest ts rest to l.1 h

ahead_coded : {V : Type 0} (g : Grammar V) (limit size : ℕ) (ts : List Tok) (s : Source) (c n : ℕ) → Good s → FaultAhead g limit size ts s c n → (1 ≤ c) × (c ≤ 8)
ahead_coded g limit size ts ended c n h f = let e : c ≡ 6 = f.0 in (omega (arith, e), omega (arith, e))
ahead_coded g limit size ts (faulty d m) c n h f = let e : c ≡ d = f.0 in (omega (arith, e, h.0), omega (arith, e, h.1))
ahead_coded g limit size ts (token p rest) c n h f = elim f.1 [
  | inl u ↦ let e : c ≡ 6 = u.0 in (omega (arith, e), omega (arith, e))
  | inr u ↦ let e : c ≡ 8 = u.0 in (omega (arith, e), omega (arith, e))
]

fault_coded : {V : Type 0} (g : Grammar V) (file : ℕ) (text : List ℕ) (s : SyntaxFault) → IsParseFault g file text (Syntax s) → IsCoded (Syntax s)
fault_coded g file text s f = elim f.1 [
  | inl x ↦ let e : s.code ≡ 7 = x.code in (omega (arith, e), omega (arith, e))
  | inr x ↦ ahead_coded g _ _ x.first.read x.first.rest s.code x.at (good_rest x.first.read (read 0 0 text) x.first.rest x.first.leads (good_source 0 0 text)) x.first.fault
]

pub parse_fault_coded : {V : Type 0} (g : Grammar V) (file : ℕ) (text : List ℕ) (f : ParseFault) → IsParseFault g file text f → IsCoded f
parse_fault_coded g file text (Syntax s) x = fault_coded g file text s x
parse_fault_coded g file text NoMemory x = tt
