use Rattle.std.proofs.Common.{◌≡◌, arith, sym, ◌∙◌, get_or, true, false}
use Rattle.std.proofs.lemmas.List.{take_rest}
use Rattle.gql_lex.specs.Strings.{is_simple_escape, is_surrogate}
use Rattle.gql_lex.proofs.Escapes.{escape_none, escape_some}
use Rattle.gql_lex.proofs.strings.escape_len.Goals as goal

pub returns-in-None-clause-is : goal.returns-in-None-clause-is
returns-in-None-clause-is c =
    let s : is_simple_escape (get_or c.args.bytes.now 0 0) ≡ false = rw c.byte_at-first.ensures at (sym c.is_simple_escape.ensures ∙ c.if-is_simple_escape.false) in
    escape_none c.args.bytes.now s (rw take_rest at c.in-None.ensures)

pub returns-then-is_surrogate-clause-is : goal.returns-then-is_surrogate-clause-is
returns-then-is_surrogate-clause-is c =
    let s : is_simple_escape (get_or c.args.bytes.now 0 0) ≡ false = rw c.byte_at-first.ensures at (sym c.is_simple_escape.ensures ∙ c.if-is_simple_escape.false) in
    let u : get_or c.args.bytes.now 0 0 ≡ 117 = omega (arith, c.byte_at-first.ensures, c.if-first-ne117.false) in
    let g : is_surrogate c.in-Some.code ≡ true = sym c.is_surrogate.ensures ∙ c.if-is_surrogate.true in
    rw g at (escape_some c.args.bytes.now c.in-Some.code s u (rw take_rest at c.in-Some.ensures))

pub returns-else-is_surrogate-clause-is : goal.returns-else-is_surrogate-clause-is
returns-else-is_surrogate-clause-is c =
    let s : is_simple_escape (get_or c.args.bytes.now 0 0) ≡ false = rw c.byte_at-first.ensures at (sym c.is_simple_escape.ensures ∙ c.if-is_simple_escape.false) in
    let u : get_or c.args.bytes.now 0 0 ≡ 117 = omega (arith, c.byte_at-first.ensures, c.if-first-ne117.false) in
    let g : is_surrogate c.in-Some.code ≡ false = sym c.is_surrogate.ensures ∙ c.if-is_surrogate.false in
    rw g at (escape_some c.args.bytes.now c.in-Some.code s u (rw take_rest at c.in-Some.ensures))
