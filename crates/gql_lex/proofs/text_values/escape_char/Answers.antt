use Rattle.std.proofs.Common.{◌≡◌, get_or, arith, sym, ap, ◌∙◌, ⊎_elim}
use Rattle.std.proofs.lemmas.Bool.{eq-eqb, ne_eqb}
use Rattle.std.proofs.lemmas.List.{take_rest}
use Rattle.gql_lex.specs.Values.{simple_escape}
use Rattle.gql_lex.proofs.Escapes.{code_scalar, code_some}
use Rattle.gql_lex.proofs.text_values.escape_char.Goals as goal

pub returns-then-first-ne117 : goal.returns-then-first-ne117
returns-then-first-ne117 c =
    let n : ¬ (get_or c.args.bytes.now 0 0 ≡ 117) = rw c.byte_at-first.ensures at c.if-first-ne117.true in
    let e = ne_eqb (get_or c.args.bytes.now 0 0) 117 n in
    rw e (c.from.ensures ∙ c.simple_escape.ensures ∙ ap (λ x. simple_escape x) c.byte_at-first.ensures)

pub unreachable-requires : goal.unreachable-requires
unreachable-requires c =
    let u : get_or c.args.bytes.now 0 0 ≡ 117 = sym c.byte_at-first.ensures ∙ c.if-first-ne117.false in
    let k = code_scalar c.args.bytes.now c.in-Some.code c.requires u (rw take_rest at c.in-Some.ensures) in
    ⊎_elim (λ a. ⊎_elim (λ b. omega arith) (λ b. omega arith) k.1) (λ a. omega (arith, k.2)) c.in-None-from_u32.ensures.cases

pub unreachable-requires-in-None : goal.unreachable-requires-in-None
unreachable-requires-in-None c =
    let u : get_or c.args.bytes.now 0 0 ≡ 117 = sym c.byte_at-first.ensures ∙ c.if-first-ne117.false in
    code_some c.args.bytes.now c.requires u (rw take_rest at c.in-None.ensures)

pub returns : goal.returns
returns c =
    let u : get_or c.args.bytes.now 0 0 ≡ 117 = sym c.byte_at-first.ensures ∙ c.if-first-ne117.false in
    let k = code_scalar c.args.bytes.now c.in-Some.code c.requires u (rw take_rest at c.in-Some.ensures) in
    let e = eq-eqb (get_or c.args.bytes.now 0 0) 117 u in
    rw e (c.in-Some-from_u32.ensures.value.1 ∙ k.0)
