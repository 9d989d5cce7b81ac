use Rattle.std.proofs.Common.{◌≡◌, ◌+◌, ◌-◌, ◌<◌, length, drop, arith, sym, ◌∙◌, refl}
use Rattle.std.proofs.lemmas.Str.{IsCharBoundary-after_ascii}
use Rattle.std.proofs.lemmas.List.{length-drop}
use Rattle.gql_lex.proofs.Whole.{found_token}
use Rattle.gql_lex.proofs.Reading.{at_ignored, at_found, at_wrong, lexed_none}
use Rattle.gql_lex.proofs.lexer.Lexer.next.Goals as goal

pub ignored-preserved : goal.ignored-preserved
ignored-preserved c = record {
  text = c.ignored.invariant.text;
  ahead = c.ignored.invariant.ahead ∙ at_ignored c.as_bytes-bytes.result.now c.ignored.at c.in-Ignored.more c.ignored-test.true c.in-Ignored.ensures.is;
  within = omega (arith, c.in-Ignored.ensures.sound);
}

pub range-requires-clause-end_boundary : goal.range-requires-clause-end_boundary
range-requires-clause-end_boundary c =
    let e : c.ignored.at + (1 + c.in-Found.more) ≡ c.ignored.at + c.in-Found.more + 1 = omega arith in
    rw (e, ← c.as_bytes-bytes.ensures.value)
    (IsCharBoundary-after_ascii c.as_bytes-bytes.result.now (c.ignored.at + c.in-Found.more) c.as_bytes-bytes.ensures.utf8 c.in-Found.ensures.sound.0 c.in-Found.ensures.sound.2)

pub returns-in-Found-clause-gives : goal.returns-in-Found-clause-gives
returns-in-Found-clause-gives c =
    let p = c.ignored.invariant.ahead ∙ at_found c.as_bytes-bytes.result.now c.ignored.at c.in-Found.more c.in-Found.kind c.ignored-test.true c.in-Found.ensures.is in
    let t = c.range.ensures.value in
    rw (p, c.ignored.invariant.text) (rw (t, ← c.as_bytes-bytes.ensures.value) refl, refl)

pub returns-in-Wrong-clause-gives : goal.returns-in-Wrong-clause-gives
returns-in-Wrong-clause-gives c =
    let w = at_wrong c.as_bytes-bytes.result.now c.ignored.at c.in-Wrong.ahead c.in-Wrong.code c.ignored-test.true c.in-Wrong.ensures.is in
    let p = c.ignored.invariant.ahead ∙ w in
    rw (p, c.ignored.invariant.text) ((refl, refl), w)

pub returns-clause-gives : goal.returns-clause-gives
returns-clause-gives c =
    let n = lexed_none c.ignored.at c.ignored.at c.as_bytes-bytes.result.now c.ignored-test.false in
    let m = lexed_none (length c.as_bytes-bytes.result.now) (length c.as_bytes-bytes.result.now) c.as_bytes-bytes.result.now (omega arith) in
    let p = c.ignored.invariant.ahead ∙ n in
    rw (p, c.ignored.invariant.text) (refl, m)

pub returns-in-Found-clause-form : goal.returns-in-Found-clause-form
returns-in-Found-clause-form c =
    let l : c.in-Found.more < length (drop c.ignored.at c.as_bytes-bytes.result.now) = omega (arith, c.in-Found.ensures.sound.0, length-drop c.ignored.at c.as_bytes-bytes.result.now) in
    let m : c.ignored.at + (1 + c.in-Found.more) - c.ignored.at ≡ 1 + c.in-Found.more = omega arith in
    let t = found_token (drop c.ignored.at c.as_bytes-bytes.result.now) c.in-Found.kind c.in-Found.more l (sym c.in-Found.ensures.is) in
    rw (c.range.ensures.value, ← c.as_bytes-bytes.ensures.value, m) t
