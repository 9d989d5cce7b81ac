use Rattle.std.proofs.Common.{◌≡◌, ◌+◌, ◌-◌, ◌<◌, length, drop, get_or, refl, arith}
use Rattle.std.proofs.lemmas.List.{get_or-drop, length-drop}
use Rattle.std.proofs.lemmas.Str.{IsCharBoundary-after_ascii}
use Rattle.gql_lex.proofs.Texts.{quote_ends}
use Rattle.gql_lex.proofs.Extents.{stands_within}
use Rattle.gql_lex.proofs.Pushes.{pushed_last, pushed_two}
use Rattle.gql_lex.proofs.StringKinds.{text_token}
use Rattle.gql_lex.proofs.text_values.text_value.Goals as goal

pub text-init : goal.text-init
text-init c =
    let k = rw (← c.as_bytes-bytes.ensures.value) at (text_token c.args.text.now c.requires) in
    let l = stands_within c.as_bytes-bytes.result.now 0 (omega (arith, k.0)) in
    record {
      ended = k.1;
      value = rw c.new-value.ensures.bytes refl;
      boundary = IsCharBoundary-after_ascii c.as_bytes-bytes.result.now 0 c.as_bytes-bytes.ensures.utf8 l (omega (arith, k.0));
      within = l;
    }

pub returns-then-bytes-end-eq34 : goal.returns-then-bytes-end-eq34
returns-then-bytes-end-eq34 c =
    let l : 0 < length (drop c.plain_end-end.result c.as_bytes-bytes.result.now) = omega (arith, length-drop c.plain_end-end.result c.as_bytes-bytes.result.now, c.plain_end-end.ensures.within.1) in
    let z : c.plain_end-end.result + 0 ≡ c.plain_end-end.result = omega arith in
    let q : get_or (drop c.plain_end-end.result c.as_bytes-bytes.result.now) 0 0 ≡ 34 = rw (get_or-drop c.plain_end-end.result c.as_bytes-bytes.result.now 0 0, z) c.if-bytes-end-eq34.true in
    rw (← c.as_bytes-bytes.ensures.value)
    (pushed_last _ _ _ _ _ _ c.text.invariant.value c.plain_end-end.ensures.value (quote_ends _ l q)
    (rw (← c.as_bytes-bytes.ensures.value) at (rw c.range.ensures.value at c.in_ok-push_str.ensures.bytes)))

pub text-preserved : goal.text-preserved
text-preserved c =
    let i : c.unescape-character.result.1 - 1 + 1 ≡ c.unescape-character.result.1 = omega (arith, c.unescape-character.ensures.within.0) in
    let l : c.unescape-character.result.1 - 1 < length c.as_bytes-bytes.result.now = omega (arith, c.unescape-character.ensures.within.1) in
    record {
      ended = c.unescape-character.ensures.rest;
      value = pushed_two _ _ _ _ _ _ _ _ _ c.text.invariant.value c.plain_end-end.ensures.value c.unescape-character.ensures.value
          (rw (← c.as_bytes-bytes.ensures.value) at (rw c.range.ensures.value at c.in_ok-push_str.ensures.bytes)) c.in_ok-push.ensures.bytes;
      boundary = rw i at (IsCharBoundary-after_ascii c.as_bytes-bytes.result.now (c.unescape-character.result.1 - 1) c.as_bytes-bytes.ensures.utf8 l c.unescape-character.ensures.ascii);
      within = omega (arith, c.unescape-character.ensures.within.1);
    }
