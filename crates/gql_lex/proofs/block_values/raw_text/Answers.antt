use Rattle.std.proofs.Common.{◌≡◌, ◌+◌, ◌<◌, true, false, length, drop, sym, ◌∙◌, refl, arith}
use Rattle.std.proofs.lemmas.List.{length-drop, take_rest}
use Rattle.std.proofs.lemmas.Str.{IsCharBoundary-after_ascii}
use Rattle.gql_lex.specs.Characters.{is_three_quotes}
use Rattle.gql_lex.proofs.Blocks.{quotes_end, escaped_from}
use Rattle.gql_lex.proofs.Extents.{stands_within}
use Rattle.gql_lex.proofs.Pushes.{pushed_last, pushed_two}
use Rattle.gql_lex.proofs.StringKinds.{block_token}
use Rattle.gql_lex.proofs.block_values.raw_text.Goals as goal

pub raw-init : goal.raw-init
raw-init c =
    let k = rw (← c.as_bytes-bytes.ensures.value) at (block_token c.args.text.now c.requires) in
    let l = stands_within c.as_bytes-bytes.result.now 2 (omega (arith, k.2)) in
    record {
      ended = k.3;
      value = rw c.new-value.ensures.bytes refl;
      boundary = IsCharBoundary-after_ascii c.as_bytes-bytes.result.now 2 c.as_bytes-bytes.ensures.utf8 l (omega (arith, k.2));
      within = l;
    }

pub returns-then-is_three_quotes : goal.returns-then-is_three_quotes
returns-then-is_three_quotes c =
    let l : 0 < length (drop c.raw_end-end.result c.as_bytes-bytes.result.now) = omega (arith, length-drop c.raw_end-end.result c.as_bytes-bytes.result.now, c.raw_end-end.ensures.within.1) in
    let q : is_three_quotes (drop c.raw_end-end.result c.as_bytes-bytes.result.now) ≡ true = rw take_rest at (sym c.is_three_quotes.ensures ∙ c.if-is_three_quotes.true) in
    rw (← c.as_bytes-bytes.ensures.value)
    (pushed_last _ _ _ _ _ _ c.raw.invariant.value c.raw_end-end.ensures.value (quotes_end _ l q)
    (rw (← c.as_bytes-bytes.ensures.value) at (rw c.range.ensures.value at c.in_ok-push_str.ensures.bytes)))

pub raw-preserved : goal.raw-preserved
raw-preserved c =
    let q : is_three_quotes (drop c.raw_end-end.result c.as_bytes-bytes.result.now) ≡ false = rw take_rest at (sym c.is_three_quotes.ensures ∙ c.if-is_three_quotes.false) in
    let p = escaped_from c.as_bytes-bytes.result.now c.raw_end-end.result c.raw_end-end.ensures.rest c.raw_end-end.ensures.within.1 q c.raw_end-end.ensures.stops in
    let i : c.raw_end-end.result + 3 + 1 ≡ c.raw_end-end.result + 4 = omega arith in
    record {
      ended = p.rest;
      value = pushed_two _ _ _ _ _ _ _ _ _ c.raw.invariant.value c.raw_end-end.ensures.value p.value
          (rw (← c.as_bytes-bytes.ensures.value) at (rw c.range.ensures.value at c.in_ok-push_str.ensures.bytes)) c.in_ok-push_str-2.ensures.bytes;
      boundary = rw i at (IsCharBoundary-after_ascii c.as_bytes-bytes.result.now (c.raw_end-end.result + 3) c.as_bytes-bytes.ensures.utf8 (omega (arith, p.within)) p.last);
      within = omega (arith, p.within);
    }
