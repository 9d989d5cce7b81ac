use Rattle.std.proofs.Common.{◌≡◌, ◌+◌, ◌-◌, ◌<◌, length, refl, arith}
use Rattle.std.proofs.lemmas.Str.{IsCharBoundary-after_ascii, IsCharBoundary-start}
use Rattle.gql_lex.proofs.Breaks.{line_pushed}
use Rattle.gql_lex.proofs.lines.lines_of.Goals as goal

pub lines-init : goal.lines-init
lines-init c = record {
  whole = rw c.new-lines.ensures.items refl;
  boundary = IsCharBoundary-start c.as_bytes-bytes.result.now c.as_bytes-bytes.ensures.utf8;
  within = omega arith;
}

pub lines-preserved : goal.lines-preserved
lines-preserved c =
    let l : c.line_end-end.result < length c.as_bytes-bytes.result.now = omega (arith, c.if-end-bytes.false, c.line_end-end.ensures.within.1) in
    let h = rw (← c.next_line-at.ensures.is) at (c.line_end-end.ensures.more l) in
    let t = rw (← c.as_bytes-bytes.ensures.value) at c.range.ensures.value in
    let i : c.next_line-at.result - 1 + 1 ≡ c.next_line-at.result = omega (arith, c.next_line-at.ensures.within.0) in
    let k : c.next_line-at.result - 1 < length c.as_bytes-bytes.result.now = omega (arith, c.next_line-at.ensures.within.0, c.next_line-at.ensures.within.1) in
    record {
      whole = line_pushed _ _ _ _ _ _ _ c.lines.invariant.whole h c.in_ok-push.ensures.items t;
      boundary = rw i at (IsCharBoundary-after_ascii c.as_bytes-bytes.result.now (c.next_line-at.result - 1) c.as_bytes-bytes.ensures.utf8 k c.next_line-at.ensures.ascii);
      within = c.next_line-at.ensures.within.1;
    }
