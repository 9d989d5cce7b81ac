use Rattle.std.proofs.Common.{arith, sym, ap, ◌∙◌, ◌≡◌, ◌<◌, ◌+◌, length, chars, get_or, drop, true, false}
use Rattle.std.specs.Prelude.{IsUtf8, IsCharBoundary}
use Rattle.std.proofs.lemmas.Grind.{common_steps}
use Rattle.std.proofs.lemmas.Str.{IsCharBoundary-after_ascii}
use Rattle.gql_lex.specs.Lines.{ends_line}
use Rattle.gql_lex.proofs.Ends.{ended_lines-le, turns_yes, turns_no, ends_line-ascii}
use Rattle.gql_lex.proofs.Counting.{IsOnLine, counted_to, counted_place, no_chars}
use Rattle.gql_lex.proofs.locator.Locator.advance.Goals as goal
use Rattle.gql_lex.proofs.locator.Locator.advance.Goals.{then-ends_line, else-ends_line}

pub overflow_add-line : goal.overflow_add-line
overflow_add-line c =
    let t : c.args.self.now.text ≡ c.self.inside.text.now = ap (λ v. v.text) (sym c.self.view_is) in
    omega (arith, ended_lines-le c.ends.i c.self.inside.text.now, ap length t, c.ends.invariant.lines)

pub ends-preserved : goal.ends-preserved
ends-preserved c = elim c.if-ends_line.branch [
  | then-ends_line w ↦
      let u : IsUtf8 c.self.inside.text.now = rw (sym c.as_bytes-bytes.ensures.value) c.as_bytes-bytes.ensures.utf8 in
      let tx : c.args.self.now.text ≡ c.self.inside.text.now = ap (λ v. v.text) (sym c.self.view_is) in
      let lt : c.ends.i < length c.self.inside.text.now = omega (arith, ap length tx) in
      let is : ends_line (get_or c.self.inside.text.now c.ends.i 0) (drop (c.ends.i + 1) c.self.inside.text.now) ≡ true = grind (arith, common_steps) in
      let t = turns_yes c.self.inside.text.now c.ends.i lt is in
      let b = IsCharBoundary-after_ascii c.self.inside.text.now c.ends.i u lt (ends_line-ascii (get_or c.self.inside.text.now c.ends.i 0) (drop (c.ends.i + 1) c.self.inside.text.now) is) in
      record {
        lines = rw (t.ends, w.line-is) (omega (arith, c.ends.invariant.lines));
        column = rw (t.start, w.start-is, w.column-is) (omega (arith, no_chars c.self.inside.text.now (c.ends.i + 1)));
        behind = rw (t.start, w.start-is) (omega arith);
        within = rw w.start-is (omega arith);
        first = rw t.start b;
        boundary = rw w.start-is b;
        few = rw (w.start-is, w.column-is) (omega arith);
      }
  | else-ends_line w ↦
      let tx : c.args.self.now.text ≡ c.self.inside.text.now = ap (λ v. v.text) (sym c.self.view_is) in
      let lt : c.ends.i < length c.self.inside.text.now = omega (arith, ap length tx) in
      let is : ends_line (get_or c.self.inside.text.now c.ends.i 0) (drop (c.ends.i + 1) c.self.inside.text.now) ≡ false = grind (arith, common_steps) in
      let t = turns_no c.self.inside.text.now c.ends.i lt is in
      record {
        lines = rw (t.ends, w.line-is) c.ends.invariant.lines;
        column = rw (t.start, w.start-is, w.column-is) c.ends.invariant.column;
        behind = rw (t.start, w.start-is) c.ends.invariant.behind;
        within = rw w.start-is (omega (arith, c.ends.invariant.within));
        first = rw t.start c.ends.invariant.first;
        boundary = rw w.start-is c.ends.invariant.boundary;
        few = rw (w.start-is, w.column-is) c.ends.invariant.few;
      }
]

pub overflow_add-column : goal.overflow_add-column
overflow_add-column c =
    let tx : c.args.self.now.text ≡ c.self.inside.text.now = ap (λ v. v.text) (sym c.self.view_is) in
    omega (arith, c.ends.invariant.few, c.char_count.ensures.within, c.range.ensures.len, ap length tx)

pub invariant_of-self : goal.invariant_of-self
invariant_of-self c =
    let u : IsUtf8 c.self.inside.text.now = rw (sym c.as_bytes-bytes.ensures.value) c.as_bytes-bytes.ensures.utf8 in
    let at : c.args.self.now.at ≡ c.self.inside.at = ap (λ v. v.at) (sym c.self.view_is) in
    let i : c.ends.i ≡ c.args.to = omega (arith, at) in
    let o : IsOnLine c.self.inside.text.now c.args.to c.ends.line c.ends.column c.ends.start = rw i at c.ends.invariant in
    let tx : c.args.self.now.text ≡ c.self.inside.text.now = ap (λ v. v.text) (sym c.self.view_is) in
    let b : IsCharBoundary c.self.inside.text.now c.args.to = rw tx at c.requires.between in
    counted_to c.self.inside.text.now c.args.to c.ends.line c.ends.column c.ends.start c.char_count.result c.self.invariant.short u b o
    (c.char_count.ensures.count ∙ ap (λ t. length (chars t)) c.range.ensures.value) (omega (arith, c.char_count.ensures.within, c.range.ensures.len))

pub returns-clause-is : goal.returns-clause-is
returns-clause-is c =
    let u : IsUtf8 c.self.inside.text.now = rw (sym c.as_bytes-bytes.ensures.value) c.as_bytes-bytes.ensures.utf8 in
    let at : c.args.self.now.at ≡ c.self.inside.at = ap (λ v. v.at) (sym c.self.view_is) in
    let i : c.ends.i ≡ c.args.to = omega (arith, at) in
    let o : IsOnLine c.self.inside.text.now c.args.to c.ends.line c.ends.column c.ends.start = rw i at c.ends.invariant in
    let tx : c.args.self.now.text ≡ c.self.inside.text.now = ap (λ v. v.text) (sym c.self.view_is) in
    let b : IsCharBoundary c.self.inside.text.now c.args.to = rw tx at c.requires.between in
    rw tx (counted_place c.self.inside.text.now c.args.to c.ends.line (c.ends.column + c.char_count.result)
    (counted_to c.self.inside.text.now c.args.to c.ends.line c.ends.column c.ends.start c.char_count.result c.self.invariant.short u b o
    (c.char_count.ensures.count ∙ ap (λ t. length (chars t)) c.range.ensures.value) (omega (arith, c.char_count.ensures.within, c.range.ensures.len))))
