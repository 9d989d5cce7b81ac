use Rattle.std.proofs.Common.{sym, ◌∙◌}
use Rattle.image_marks.proofs.NoMarks.{no_mark}
use Rattle.image_marks.specs.Stack.{opened}
use Rattle.image_marks.proofs.flat.take_text.Goals as goal

pub returns : goal.returns
unfolding lib.Utf8.encode
returns c =
    no_mark c.args.text.now (opened c.args.stack.now.items) c.in_default.ensures.cases
    (sym c.eq.ensures ∙ c.if-eq.false) (sym c.eq-2.ensures ∙ c.if-eq-2.false) (sym c.eq-3.ensures ∙ c.if-eq-3.false) (sym c.eq-4.ensures ∙ c.if-eq-4.false)
