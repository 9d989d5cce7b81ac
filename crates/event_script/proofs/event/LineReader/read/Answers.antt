use Rattle.std.proofs.Common.{subst}
use Rattle.event_script.proofs.Lines.{line_of-text, line_of-no_text}
use Rattle.event_script.specs.Seen.{Says}
use Rattle.event_script.proofs.event.LineReader.read.Goals as goal

pub returns-in-Ok : goal.returns-in-Ok
returns-in-Ok c =
    subst (λ line. Says c.event_of_text.result line)
    (line_of-text c.args.line.now c.in-Ok.text.now c.if-line-gt-MAX_LINE.false c.in-Ok.ensures.cases.1 c.in-Ok.ensures.cases.0)
    c.event_of_text.ensures

pub returns-in-Err : goal.returns-in-Err
returns-in-Err c = line_of-no_text c.args.line.now c.if-line-gt-MAX_LINE.false c.in-Err.ensures.cases.0
