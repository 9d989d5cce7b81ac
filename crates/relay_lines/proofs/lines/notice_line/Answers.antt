use Rattle.relay_lines.proofs.lines.notice_line.Goals as goal

pub returns : goal.returns
returns c = c.shown_line.ensures
