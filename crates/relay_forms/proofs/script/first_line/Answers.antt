use Rattle.std.proofs.Common.{sym, ◌∙◌}
use Rattle.relay_forms.proofs.FirstLine.{first_line_is, no_end}
use Rattle.relay_forms.proofs.script.first_line.Goals as goal

pub returns-in-Some-clause-some : goal.returns-in-Some-clause-some
returns-in-Some-clause-some c = first_line_is c.args.bytes.now c.in-Some.end (sym c.end_of_line.ensures ∙ c.in-Some.is)

pub returns-in-None-clause-none : goal.returns-in-None-clause-none
returns-in-None-clause-none c = λ _. no_end c.args.bytes.now (sym c.end_of_line.ensures ∙ c.in-None.is)
