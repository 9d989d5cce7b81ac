use Rattle.std.proofs.Common.{◌∙◌, arith}
use Rattle.relay_forms.proofs.Numbers.{other}
use Rattle.relay_forms.proofs.words.is_buffer.Goals as goal

pub returns-in-len3-up : goal.returns-in-len3-up
returns-in-len3-up c = let h = c.in-len3-up in c.eq.ensures ∙ other c.args.word.now (omega arith)
