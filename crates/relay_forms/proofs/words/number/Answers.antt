use Rattle.std.proofs.Common.{sym, arith}
use Rattle.relay_forms.proofs.Numbers.{three_digits}
use Rattle.relay_forms.proofs.words.number.Goals as goal

pub returns-in-len3-up : goal.returns-in-len3-up
returns-in-len3-up c = let h = c.in-len3-up in sym (three_digits c.args.word.now (omega arith) c.requires)
