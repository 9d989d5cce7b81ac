use Rattle.std.proofs.Common.{arith}
use Rattle.image_rules.proofs.ListLaws.{named, not_short}
use Rattle.image_rules.proofs.texts.are_names.Goals as goal

pub returns-then-not-are_short : goal.returns-then-not-are_short
returns-then-not-are_short c = not_short c.args.names.now c.args.limit c.are_short.result c.are_short.ensures c.if-not-are_short.true

pub returns : goal.returns
returns c =
    named c.args.names.now c.args.limit c.are_short.result c.in_ok-apart.apart (omega (arith, c.if-names-limit.false)) c.are_short.ensures c.if-not-are_short.false
    c.in_ok-apart.ensures
