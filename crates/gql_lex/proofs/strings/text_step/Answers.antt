use Rattle.std.proofs.Common.{arith}
use Rattle.std.proofs.lemmas.Grind.{common_steps}
use Rattle.std.proofs.lemmas.Result.{err_from_is_err_and}
use Rattle.gql_lex.proofs.Skips.{text_quote, text_escape, text_escape_bad, text_plain, text_bad}
use Rattle.gql_lex.proofs.strings.text_step.Goals as goal

pub returns-then-first-eq34 : goal.returns-then-first-eq34
returns-then-first-eq34 c = text_quote _ c.requires (grind (arith, common_steps))

pub returns-in_err-len : goal.returns-in_err-len
returns-in_err-len c = let p = err_from_is_err_and c.from_residual.result c.from_residual.ensures.1 in rw (p.1, p.2) (text_escape_bad _ _ c.requires (grind (arith, common_steps)) (grind (arith, common_steps)))

pub returns-in_ok-len : goal.returns-in_ok-len
returns-in_ok-len c = (omega arith, omega (arith, c.in_ok-len.ensures.short), text_escape _ _ c.requires (grind (arith, common_steps)) (grind (arith, common_steps)))

pub returns-then-may_stand : goal.returns-then-may_stand
returns-then-may_stand c = (omega arith, omega arith, text_plain _ c.requires c.if-first-eq34.false c.if-first-eq92.false (grind (arith, common_steps)))

pub returns-else-may_stand : goal.returns-else-may_stand
returns-else-may_stand c = text_bad _ c.requires c.if-first-eq34.false c.if-first-eq92.false (grind (arith, common_steps))
