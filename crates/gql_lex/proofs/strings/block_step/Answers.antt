use Rattle.std.proofs.Common.{arith, sym, ◌∙◌}
use Rattle.gql_lex.proofs.Skips.{block_quotes, block_escape, block_plain, block_bad}
use Rattle.gql_lex.proofs.strings.block_step.Goals as goal

pub returns-then-is_three_quotes : goal.returns-then-is_three_quotes
returns-then-is_three_quotes c = block_quotes _ c.requires (sym c.is_three_quotes.ensures ∙ c.if-is_three_quotes.true)

pub returns-then-is_escaped_quotes : goal.returns-then-is_escaped_quotes
returns-then-is_escaped_quotes c = (omega arith, omega arith, block_escape _ c.requires (sym c.is_three_quotes.ensures ∙ c.if-is_three_quotes.false) (sym c.is_escaped_quotes.ensures ∙ c.if-is_escaped_quotes.true))

pub returns-then-may_stand_in_block : goal.returns-then-may_stand_in_block
returns-then-may_stand_in_block c = (omega arith, omega arith, block_plain _ c.requires (sym c.is_three_quotes.ensures ∙ c.if-is_three_quotes.false) (sym c.is_escaped_quotes.ensures ∙ c.if-is_escaped_quotes.false) (sym c.may_stand_in_block.ensures ∙ c.if-may_stand_in_block.true))

pub returns-else-may_stand_in_block : goal.returns-else-may_stand_in_block
returns-else-may_stand_in_block c = block_bad _ c.requires (sym c.is_three_quotes.ensures ∙ c.if-is_three_quotes.false) (sym c.is_escaped_quotes.ensures ∙ c.if-is_escaped_quotes.false) (sym c.may_stand_in_block.ensures ∙ c.if-may_stand_in_block.false)
