use Rattle.gql_lex.proofs.Counting.{counted_none}
use Rattle.gql_lex.proofs.locator.Locator.new.Goals as goal

pub invariant_of-result : goal.invariant_of-result
invariant_of-result c = counted_none c.args.text.now c.requires.short c.utf8.text
