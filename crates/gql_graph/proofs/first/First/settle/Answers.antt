-- One was found before; this rule does not hold, or it holds.
use Rattle.std.proofs.Common.{sym, ◌∙◌, arith}
use Rattle.gql_graph.proofs.LeastSteps.{found_before, found_none, found_here}
use Rattle.gql_graph.proofs.first.First.settle.Goals as goal

pub returns-then-is_some : goal.returns-then-is_some
returns-then-is_some g c = λ places more e. found_before c.args.self.now.found more _ (grind (arith, c.is_some.ensures))

pub returns-in-Some : goal.returns-in-Some
returns-in-Some g c = λ places more e. found_here c.args.rule places more c.args.self.now.found c.in-Some.at (grind (arith, c.is_some.ensures)) (sym e ∙ c.in-Some.is)

pub returns-in-None : goal.returns-in-None
returns-in-None g c = λ places more e. found_none c.args.rule places more c.args.self.now.found (grind (arith, c.is_some.ensures)) (sym e ∙ c.in-None.is)
