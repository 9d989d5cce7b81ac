-- A name that is seen already, and a new one.
use Rattle.std.proofs.Common.{arith}
use Rattle.gql_graph.proofs.Searching.{none_put, one_put}
use Rattle.gql_graph.proofs.graph.put_unseen.Goals as goal

pub returns-then-not-is_new-clause-rest : goal.returns-then-not-is_new-clause-rest
returns-then-not-is_new-clause-rest c = λ ns k. none_put ns c.args.name.now c.in_ok-is_new.is_new _ (c.in_ok-is_new.ensures.new_name ns k) (grind arith)

pub returns-clause-rest : goal.returns-clause-rest
returns-clause-rest c = λ ns k. one_put ns c.args.name c.in_ok-is_new.is_new c.args.rest.now.items _ (c.in_ok-is_new.ensures.new_name ns k) (grind arith) c.in_ok-push.ensures.items
