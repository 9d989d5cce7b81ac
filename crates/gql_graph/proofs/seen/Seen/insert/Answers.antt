-- What the set knows, once a name is put.
use Rattle.gql_graph.proofs.SeenSteps.{put_known}
use Rattle.gql_graph.proofs.seen.Seen.insert.Goals as goal

pub returns-clause-known : goal.returns-clause-known
returns-clause-known c = λ before k n. put_known c.args.name.now n _ _ before (c.in_ok-is_new.ensures.updates.0 (record { ref_ptr = (0, 0); now = n })) (k n)
