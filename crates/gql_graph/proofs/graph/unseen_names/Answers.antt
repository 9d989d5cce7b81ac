-- One more name.
use Rattle.std.proofs.Common.{List, [], ◌++◌, map, refl, ap, arith}
use Rattle.gql_graph.specs.Graphs.{unseen_names}
use Rattle.gql_graph.specs.Texts.{Text}
use Rattle.gql_graph.proofs.Searching.{puts_next, puts_end, all_known}
use Rattle.gql_graph.proofs.graph.unseen_names.Goals as goal
use denote.Ref.{Bor}

pub names-init : goal.names-init
names-init c = λ ns k. (ns, k, ap (λ (l : List (Bor Text)). map (λ (n : Bor Text). n.now) l ++ unseen_names ns (map (λ (n : Bor Text). n.now) c.args.names.now)) c.new-rest.ensures.items, λ m. refl)

pub names-preserved : goal.names-preserved
names-preserved c = λ ns k.
    let p = c.names.invariant ns k in
    puts_next c.put_unseen.new.seen.names p.0 _ _ _ _ c.args.names.now c.names.name-index (record { ref_ptr = (0, 0); now = [] }) (omega arith)
    (c.in_ok-put_unseen.ensures.known p.0 p.1) (c.in_ok-put_unseen.ensures.rest p.0 p.1) p.2 p.3

pub returns-clause-rest : goal.returns-clause-rest
returns-clause-rest c = λ ns k. puts_end c.names.seen.names _ c.args.names.now c.names.name-index _ _ (omega arith) (c.names.invariant ns k)

pub returns-clause-known : goal.returns-clause-known
returns-clause-known c = λ ns k. all_known c.names.seen.names _ ns c.args.names.now c.names.name-index _ (omega arith) (c.names.invariant ns k)
