-- What is put and what is left are the whole.
use Rattle.std.proofs.Common.{◌≡◌, ◌++◌, map, drop}
use Rattle.constant_values.specs.gql_graph.Rules.{each}
use Rattle.relay_dirs.specs.Tables.{required_name}
use Rattle.relay_marks.specs.View.{local_view}
use Rattle.relay_dirs.proofs.fragments.required_names.Given as goal

abbrev pub invariant-locals : goal.invariant-locals
invariant-locals l = map (λ n. n.now) l.names.items ++ each required_name (map local_view (drop l.local-index l.locals)) ≡ each required_name (map local_view l.locals)
