-- What is put and what is left are the whole.
use Rattle.std.proofs.Common.{◌≡◌, drop}
use Rattle.plan_ir.specs.Nodes.{nodes_append}
use Rattle.plan_expand.specs.Adding.{ids_of_each}
use Rattle.plan_expand.proofs.additions.put_ids_on.Given as goal

abbrev pub invariant-names : goal.invariant-names
invariant-names l = nodes_append l.nodes (ids_of_each l.place (drop l.name-index l.names)) ≡ nodes_append l.initial.nodes (ids_of_each l.place l.names)
