-- What is located and what is left are the whole.
use Rattle.std.proofs.Common.{◌≡◌, ◌+◌, ◌++◌, map, drop}
use Rattle.schema_types.specs.Sites.{variables_at, variables_nodes}
use Rattle.doc_sites.specs.SitesView.{variable_of}
use Rattle.doc_sites.proofs.parts.variables_at.Given as goal

abbrev pub invariant-variables : goal.invariant-variables
invariant-variables l =
    (map variable_of l.located.items ++ variables_at l.at (drop l.variable-index l.variable-items) ≡ variables_at l.initial.at l.variables)
    × (l.at + variables_nodes (drop l.variable-index l.variable-items) ≡ l.initial.at + variables_nodes l.variables)
