-- What is copied and what is left are the whole.
use Rattle.std.proofs.Common.{◌≡◌, ◌++◌, map, drop}
use Rattle.doc_sites.specs.SitesView.{variable_of}
use Rattle.plan_ir.specs.Expansion.{variable_trees}
use Rattle.plan_expand.proofs.operations.variables_of.Given as goal

abbrev pub invariant-variables : goal.invariant-variables
invariant-variables l = l.copies ++ variable_trees (map variable_of (drop l.variable-index l.variables)) ≡ variable_trees (map variable_of l.variables)
