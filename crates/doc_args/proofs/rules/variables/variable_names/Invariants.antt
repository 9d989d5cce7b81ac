-- What is collected and what is left are the whole.
use Rattle.std.proofs.Common.{◌≡◌, ◌++◌, map, drop}
use Rattle.doc_uses.specs.schema_trees.LocatedView.{name_of}
use Rattle.doc_uses.specs.doc_sites.SitesView.{variable_of}
use Rattle.doc_args.specs.UsesIn.{variable_names}
use Rattle.doc_args.proofs.rules.variables.variable_names.Given as goal

abbrev pub invariant-variables : goal.invariant-variables
invariant-variables l =
    map name_of l.names.items ++ variable_names (map variable_of (drop l.variable-index l.variables)) ≡ variable_names (map variable_of l.variables)
