-- What is collected and what is left are the whole.
use Rattle.std.proofs.Common.{◌≡◌, ◌++◌, map, drop}
use Rattle.doc_uses.specs.schema_types.ArgumentRules as rules
use Rattle.doc_uses.specs.schema_trees.LocatedView.{name_of}
use Rattle.doc_uses.specs.doc_sites.SitesView.{argument_of}
use Rattle.doc_args.proofs.rules.arguments.argument_names.Given as goal

abbrev pub invariant-arguments : goal.invariant-arguments
invariant-arguments l =
    map name_of l.names.items ++ rules.argument_names (map argument_of (drop l.argument-index l.arguments)) ≡ rules.argument_names (map argument_of l.arguments)
