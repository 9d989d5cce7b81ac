-- What is put and what is left are the whole.
use Rattle.std.proofs.Common.{◌≡◌, ◌++◌, map, drop}
use Rattle.schema_types.specs.ArgumentRules as rules
use Rattle.schema_types.specs.schema_trees.LocatedView.{name_of}
use Rattle.doc_sites.specs.SitesView.{argument_of}
use Rattle.doc_sites.proofs.locals.put_names.Given as goal

abbrev pub invariant-arguments : goal.invariant-arguments
invariant-arguments l =
    map name_of l.names.items ++ rules.argument_names (map argument_of (drop l.argument-index l.arguments)) ≡ map name_of l.initial.names.items ++ rules.argument_names (map argument_of l.arguments)
