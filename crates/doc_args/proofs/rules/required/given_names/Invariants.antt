-- What is collected and what is left are the whole.
use Rattle.std.proofs.Common.{◌≡◌, ◌++◌, map, drop}
use Rattle.doc_uses.specs.schema_trees.LocatedView.{name_of}
use Rattle.doc_uses.specs.doc_sites.SitesView.{argument_of}
use Rattle.doc_args.specs.GivenNames.{given_names}
use Rattle.doc_args.proofs.rules.required.given_names.Given as goal

abbrev pub invariant-arguments : goal.invariant-arguments
invariant-arguments l =
    map name_of l.names.items ++ given_names (map argument_of (drop l.argument-index l.arguments)) ≡ given_names (map argument_of l.arguments)
