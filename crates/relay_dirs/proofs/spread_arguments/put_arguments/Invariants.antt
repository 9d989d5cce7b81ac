-- What is put and what is left are the whole.
use Rattle.std.proofs.Common.{◌≡◌, ◌++◌, map, drop}
use Rattle.doc_uses.specs.doc_sites.SitesView.{argument_of}
use Rattle.relay_dirs.proofs.spread_arguments.put_arguments.Given as goal

abbrev pub invariant-arguments : goal.invariant-arguments
invariant-arguments l = map argument_of l.given.items ++ map argument_of (drop l.argument-index l.arguments) ≡ map argument_of l.initial.given.items ++ map argument_of l.arguments
