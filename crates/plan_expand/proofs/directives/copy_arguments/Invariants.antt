-- What is copied and what is left are the whole.
use Rattle.std.proofs.Common.{◌≡◌, ◌++◌, map, drop}
use Rattle.doc_sites.specs.SitesView.{argument_of}
use Rattle.plan_ir.specs.Expansion.{argument_pairs}
use Rattle.plan_expand.proofs.directives.copy_arguments.Given as goal

abbrev pub invariant-arguments : goal.invariant-arguments
invariant-arguments l =
    l.copies ++ argument_pairs (map argument_of (drop l.argument-index l.arguments)) ≡ argument_pairs (map argument_of l.arguments)
