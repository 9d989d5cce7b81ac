-- None so far has the name.
use Rattle.std.proofs.Common.{◌≡◌, map, drop}
use Rattle.doc_uses.specs.doc_sites.SitesView.{argument_of}
use Rattle.relay_marks.specs.Connections.{value_named}
use Rattle.relay_dirs.proofs.values.value_named.Given as goal

abbrev pub invariant-arguments : goal.invariant-arguments
invariant-arguments l = value_named (map argument_of (drop l.argument-index l.arguments)) l.name ≡ value_named (map argument_of l.arguments) l.name
