-- What is collected and what is left are the whole.
use Rattle.std.proofs.Common.{◌≡◌, ◌++◌, List, map, drop}
use Rattle.doc_sites.specs.gql_graph.Seen.{Knows}
use Rattle.doc_sites.specs.gql_graph.Texts.{Text}
use Rattle.doc_uses.specs.Parts.{free_uses}
use Rattle.doc_uses.specs.UseView.{use_of}
use Rattle.doc_uses.proofs.uses_by_name.free_uses.Given as goal

abbrev pub invariant-uses : goal.invariant-uses
invariant-uses l =
    (ns : List Text) → Knows l.locals.names ns → map use_of l.rest.items ++ free_uses ns (map use_of (drop l.one-index l.uses)) ≡ free_uses ns (map use_of l.uses)
