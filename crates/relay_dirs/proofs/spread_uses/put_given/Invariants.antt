-- What is put and what is left are the whole.
use Rattle.std.proofs.Common.{◌≡◌, ◌++◌, List, map, drop, option_map}
use Rattle.constant_values.specs.gql_graph.Rules.{each}
use Rattle.doc_uses.specs.doc_sites.SitesView.{argument_of}
use Rattle.relay_marks.specs.Locals.{Local}
use Rattle.relay_rules.specs.Spreads.{uses_of_given}
use Rattle.relay_dirs.specs.Tables.{Finds}
use Rattle.doc_uses.specs.UseView.{use_of}
use Rattle.relay_dirs.proofs.spread_uses.put_given.Given as goal

abbrev pub invariant-given : goal.invariant-given
invariant-given l = (ls : List Local) → Finds (option_map (λ t. t.now) l.locals) ls
    → map use_of l.uses.items ++ each (uses_of_given l.schema l.at ls) (map argument_of (drop l.argument-index l.given))
    ≡ map use_of l.initial.uses.items ++ each (uses_of_given l.schema l.at ls) (map argument_of l.given)
