-- What is noted and what is left are the whole.
use Rattle.std.proofs.Common.{◌≡◌, List, map, drop}
use Rattle.constant_values.specs.gql_graph.Leasts.{least_from}
use Rattle.constant_values.specs.gql_graph.Rules.{each}
use Rattle.relay_marks.specs.Locals.{Local}
use Rattle.relay_dirs.specs.Tables.{Serves}
use Rattle.relay_rules.specs.Spreads.{local_use_wrong}
use Rattle.doc_uses.specs.UseView.{use_of}
use Rattle.relay_dirs.proofs.rules.local_uses.note_uses.Given as goal

abbrev pub invariant-uses : goal.invariant-uses
invariant-uses l =
    (ls : List Local) → Serves l.own ls → least_from l.least.at (each (local_use_wrong ls) (map use_of (drop l.one-index l.uses))) ≡ least_from l.initial.least.at (each (local_use_wrong ls) (map use_of l.uses))
