-- What is noted and what is left are the whole.
use Rattle.std.proofs.Common.{◌≡◌, [], List, map, drop}
use Rattle.doc_sites.specs.schema_types.ArgumentRules as rules
use Rattle.doc_sites.specs.gql_graph.Rules.{each}
use Rattle.doc_sites.specs.gql_graph.Leasts.{least_from}
use Rattle.doc_sites.specs.schema_types.Sites.{VariableAt}
use Rattle.doc_uses.specs.Named.{NamesVariables}
use Rattle.doc_uses.specs.UseView.{use_of}
use Rattle.doc_uses.proofs.wrong_uses.note_uses.Given as goal

abbrev pub invariant-uses : goal.invariant-uses
invariant-uses l =
    (vs : List VariableAt) → NamesVariables l.table vs → least_from l.least.at (each (rules.use_wrong vs []) (map use_of (drop l.one-index l.uses))) ≡ least_from l.initial.least.at (each (rules.use_wrong vs []) (map use_of l.uses))
