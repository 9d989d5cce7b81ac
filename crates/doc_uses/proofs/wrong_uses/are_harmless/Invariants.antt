-- Where those that are left are harmless, all are.
use Rattle.std.proofs.Common.{List, map, drop}
use Rattle.doc_sites.specs.schema_types.Sites.{VariableAt}
use Rattle.doc_uses.specs.Named.{NamesVariables}
use Rattle.doc_uses.specs.Needs.{AreHarmless}
use Rattle.doc_uses.specs.UseView.{use_of}
use Rattle.doc_uses.proofs.wrong_uses.are_harmless.Given as goal

abbrev pub invariant-uses : goal.invariant-uses
invariant-uses l =
    (vs : List VariableAt) → NamesVariables l.table vs → AreHarmless vs l.least.at (map use_of (drop l.one-index l.uses)) → AreHarmless vs l.least.at (map use_of l.uses)
