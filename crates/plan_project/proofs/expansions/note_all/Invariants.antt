-- What is noted and what is left are the whole.
use Rattle.std.proofs.Common.{drop, map}
use Rattle.plan_read.specs.doc_sites.SitesView.{definition_of}
use Rattle.plan_project.proofs.NotingSteps.{AreNoted}
use Rattle.plan_project.proofs.expansions.note_all.Given as goal

abbrev pub invariant-definitions : goal.invariant-definitions
invariant-definitions l =
    AreNoted l.schema l.documents l.noted (map definition_of (drop l.definition-index l.definitions)) (map definition_of l.definitions)
