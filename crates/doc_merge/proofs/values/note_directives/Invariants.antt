-- What is noted and what is left are the whole.
use Rattle.std.proofs.Common.{◌≡◌, drop}
use Rattle.doc_merge.specs.Places.{least_from}
use Rattle.doc_merge.specs.Values.{directives_unfit}
use Rattle.doc_merge.proofs.values.note_directives.Given as goal

abbrev pub invariant-directives : goal.invariant-directives
invariant-directives l =
    least_from l.least.at (directives_unfit l.schema l.variables.defined.now l.place (drop l.directive-index l.directive-items)) ≡ least_from l.initial.least.at (directives_unfit l.schema l.variables.defined.now l.place l.directives)
