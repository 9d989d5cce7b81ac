-- What is noted and what is left are the whole.
use Rattle.std.proofs.Common.{◌≡◌, map, drop}
use Rattle.plan_ir.specs.gql_ast.ValueView.{argument_of}
use Rattle.doc_merge.specs.Places.{least_from}
use Rattle.doc_merge.specs.Values.{arguments_unfit}
use Rattle.doc_merge.proofs.values.note_arguments.Given as goal

abbrev pub invariant-arguments : goal.invariant-arguments
invariant-arguments l =
    least_from l.least.at (arguments_unfit l.schema l.variables.defined.now l.inputs l.place (map argument_of (drop l.argument-index l.argument-items)))
    ≡ least_from l.initial.least.at (arguments_unfit l.schema l.variables.defined.now l.inputs l.place l.arguments)
