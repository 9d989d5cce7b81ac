-- A fragment of the project has a plan.
use Rattle.plan_project.proofs.KeptReaders.{fragment_has_reader}
use Rattle.plan_project.proofs.operations.compile_fragment.Goals as goal

pub reader-requires-clause-there : goal.reader-requires-clause-there
reader-requires-clause-there c =
    let e = c.args.planner.now.expander in
    fragment_has_reader e.schema.now e.documents.now c.args.fragment.now.name c.requires.there
