use Rattle.std.proofs.lemmas.Result.{err_from_is_err_and}
use Rattle.gql_sdl.specs.Machine as machine
use Rattle.gql_sdl.proofs.DefinitionReads as D
use Rattle.gql_sdl.proofs.definitions.read_interface.Goals as goal

pub returns-in_err-of-clause-reads : goal.returns-in_err-of-clause-reads
returns-in_err-of-clause-reads c =
    let e = err_from_is_err_and c.from_residual.result c.from_residual.ensures.1 in
    rw (e.1, e.2) (D.fielded-fail machine.an_interface c.args.cursor.now c.in_err-of.field-0.0 c.in_err-of.ensures.reads)

pub returns-clause-reads : goal.returns-clause-reads
returns-clause-reads c = D.interface-read c.args.nodes c.args.cursor.now c.read_fielded.new.cursor c.in_ok-of.of c.in_ok-of.ensures.reads
