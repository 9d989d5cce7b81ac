use Rattle.std.proofs.Common.{arith}
use Rattle.std.proofs.lemmas.Result.{err_from_is_err_and}
use Rattle.gql_sdl.proofs.MemberReads.{value-no_directives, value-read}
use Rattle.gql_sdl.proofs.members.read_enum_value.Goals as goal

pub returns-in_err-name-clause-reads : goal.returns-in_err-name-clause-reads
returns-in_err-name-clause-reads c =
    let e = err_from_is_err_and c.from_residual.result c.from_residual.ensures.1 in
    rw (e.1, e.2) c.in_err-name.ensures.reads

pub returns-in_err-directives-clause-reads : goal.returns-in_err-directives-clause-reads
returns-in_err-directives-clause-reads c =
    let e = err_from_is_err_and c.from_residual-in_err-directives.result c.from_residual-in_err-directives.ensures.1 in
    rw (e.1, e.2) (value-no_directives c.args.cursor.now c.read_value_name.new.cursor c.in_ok-name.name c.in_ok-name.ensures.reads c.in_err-directives.field-0.0 c.in_err-directives.ensures.reads)

pub returns-clause-reads : goal.returns-clause-reads
returns-clause-reads c =
    value-read c.args.cursor.now c.read_value_name.new.cursor c.in_ok-name.name c.in_ok-name.ensures.reads
    c.read_directives.new.cursor c.in_ok-directives.directives c.in_ok-directives.ensures.reads c.in_ok-directives.ensures.same c.in_ok-directives.ensures.last c.in_ok-directives.ensures.places
    (omega (arith, c.in_ok-name.ensures.taken, c.in_ok-directives.ensures.taken))
