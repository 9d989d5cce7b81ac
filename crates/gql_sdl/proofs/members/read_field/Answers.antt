use Rattle.std.proofs.Common.{arith, ap}
use Rattle.std.proofs.lemmas.Result.{err_from_is_err_and}
use Rattle.gql_syntax.specs.Nexts.{token_count}
use Rattle.gql_sdl.proofs.InputReads.{behind-count}
use Rattle.gql_sdl.proofs.MemberReads.{field-no_name, field-no_arguments, field-no_colon, field-no_type, field-no_directives, field-read}
use Rattle.gql_sdl.proofs.members.read_field.Goals as goal

pub returns-in_err-name-clause-reads : goal.returns-in_err-name-clause-reads
returns-in_err-name-clause-reads c =
    let e = err_from_is_err_and c.from_residual.result c.from_residual.ensures.1 in
    rw (e.1, e.2) (field-no_name c.args.cursor.now c.in_err-name.field-0.0 c.in_err-name.ensures.reads)

pub returns-in_err-arguments-clause-reads : goal.returns-in_err-arguments-clause-reads
returns-in_err-arguments-clause-reads c =
    let e = err_from_is_err_and c.from_residual-in_err-arguments.result c.from_residual-in_err-arguments.ensures.1 in
    rw (e.1, e.2) (field-no_arguments c.args.cursor.now c.read_member_name.new.cursor c.in_ok-name.name c.in_ok-name.ensures.reads c.in_err-arguments.field-0.0 c.in_err-arguments.ensures.reads)

pub returns-in_err-expect-clause-reads : goal.returns-in_err-expect-clause-reads
returns-in_err-expect-clause-reads c =
    let e = err_from_is_err_and c.from_residual-in_err-expect.result c.from_residual-in_err-expect.ensures.1 in
    rw (e.1, e.2) (field-no_colon c.args.cursor.now c.read_member_name.new.cursor c.in_ok-name.name c.in_ok-name.ensures.reads
    c.read_inputs.new.cursor c.in_ok-arguments.arguments c.in_ok-arguments.ensures.reads c.in_err-expect.field-0.0 c.in_err-expect.ensures.fault)

pub returns-in_err-of-clause-reads : goal.returns-in_err-of-clause-reads
returns-in_err-of-clause-reads c =
    let e = err_from_is_err_and c.from_residual-in_err-of.result c.from_residual-in_err-of.ensures.1 in
    rw (e.1, e.2) (field-no_type c.args.cursor.now c.read_member_name.new.cursor c.in_ok-name.name c.in_ok-name.ensures.reads
    c.read_inputs.new.cursor c.in_ok-arguments.arguments c.in_ok-arguments.ensures.reads
    c.expect.new.cursor c.in_ok-expect.ensures.found c.in_ok-expect.ensures.source c.expect.ensures.same c.in_err-of.field-0.0 c.in_err-of.ensures.reads)

pub returns-in_err-directives-clause-reads : goal.returns-in_err-directives-clause-reads
returns-in_err-directives-clause-reads c =
    let e = err_from_is_err_and c.from_residual-in_err-directives.result c.from_residual-in_err-directives.ensures.1 in
    rw (e.1, e.2) (field-no_directives c.args.cursor.now c.read_member_name.new.cursor c.in_ok-name.name c.in_ok-name.ensures.reads
    c.read_inputs.new.cursor c.in_ok-arguments.arguments c.in_ok-arguments.ensures.reads
    c.expect.new.cursor c.in_ok-expect.ensures.found c.in_ok-expect.ensures.source c.expect.ensures.same
    c.read_type.new.cursor c.in_ok-of.of c.in_ok-of.ensures.reads c.in_ok-of.ensures.same c.in_err-directives.field-0.0 c.in_err-directives.ensures.reads)

pub returns-clause-reads : goal.returns-clause-reads
returns-clause-reads c =
    field-read c.args.cursor.now c.read_member_name.new.cursor c.in_ok-name.name c.in_ok-name.ensures.reads
    c.read_inputs.new.cursor c.in_ok-arguments.arguments c.in_ok-arguments.ensures.reads
    c.expect.new.cursor c.in_ok-expect.ensures.found c.in_ok-expect.ensures.source c.expect.ensures.same
    c.read_type.new.cursor c.in_ok-of.of c.in_ok-of.ensures.reads c.in_ok-of.ensures.same
    c.read_directives.new.cursor c.in_ok-directives.directives c.in_ok-directives.ensures.reads c.in_ok-directives.ensures.same c.in_ok-directives.ensures.last
    c.in_ok-expect.ensures.places c.in_ok-of.ensures.places c.in_ok-directives.ensures.places
    (omega (arith, c.in_ok-name.ensures.taken, c.in_ok-arguments.ensures.reads.taken, ap token_count c.in_ok-expect.ensures.source, behind-count c.read_inputs.new.cursor.source, c.in_ok-of.ensures.taken, c.in_ok-directives.ensures.taken))

pub returns-clause-taken : goal.returns-clause-taken
returns-clause-taken c =
    omega (arith, c.in_ok-name.ensures.taken, c.in_ok-arguments.ensures.reads.taken, ap token_count c.in_ok-expect.ensures.source, behind-count c.read_inputs.new.cursor.source, c.in_ok-of.ensures.taken, c.in_ok-directives.ensures.taken)
