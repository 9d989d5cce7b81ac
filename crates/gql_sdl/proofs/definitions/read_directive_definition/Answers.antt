use Rattle.std.proofs.Common.{ap, arith}
use Rattle.std.proofs.lemmas.Result.{err_from_is_err_and}
use Rattle.gql_syntax.specs.gql_lex.Toks as tok
use Rattle.gql_syntax.specs.Nexts.{token_count}
use Rattle.gql_syntax.proofs.Tokens.{comes_word}
use Rattle.gql_sdl.proofs.InputReads.{behind-count, behind-fewer}
use Rattle.gql_sdl.proofs.DefinitionReads as D
use Rattle.gql_sdl.proofs.definitions.read_directive_definition.Goals as goal

pub returns-in_err-expect-clause-reads : goal.returns-in_err-expect-clause-reads
returns-in_err-expect-clause-reads c =
    let e = err_from_is_err_and c.from_residual-in_err-expect.result c.from_residual-in_err-expect.ensures.1 in
    rw (e.1, e.2) (D.directive-no_sign c.args.cursor.now c.skip.new.self c.in_ok-skip.ensures.source c.skip.ensures.same c.in_err-expect.field-0.0 c.in_err-expect.ensures.fault)

pub returns-in_err-name-clause-reads : goal.returns-in_err-name-clause-reads
returns-in_err-name-clause-reads c =
    let e = err_from_is_err_and c.from_residual-in_err-name.result c.from_residual-in_err-name.ensures.1 in
    rw (e.1, e.2) (D.directive-no_name c.args.cursor.now c.skip.new.self c.in_ok-skip.ensures.source c.skip.ensures.same c.expect.new.cursor c.in_ok-expect.ensures.found c.in_ok-expect.ensures.source c.expect.ensures.same c.in_err-name.field-0.0 c.in_err-name.ensures.fault)

pub returns-in_err-arguments-clause-reads : goal.returns-in_err-arguments-clause-reads
returns-in_err-arguments-clause-reads c =
    let e = err_from_is_err_and c.from_residual-in_err-arguments.result c.from_residual-in_err-arguments.ensures.1 in
    rw (e.1, e.2) (D.directive-no_arguments c.args.cursor.now c.skip.new.self c.expect.new.cursor c.read_name.new.cursor c.in_ok-name.name c.in_ok-skip.ensures.source c.skip.ensures.same c.in_ok-expect.ensures.found c.in_ok-expect.ensures.source c.expect.ensures.same c.in_ok-name.ensures.name c.in_ok-name.ensures.source c.read_name.ensures.same c.in_err-arguments.field-0.0 c.in_err-arguments.ensures.reads)

pub returns-in_err-repeatable-clause-reads : goal.returns-in_err-repeatable-clause-reads
returns-in_err-repeatable-clause-reads c =
    let e = err_from_is_err_and c.from_residual-in_err-repeatable.result c.from_residual-in_err-repeatable.ensures.1 in
    rw (e.1, e.2) (D.directive-no_marks c.args.cursor.now c.skip.new.self c.expect.new.cursor c.read_name.new.cursor c.in_ok-name.name c.in_ok-skip.ensures.source c.skip.ensures.same c.in_ok-expect.ensures.found c.in_ok-expect.ensures.source c.expect.ensures.same c.in_ok-name.ensures.name c.in_ok-name.ensures.source c.read_name.ensures.same c.read_inputs.new.cursor c.in_ok-arguments.arguments c.in_ok-arguments.ensures.reads c.in_err-repeatable.field-0.0 c.in_err-repeatable.ensures.reads)

pub returns-in_err-locations-clause-reads : goal.returns-in_err-locations-clause-reads
returns-in_err-locations-clause-reads c =
    let e = err_from_is_err_and c.from_residual-in_err-locations.result c.from_residual-in_err-locations.ensures.1 in
    rw (e.1, e.2) (D.directive-no_locations c.args.cursor.now c.skip.new.self c.expect.new.cursor c.read_name.new.cursor c.in_ok-name.name c.in_ok-skip.ensures.source c.skip.ensures.same c.in_ok-expect.ensures.found c.in_ok-expect.ensures.source c.expect.ensures.same c.in_ok-name.ensures.name c.in_ok-name.ensures.source c.read_name.ensures.same c.read_inputs.new.cursor c.in_ok-arguments.arguments c.in_ok-arguments.ensures.reads c.read_repeatable.new.cursor c.in_ok-repeatable.repeatable c.in_ok-repeatable.ensures.reads c.in_err-locations.field-0.0 c.in_err-locations.ensures.reads)

pub returns-clause-reads : goal.returns-clause-reads
returns-clause-reads c =
    D.directive-read c.args.cursor.now c.skip.new.self c.expect.new.cursor c.read_name.new.cursor c.in_ok-name.name c.in_ok-skip.ensures.source c.skip.ensures.same c.in_ok-expect.ensures.found c.in_ok-expect.ensures.source c.expect.ensures.same c.in_ok-name.ensures.name c.in_ok-name.ensures.source c.read_name.ensures.same c.read_inputs.new.cursor c.in_ok-arguments.arguments c.in_ok-arguments.ensures.reads c.read_repeatable.new.cursor c.in_ok-repeatable.repeatable c.in_ok-repeatable.ensures.reads c.args.nodes c.read_locations.new.cursor c.in_ok-locations.locations c.in_ok-locations.ensures.reads
    c.in_ok-skip.ensures.places c.in_ok-expect.ensures.places c.in_ok-name.ensures.places
    (omega (arith, behind-count c.args.cursor.now.source, behind-count c.skip.new.self.source, behind-count c.expect.new.cursor.source, ap token_count c.in_ok-skip.ensures.source, ap token_count c.in_ok-expect.ensures.source, ap token_count c.in_ok-name.ensures.source))

pub returns-clause-taken : goal.returns-clause-taken
returns-clause-taken c =
    omega (
      arith,
      behind-count c.args.cursor.now.source,
      behind-count c.skip.new.self.source,
      ap token_count c.in_ok-skip.ensures.source,
      ap token_count c.in_ok-expect.ensures.source,
      behind-fewer c.expect.new.cursor.source (tok.name c.in_ok-name.name) (comes_word c.in_ok-name.name c.expect.new.cursor.source c.in_ok-name.ensures.name),
      ap token_count c.in_ok-name.ensures.source,
      c.in_ok-arguments.ensures.reads.taken,
      c.in_ok-repeatable.ensures.reads.taken,
      c.in_ok-locations.ensures.reads.taken,
    )
