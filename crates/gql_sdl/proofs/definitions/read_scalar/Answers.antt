use Rattle.std.proofs.Common.{refl, ap, arith}
use Rattle.std.proofs.lemmas.Result.{err_from_is_err_and}
use Rattle.gql_syntax.specs.gql_lex.Toks as tok
use Rattle.gql_syntax.specs.Nexts.{token_count}
use Rattle.gql_syntax.proofs.Tokens.{comes_word}
use Rattle.gql_sdl.specs.Machine as machine
use Rattle.gql_sdl.proofs.InputReads.{behind-count, behind-fewer}
use Rattle.gql_sdl.proofs.DefinitionReads as D
use Rattle.gql_sdl.proofs.definitions.read_scalar.Goals as goal

pub returns-in_err-name-clause-reads : goal.returns-in_err-name-clause-reads
returns-in_err-name-clause-reads c =
    let e = err_from_is_err_and c.from_residual-in_err-name.result c.from_residual-in_err-name.ensures.1 in
    rw (e.1, e.2) (D.titled-no_name machine.a_scalar c.args.cursor.now c.skip.new.self c.in_ok-skip.ensures.source c.skip.ensures.same c.in_err-name.field-0.0 c.in_err-name.ensures.fault)

pub returns-in_err-directives-clause-reads : goal.returns-in_err-directives-clause-reads
returns-in_err-directives-clause-reads c =
    let e = err_from_is_err_and c.from_residual-in_err-directives.result c.from_residual-in_err-directives.ensures.1 in
    rw (e.1, e.2) (D.titled-no_directives machine.a_scalar c.args.cursor.now c.skip.new.self c.in_ok-skip.ensures.source c.skip.ensures.same c.read_name.new.cursor c.in_ok-name.name c.in_ok-name.ensures.name c.in_ok-name.ensures.source c.read_name.ensures.same (λ f. machine.on_scalar f c.in_ok-name.name) (λ f. refl) c.in_err-directives.field-0.0 c.in_err-directives.ensures.reads)

pub returns-clause-reads : goal.returns-clause-reads
returns-clause-reads c =
    D.scalar-read c.args.nodes c.args.cursor.now c.skip.new.self c.read_name.new.cursor c.read_directives.new.cursor c.in_ok-name.name c.in_ok-directives.directives c.in_ok-skip.ensures.source c.in_ok-skip.ensures.places c.skip.ensures.same
    c.in_ok-name.ensures.name c.in_ok-name.ensures.source c.in_ok-name.ensures.places c.read_name.ensures.same
    c.in_ok-directives.ensures.reads c.in_ok-directives.ensures.places c.in_ok-directives.ensures.same c.in_ok-directives.ensures.last c.in_ok-directives.ensures.taken

pub returns-clause-taken : goal.returns-clause-taken
returns-clause-taken c =
    omega (
      arith,
      behind-count c.args.cursor.now.source,
      ap token_count c.in_ok-skip.ensures.source,
      behind-fewer c.skip.new.self.source (tok.name c.in_ok-name.name) (comes_word c.in_ok-name.name c.skip.new.self.source c.in_ok-name.ensures.name),
      ap token_count c.in_ok-name.ensures.source,
      c.in_ok-directives.ensures.taken,
    )
