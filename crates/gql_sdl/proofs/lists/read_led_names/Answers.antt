use Rattle.std.proofs.Common.{◌≡◌, ◌++◌, ◌∷◌, [], ap, ◌∙◌, arith}
use Rattle.std.proofs.lemmas.Result.{err_from_is_err_and}
use Rattle.gql_syntax.specs.Nexts.{token_count}
use Rattle.gql_sdl.proofs.InputReads.{behind-fewer}
use Rattle.gql_syntax.proofs.Tokens.{comes_at}
use Rattle.gql_syntax.specs.gql_lex.Toks.{punctuator_of}
use Rattle.gql_sdl.proofs.InputReads.{behind-count}
use Rattle.gql_sdl.proofs.ListReads.{names_separated, names_laws}
use Rattle.gql_sdl.proofs.Loops.{some-then}
use Rattle.gql_sdl.proofs.Separated.{listed-first, listed-then, listed-fails, listed-none, listed-ended}
use Rattle.gql_sdl.proofs.lists.read_led_names.Goals as goal

pub returns-in_err-first-clause-reads : goal.returns-in_err-first-clause-reads
returns-in_err-first-clause-reads c =
    let e = err_from_is_err_and c.from_residual.result c.from_residual.ensures.1 in
    rw (e.1, e.2) (listed-none (names_separated c.args.separator) (names_laws c.args.separator) c.args.cursor.now c.in_err-first.field-0.0 c.in_err-first.ensures.fault)

pub names-init : goal.names-init
names-init c =
    let pushed : c.push.new.self ≡ c.in_ok-first.first ∷ [] = c.in_ok-push.ensures.ok ∙ ap (λ xs. xs ++ c.in_ok-first.first ∷ []) c.new-names.ensures in
    record {
      reads = listed-first (names_separated c.args.separator) (names_laws c.args.separator) c.args.cursor.now c.read_name.new.cursor c.in_ok-first.first c.push.new.self pushed c.in_ok-first.ensures.name c.in_ok-first.ensures.source c.in_ok-first.ensures.places c.read_name.ensures.same;
      some = rw pushed tt;
    }

pub returns-in_err-name-clause-reads : goal.returns-in_err-name-clause-reads
returns-in_err-name-clause-reads c =
    let e = err_from_is_err_and c.from_residual-in_err-name.result c.from_residual-in_err-name.ensures.1 in
    rw (e.1, e.2) (listed-fails (names_separated c.args.separator) (names_laws c.args.separator) c.args.cursor.now c.names.cursor c.skip.new.self c.names.names c.in_err-name.field-0.0 c.names.invariant.reads (cc)
    c.in_ok-skip.ensures.source c.skip.ensures.same c.in_err-name.ensures.fault)

pub names-preserved : goal.names-preserved
names-preserved c = record {
  reads = listed-then (names_separated c.args.separator) (names_laws c.args.separator) c.args.cursor.now c.names.cursor c.skip.new.self c.read_name-in-names.new.cursor c.names.names c.push-in-names.new.self c.in_ok-name.name c.names.invariant.reads c.names.invariant.some (cc)
      c.in_ok-skip.ensures.source c.in_ok-skip.ensures.places c.skip.ensures.same
      c.in_ok-name.ensures.name c.in_ok-name.ensures.source c.in_ok-name.ensures.places c.read_name-in-names.ensures.same c.in_ok-push-2.ensures.ok;
  some = rw c.in_ok-push-2.ensures.ok (some-then c.names.names c.in_ok-name.name);
}

pub names-smaller : goal.names-smaller
names-smaller c =
    omega (arith, behind-fewer c.names.cursor.source (punctuator_of c.args.separator) (comes_at c.args.separator c.names.cursor.source (cc)), ap token_count c.in_ok-skip.ensures.source, behind-count c.skip.new.self.source, ap token_count c.in_ok-name.ensures.source)

pub returns-clause-reads : goal.returns-clause-reads
returns-clause-reads c =
    let fitted : c.shrink_to_fit.new.self.items ≡ c.names.names = cc in
    rw fitted (listed-ended (names_separated c.args.separator) (names_laws c.args.separator) c.args.cursor.now c.names.cursor c.names.names c.names.invariant.reads (cc))
