use Rattle.std.proofs.Common.{arith, ap, ◌∙◌}
use Rattle.std.proofs.lemmas.Result.{err_from_is_err_and}
use Rattle.gql_syntax.specs.Nexts.{token_count}
use Rattle.gql_sdl.specs.Machine.{TypedInput, Typed, Owner, input_default, directives_of, on_input, input_type, in_type}
use Rattle.gql_sdl.specs.Reads.{MayInput, inputs_at}
use Rattle.gql_syntax.specs.Machine.{want_type, whole}
use Rattle.gql_syntax.specs.gql_lex.Sources.{Source}
use Rattle.gql_sdl.proofs.Goings.{fails-behind, fails-type, fails-default, fails-directives}
use Rattle.gql_sdl.proofs.InputReads.{behind-count, open_input, typed_input, input-no_name, input-no_colon, to_type, to_default, to_directives, input-read}
use Rattle.gql_sdl.proofs.inputs.read_input.Goals as goal

pub returns-in_err-name-clause-reads : goal.returns-in_err-name-clause-reads
returns-in_err-name-clause-reads c =
    let e = err_from_is_err_and c.from_residual.result c.from_residual.ensures.1 in
    rw (e.1, e.2) (input-no_name c.args.cursor.now c.in_err-name.field-0.0 c.in_err-name.ensures.reads)

pub returns-in_err-expect-clause-reads : goal.returns-in_err-expect-clause-reads
returns-in_err-expect-clause-reads c =
    let e = err_from_is_err_and c.from_residual-in_err-expect.result c.from_residual-in_err-expect.ensures.1 in
    rw (e.1, e.2) (input-no_colon c.args.cursor.now c.read_member_name.new.cursor c.in_ok-name.name c.in_ok-name.ensures.reads c.in_err-expect.field-0.0 c.in_err-expect.ensures.fault)

pub returns-in_err-of-clause-reads : goal.returns-in_err-of-clause-reads
returns-in_err-of-clause-reads c =
    let e = err_from_is_err_and c.from_residual-in_err-of.result c.from_residual-in_err-of.ensures.1 in
    let a = c.args.cursor.now in
    let b = c.read_member_name.new.cursor in
    let n = c.in_ok-name.name in
    let r = c.in_ok-name.ensures.reads in
    rw (e.1, e.2) (fails-behind MayInput inputs_at (λ (y : Typed) (s : Source). Unit {0}) (λ y. in_type (want_type 60 (whole y))) a c.expect.new.cursor
    (λ k. input_type (open_input a b n r k)) (c.expect.ensures.same ∙ r.text)
    (to_type a b n r c.expect.new.cursor c.in_ok-expect.ensures.found c.in_ok-expect.ensures.source c.expect.ensures.same) (λ k m. tt) c.in_err-of.field-0.0
    (fails-type c.expect.new.cursor c.in_err-of.field-0.0 c.in_err-of.ensures.reads))

pub returns-in_err-default-clause-reads : goal.returns-in_err-default-clause-reads
returns-in_err-default-clause-reads c =
    let e = err_from_is_err_and c.from_residual-in_err-default.result c.from_residual-in_err-default.ensures.1 in
    let a = c.args.cursor.now in
    let b = c.read_member_name.new.cursor in
    let n = c.in_ok-name.name in
    let r = c.in_ok-name.ensures.reads in
    rw (e.1, e.2) (fails-behind MayInput inputs_at (λ (i : TypedInput) (s : Source). Unit {0}) (λ i. input_default i) a c.read_type.new.cursor
    (typed_input a b n r c.expect.new.cursor c.in_ok-expect.ensures.found c.in_ok-expect.ensures.source c.expect.ensures.same c.read_type.new.cursor c.in_ok-of.of c.in_ok-of.ensures.reads c.in_ok-of.ensures.same)
    (c.in_ok-of.ensures.same ∙ c.expect.ensures.same ∙ r.text)
    (to_default a b n r c.expect.new.cursor c.in_ok-expect.ensures.found c.in_ok-expect.ensures.source c.expect.ensures.same c.read_type.new.cursor c.in_ok-of.of c.in_ok-of.ensures.reads c.in_ok-of.ensures.same)
    (λ k m. tt) c.in_err-default.field-0.0
    (fails-default c.read_type.new.cursor c.in_err-default.field-0.0 c.in_err-default.ensures.reads))

pub returns-in_err-directives-clause-reads : goal.returns-in_err-directives-clause-reads
returns-in_err-directives-clause-reads c =
    let e = err_from_is_err_and c.from_residual-in_err-directives.result c.from_residual-in_err-directives.ensures.1 in
    let a = c.args.cursor.now in
    let b = c.read_member_name.new.cursor in
    let n = c.in_ok-name.name in
    let r = c.in_ok-name.ensures.reads in
    rw (e.1, e.2) (fails-behind MayInput inputs_at (λ (o : Owner) (s : Source). Unit {0}) (λ o. directives_of o) a c.read_default.new.cursor
    (λ k. on_input (typed_input a b n r c.expect.new.cursor c.in_ok-expect.ensures.found c.in_ok-expect.ensures.source c.expect.ensures.same c.read_type.new.cursor c.in_ok-of.of c.in_ok-of.ensures.reads c.in_ok-of.ensures.same k) c.in_ok-default.default)
    (c.in_ok-default.ensures.same ∙ c.in_ok-of.ensures.same ∙ c.expect.ensures.same ∙ r.text)
    (to_directives a b n r c.expect.new.cursor c.in_ok-expect.ensures.found c.in_ok-expect.ensures.source c.expect.ensures.same c.read_type.new.cursor c.in_ok-of.of c.in_ok-of.ensures.reads c.in_ok-of.ensures.same
    c.read_default.new.cursor c.in_ok-default.default c.in_ok-default.ensures.reads c.in_ok-default.ensures.same)
    (λ k m. tt) c.in_err-directives.field-0.0
    (fails-directives c.read_default.new.cursor c.in_err-directives.field-0.0 c.in_err-directives.ensures.reads))

pub returns-clause-reads : goal.returns-clause-reads
returns-clause-reads c =
    input-read c.args.cursor.now c.read_member_name.new.cursor c.in_ok-name.name c.in_ok-name.ensures.reads
    c.expect.new.cursor c.in_ok-expect.ensures.found c.in_ok-expect.ensures.source c.expect.ensures.same
    c.read_type.new.cursor c.in_ok-of.of c.in_ok-of.ensures.reads c.in_ok-of.ensures.same
    c.read_default.new.cursor c.in_ok-default.default c.in_ok-default.ensures.reads c.in_ok-default.ensures.same
    c.read_directives.new.cursor c.in_ok-directives.directives c.in_ok-directives.ensures.reads c.in_ok-directives.ensures.same c.in_ok-directives.ensures.last
    c.in_ok-expect.ensures.places c.in_ok-of.ensures.places c.in_ok-default.ensures.places c.in_ok-directives.ensures.places
    (omega (arith, c.in_ok-name.ensures.taken, ap token_count c.in_ok-expect.ensures.source, behind-count c.read_member_name.new.cursor.source, c.in_ok-of.ensures.taken, c.in_ok-default.ensures.taken, c.in_ok-directives.ensures.taken))

pub returns-clause-taken : goal.returns-clause-taken
returns-clause-taken c =
    omega (arith, c.in_ok-name.ensures.taken, ap token_count c.in_ok-expect.ensures.source, behind-count c.read_member_name.new.cursor.source, c.in_ok-of.ensures.taken, c.in_ok-default.ensures.taken, c.in_ok-directives.ensures.taken)
