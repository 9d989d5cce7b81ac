use Rattle.std.proofs.Common.{[], true, refl, sym, arith}
use Rattle.std.proofs.lemmas.Result.{err_from_is_err_and}
use Rattle.gql_syntax.specs.gql_ast.TypeView.{ty_of}
use Rattle.gql_syntax.specs.gql_ast.declared.variable.VariableDef.{VariableDef}
use Rattle.gql_parse.specs.Machine.{on_variable, dollar, variable_named, in_type, typed, in_directives}
use Rattle.gql_parse.specs.Reads.{MayVariable, variables_at}
use Rattle.gql_syntax.specs.Answers.{node_count}
use Rattle.gql_syntax.specs.Machine.{further, want_type, whole}
use Rattle.gql_syntax.specs.Spelling.{spell_type, spell_default}
use Rattle.gql_syntax.specs.Texts.{nesting_limit}
use Rattle.gql_parse.proofs.Courses.{at_taken, word_taken}
use Rattle.gql_parse.proofs.Heads.{variable_missed, variable_name_missed, variable_colon_missed, variable_ends, variable_read, variable_whole, type_goes, type_tells, default_goes, default_tells, name_of, typed_of}
use Rattle.gql_parse.proofs.Passing.{at_start, pass, pass-over, pass-name, pass-sign, pass-directives, all_read, fails_told, fails_missed, fails_directives}
use Rattle.gql_parse.proofs.variables.read_variable.Goals as goal

pub returns-in_err-expect-clause-reads : goal.returns-in_err-expect-clause-reads
returns-in_err-expect-clause-reads c =
    let e = err_from_is_err_and c.from_residual.result c.from_residual.ensures.1 in
    let p0 = at_start MayVariable variables_at c.args.cursor.now in
    rw (e.1, e.2) (fails_missed p0 c.in_err-expect.field-0.0 _ c.in_err-expect.ensures.fault (λ k size m x. variable_missed size k.opening k.before c.args.cursor.now.source m x))

pub returns-in_err-name-clause-reads : goal.returns-in_err-name-clause-reads
returns-in_err-name-clause-reads c =
    let e = err_from_is_err_and c.from_residual-in_err-name.result c.from_residual-in_err-name.ensures.1 in
    let p0 = at_start MayVariable variables_at c.args.cursor.now in
    let p1 = pass-sign p0 36 (λ k. dollar k.opening k.before) 1 c.expect.new.cursor c.in_ok-expect.ensures.found c.in_ok-expect.ensures.source c.in_ok-expect.ensures.places c.expect.ensures.same (λ k. refl) in
    rw (e.1, e.2) (fails_missed p1 c.in_err-name.field-0.0 _ c.in_err-name.ensures.fault (λ k size m x. variable_name_missed size k.opening k.before c.expect.new.cursor.source x))

pub returns-in_err-expect-2-clause-reads : goal.returns-in_err-expect-2-clause-reads
returns-in_err-expect-2-clause-reads c =
    let e = err_from_is_err_and c.from_residual-in_err-expect-2.result c.from_residual-in_err-expect-2.ensures.1 in
    let p0 = at_start MayVariable variables_at c.args.cursor.now in
    let p1 = pass-sign p0 36 (λ k. dollar k.opening k.before) 1 c.expect.new.cursor c.in_ok-expect.ensures.found c.in_ok-expect.ensures.source c.in_ok-expect.ensures.places c.expect.ensures.same (λ k. refl) in
    let n = c.in_ok-name.name in
    let p2 = pass-name p1 n (λ k. variable_named (name_of k n)) 1 c.read_name.new.cursor c.in_ok-name.ensures.name c.in_ok-name.ensures.source c.in_ok-name.ensures.places c.read_name.ensures.same (λ k. refl) in
    rw (e.1, e.2) (fails_missed p2 c.in_err-expect-2.field-0.0 _ c.in_err-expect-2.ensures.fault (λ k size m x. variable_colon_missed size (name_of k n) c.read_name.new.cursor.source x))

pub returns-in_err-of-clause-reads : goal.returns-in_err-of-clause-reads
returns-in_err-of-clause-reads c =
    let e = err_from_is_err_and c.from_residual-in_err-of.result c.from_residual-in_err-of.ensures.1 in
    let p0 = at_start MayVariable variables_at c.args.cursor.now in
    let p1 = pass-sign p0 36 (λ k. dollar k.opening k.before) 1 c.expect.new.cursor c.in_ok-expect.ensures.found c.in_ok-expect.ensures.source c.in_ok-expect.ensures.places c.expect.ensures.same (λ k. refl) in
    let n = c.in_ok-name.name in
    let p2 = pass-name p1 n (λ k. variable_named (name_of k n)) 1 c.read_name.new.cursor c.in_ok-name.ensures.name c.in_ok-name.ensures.source c.in_ok-name.ensures.places c.read_name.ensures.same (λ k. refl) in
    let p3 = pass-sign p2 58 (λ k. in_type (want_type nesting_limit (whole (name_of k n)))) 0 c.expect-2.new.cursor c.in_ok-expect-2.ensures.found c.in_ok-expect-2.ensures.source c.in_ok-expect-2.ensures.places c.expect-2.ensures.same (λ k. refl) in
    rw (e.1, e.2) (fails_told p3 c.in_err-of.field-0.0 (λ k size e m. type_tells _ size (name_of k n) c.expect-2.new.cursor.source c.in_err-of.field-0.0 (sym e) c.in_err-of.ensures.reads))

pub returns-in_err-default-clause-reads : goal.returns-in_err-default-clause-reads
returns-in_err-default-clause-reads c =
    let e = err_from_is_err_and c.from_residual-in_err-default.result c.from_residual-in_err-default.ensures.1 in
    let p0 = at_start MayVariable variables_at c.args.cursor.now in
    let p1 = pass-sign p0 36 (λ k. dollar k.opening k.before) 1 c.expect.new.cursor c.in_ok-expect.ensures.found c.in_ok-expect.ensures.source c.in_ok-expect.ensures.places c.expect.ensures.same (λ k. refl) in
    let n = c.in_ok-name.name in
    let p2 = pass-name p1 n (λ k. variable_named (name_of k n)) 1 c.read_name.new.cursor c.in_ok-name.ensures.name c.in_ok-name.ensures.source c.in_ok-name.ensures.places c.read_name.ensures.same (λ k. refl) in
    let p3 = pass-sign p2 58 (λ k. in_type (want_type nesting_limit (whole (name_of k n)))) 0 c.expect-2.new.cursor c.in_ok-expect-2.ensures.found c.in_ok-expect-2.ensures.source c.in_ok-expect-2.ensures.places c.expect-2.ensures.same (λ k. refl) in
    let t = ty_of c.in_ok-of.of in
    let p4 = pass p3 (λ k. typed (typed_of k n t)) (spell_type node_count t 0 0) c.read_type.new.cursor
    (λ k size e m. type_goes _ size (name_of k n) c.expect-2.new.cursor.source t c.read_type.new.cursor.source (sym e) c.in_ok-of.ensures.reads) c.in_ok-of.ensures.places (omega (arith, c.in_ok-of.ensures.taken)) c.in_ok-of.ensures.same in
    rw (e.1, e.2) (fails_told p4 c.in_err-default.field-0.0 (λ k size e m. default_tells _ size (typed_of k n t) c.read_type.new.cursor.source c.in_err-default.field-0.0 (sym e) c.in_err-default.ensures.reads))

pub returns-in_err-directives-clause-reads : goal.returns-in_err-directives-clause-reads
returns-in_err-directives-clause-reads c =
    let e = err_from_is_err_and c.from_residual-in_err-directives.result c.from_residual-in_err-directives.ensures.1 in
    let p0 = at_start MayVariable variables_at c.args.cursor.now in
    let p1 = pass-sign p0 36 (λ k. dollar k.opening k.before) 1 c.expect.new.cursor c.in_ok-expect.ensures.found c.in_ok-expect.ensures.source c.in_ok-expect.ensures.places c.expect.ensures.same (λ k. refl) in
    let n = c.in_ok-name.name in
    let p2 = pass-name p1 n (λ k. variable_named (name_of k n)) 1 c.read_name.new.cursor c.in_ok-name.ensures.name c.in_ok-name.ensures.source c.in_ok-name.ensures.places c.read_name.ensures.same (λ k. refl) in
    let p3 = pass-sign p2 58 (λ k. in_type (want_type nesting_limit (whole (name_of k n)))) 0 c.expect-2.new.cursor c.in_ok-expect-2.ensures.found c.in_ok-expect-2.ensures.source c.in_ok-expect-2.ensures.places c.expect-2.ensures.same (λ k. refl) in
    let t = ty_of c.in_ok-of.of in
    let p4 = pass p3 (λ k. typed (typed_of k n t)) (spell_type node_count t 0 0) c.read_type.new.cursor
    (λ k size e m. type_goes _ size (name_of k n) c.expect-2.new.cursor.source t c.read_type.new.cursor.source (sym e) c.in_ok-of.ensures.reads) c.in_ok-of.ensures.places (omega (arith, c.in_ok-of.ensures.taken)) c.in_ok-of.ensures.same in
    let d = c.in_ok-default.default in
    let p5 = pass p4 (λ k. in_directives (further true [] (on_variable (typed_of k n t) d))) (spell_default node_count d) c.read_default.new.cursor
    (λ k size e m. default_goes _ size (typed_of k n t) c.read_type.new.cursor.source d c.read_default.new.cursor.source (sym e) c.in_ok-default.ensures.reads) c.in_ok-default.ensures.places c.in_ok-default.ensures.taken c.in_ok-default.ensures.same in
    rw (e.1, e.2) (fails_directives p5 true (λ k. on_variable (typed_of k n t) d) c.in_err-directives.field-0.0 c.in_err-directives.ensures.reads (λ k. refl))

pub returns-clause-reads : goal.returns-clause-reads
returns-clause-reads c =
    let p0 = at_start MayVariable variables_at c.args.cursor.now in
    let p1 = pass-sign p0 36 (λ k. dollar k.opening k.before) 1 c.expect.new.cursor c.in_ok-expect.ensures.found c.in_ok-expect.ensures.source c.in_ok-expect.ensures.places c.expect.ensures.same (λ k. refl) in
    let n = c.in_ok-name.name in
    let p2 = pass-name p1 n (λ k. variable_named (name_of k n)) 1 c.read_name.new.cursor c.in_ok-name.ensures.name c.in_ok-name.ensures.source c.in_ok-name.ensures.places c.read_name.ensures.same (λ k. refl) in
    let p3 = pass-sign p2 58 (λ k. in_type (want_type nesting_limit (whole (name_of k n)))) 0 c.expect-2.new.cursor c.in_ok-expect-2.ensures.found c.in_ok-expect-2.ensures.source c.in_ok-expect-2.ensures.places c.expect-2.ensures.same (λ k. refl) in
    let t = ty_of c.in_ok-of.of in
    let p4 = pass p3 (λ k. typed (typed_of k n t)) (spell_type node_count t 0 0) c.read_type.new.cursor
    (λ k size e m. type_goes _ size (name_of k n) c.expect-2.new.cursor.source t c.read_type.new.cursor.source (sym e) c.in_ok-of.ensures.reads) c.in_ok-of.ensures.places (omega (arith, c.in_ok-of.ensures.taken)) c.in_ok-of.ensures.same in
    let d = c.in_ok-default.default in
    let p5 = pass p4 (λ k. in_directives (further true [] (on_variable (typed_of k n t) d))) (spell_default node_count d) c.read_default.new.cursor
    (λ k size e m. default_goes _ size (typed_of k n t) c.read_type.new.cursor.source d c.read_default.new.cursor.source (sym e) c.in_ok-default.ensures.reads) c.in_ok-default.ensures.places c.in_ok-default.ensures.taken c.in_ok-default.ensures.same in
    let ds = c.in_ok-directives.directives in
    let p6 = pass-directives p5 true (λ k. on_variable (typed_of k n t) d) ds c.read_directives.new.cursor c.in_ok-directives.ensures.reads c.in_ok-directives.ensures.places c.in_ok-directives.ensures.taken c.in_ok-directives.ensures.same (λ k. refl) in
    let v : VariableDef = record { name = n; of = c.in_ok-of.of; default = d; directives = ds } in
    all_read (pass-over p6 (λ k. variable_read k v) (λ k size m. variable_ends size (typed_of k n t) d ds c.read_directives.new.cursor.source c.in_ok-directives.ensures.last)) v refl (λ k. variable_whole k v) (λ ns. refl)

pub returns-clause-taken : goal.returns-clause-taken
returns-clause-taken c =
    omega (
      arith,
      at_taken 36 c.args.cursor.now.source c.expect.new.cursor.source c.in_ok-expect.ensures.found c.in_ok-expect.ensures.source,
      word_taken c.in_ok-name.name c.expect.new.cursor.source c.read_name.new.cursor.source c.in_ok-name.ensures.name c.in_ok-name.ensures.source,
      at_taken 58 c.read_name.new.cursor.source c.expect-2.new.cursor.source c.in_ok-expect-2.ensures.found c.in_ok-expect-2.ensures.source,
      c.in_ok-of.ensures.taken,
      c.in_ok-default.ensures.taken,
      c.in_ok-directives.ensures.taken,
    )
