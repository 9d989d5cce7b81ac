use Rattle.std.proofs.Common.{false, refl, ap}
use Rattle.std.proofs.lemmas.Result.{err_from_is_err_and}
use Rattle.gql_syntax.specs.gql_ast.declared.document.Operation.{Operation}
use Rattle.gql_parse.specs.Documents.{spell_optional_name, spell_variables_part}
use Rattle.gql_parse.specs.Machine.{of_operation, on_operation, kinded, called}
use Rattle.gql_parse.specs.Reads.{kinded_at, MaySet, before_set}
use Rattle.gql_syntax.specs.Answers.{node_count}
use Rattle.gql_syntax.specs.Reads.{Anywhere}
use Rattle.gql_syntax.specs.Spelling.{spell_directives}
use Rattle.gql_syntax.specs.Texts.{nesting_limit}
use Rattle.gql_parse.proofs.Heads.{kinded_of, opening_of}
use Rattle.gql_parse.proofs.Members.{set_closed}
use Rattle.gql_parse.proofs.Passing.{at_start, pass-part, pass-directives, all_read, fails_in, fails_directives}
use Rattle.gql_parse.proofs.definitions.read_operation.Goals as goal

pub returns-in_err-name : goal.returns-in_err-name
returns-in_err-name c =
    let e = err_from_is_err_and c.from_residual.result c.from_residual.ensures.1 in
    let p0 = at_start Anywhere (λ ws. kinded ws c.args.kind) c.args.cursor.now in
    record { reads = rw (e.1, e.2) (fails_in p0 Anywhere kinded_at (kinded_of c.args.kind) (λ ws. refl) (λ ws m. tt) c.in_err-name.field-0.0 c.in_err-name.ensures.reads) }

pub returns-in_err-variables : goal.returns-in_err-variables
returns-in_err-variables c =
    let e = err_from_is_err_and c.from_residual-in_err-variables.result c.from_residual-in_err-variables.ensures.1 in
    let p0 = at_start Anywhere (λ ws. kinded ws c.args.kind) c.args.cursor.now in
    let n = c.in_ok-name.name in
    let p1 = pass-part p0 c.in_ok-name.ensures.reads (kinded_of c.args.kind) (λ ws. refl) (λ ws m. tt) in
    record { reads = rw (e.1, e.2) (fails_in p1 Anywhere called (opening_of c.args.kind n) (λ ws. refl) (λ ws m. tt) c.in_err-variables.field-0.0 c.in_err-variables.ensures.reads) }

pub returns-in_err-directives : goal.returns-in_err-directives
returns-in_err-directives c =
    let e = err_from_is_err_and c.from_residual-in_err-directives.result c.from_residual-in_err-directives.ensures.1 in
    let p0 = at_start Anywhere (λ ws. kinded ws c.args.kind) c.args.cursor.now in
    let n = c.in_ok-name.name in
    let p1 = pass-part p0 c.in_ok-name.ensures.reads (kinded_of c.args.kind) (λ ws. refl) (λ ws m. tt) in
    let vs = c.in_ok-variables.variables in
    let p2 = pass-part p1 c.in_ok-variables.ensures.reads (opening_of c.args.kind n) (λ ws. refl) (λ ws m. tt) in
    record { reads = rw (e.1, e.2) (fails_directives p2 false (λ ws. on_operation (opening_of c.args.kind n ws) vs) c.in_err-directives.field-0.0 c.in_err-directives.ensures.reads (λ ws. refl)) }

pub returns-in_err-selections : goal.returns-in_err-selections
returns-in_err-selections c =
    let e = err_from_is_err_and c.from_residual-in_err-selections.result c.from_residual-in_err-selections.ensures.1 in
    let p0 = at_start Anywhere (λ ws. kinded ws c.args.kind) c.args.cursor.now in
    let n = c.in_ok-name.name in
    let p1 = pass-part p0 c.in_ok-name.ensures.reads (kinded_of c.args.kind) (λ ws. refl) (λ ws m. tt) in
    let vs = c.in_ok-variables.variables in
    let p2 = pass-part p1 c.in_ok-variables.ensures.reads (opening_of c.args.kind n) (λ ws. refl) (λ ws m. tt) in
    let ds = c.in_ok-directives.directives in
    let p3 = pass-directives p2 false (λ ws. on_operation (opening_of c.args.kind n ws) vs) ds c.read_directives.new.cursor c.in_ok-directives.ensures.reads c.in_ok-directives.ensures.places c.in_ok-directives.ensures.taken c.in_ok-directives.ensures.same (λ ws. refl) in
    record { reads = rw (e.1, e.2) (fails_in p3 (MaySet nesting_limit) (before_set nesting_limit) (λ ws. of_operation (opening_of c.args.kind n ws) vs ds) (λ ws. refl) (λ ws m. (refl, c.in_ok-directives.ensures.last)) c.in_err-selections.field-0.0 c.in_err-selections.ensures.reads) }

pub returns : goal.returns
returns c =
    let p0 = at_start Anywhere (λ ws. kinded ws c.args.kind) c.args.cursor.now in
    let n = c.in_ok-name.name in
    let p1 = pass-part p0 c.in_ok-name.ensures.reads (kinded_of c.args.kind) (λ ws. refl) (λ ws m. tt) in
    let vs = c.in_ok-variables.variables in
    let p2 = pass-part p1 c.in_ok-variables.ensures.reads (opening_of c.args.kind n) (λ ws. refl) (λ ws m. tt) in
    let ds = c.in_ok-directives.directives in
    let p3 = pass-directives p2 false (λ ws. on_operation (opening_of c.args.kind n ws) vs) ds c.read_directives.new.cursor c.in_ok-directives.ensures.reads c.in_ok-directives.ensures.places c.in_ok-directives.ensures.taken c.in_ok-directives.ensures.same (λ ws. refl) in
    let s = c.in_ok-selections.selections in
    let o : Operation = record { kind = c.args.kind; name = n; variables = vs; directives = ds; selections = s } in
    record {
      reads = all_read (pass-part p3 c.in_ok-selections.ensures.reads (λ ws. of_operation (opening_of c.args.kind n ws) vs ds) (λ ws. refl) (λ ws m. (refl, c.in_ok-directives.ensures.last))) o refl (λ ws. refl)
          (λ ns. ap (λ r. spell_optional_name node_count n (spell_variables_part node_count vs (spell_directives node_count ds r))) (set_closed s ns c.in_ok-selections.ensures.some));
    }
