use Rattle.std.proofs.Common.{refl, rules}
use Rattle.std.proofs.lemmas.Result.{err_from_is_err_and}
use Rattle.gql_parse.specs.Documents.{bare}
use Rattle.gql_parse.specs.Machine.{of_bare, between}
use Rattle.gql_parse.specs.Reads.{BeginsSet, MaySet, before_set}
use Rattle.gql_syntax.specs.Texts.{nesting_limit}
use Rattle.gql_parse.proofs.Passing.{at_start, pass-part, all_read, fails_in}
use Rattle.gql_parse.proofs.definitions.read_bare.Goals as goal

pub returns-in_err-selections-clause-reads : goal.returns-in_err-selections-clause-reads
returns-in_err-selections-clause-reads c =
    let e = err_from_is_err_and c.from_residual.result c.from_residual.ensures.1 in
    rw (e.1, e.2) (fails_in (at_start BeginsSet between c.args.cursor.now) (MaySet nesting_limit) (before_set nesting_limit) of_bare (λ ws. refl) (λ ws m. (refl, m)) c.in_err-selections.field-0.0 c.in_err-selections.ensures.reads)

pub returns-clause-reads : goal.returns-clause-reads
returns-clause-reads c =
    all_read (pass-part (at_start BeginsSet between c.args.cursor.now) c.in_ok-selections.ensures.reads of_bare (λ ws. refl) (λ ws m. (refl, m))) (bare c.in_ok-selections.selections) (search rules) (λ ws. refl) (λ ns. refl)
