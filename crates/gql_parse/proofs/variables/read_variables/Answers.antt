use Rattle.std.proofs.Common.{◌≡◌, [], true, false, refl, sym}
use Rattle.std.proofs.lemmas.Result.{err_from_is_err_and}
use Rattle.gql_parse.specs.Machine.{called}
use Rattle.gql_parse.specs.Reads.{behind_variables}
use Rattle.gql_syntax.specs.Nexts.{next_is}
use Rattle.gql_syntax.specs.Reads.{Anywhere}
use Rattle.gql_parse.proofs.Heads.{called_ends}
use Rattle.gql_parse.proofs.Members.{variables_fail, variables_read}
use Rattle.gql_parse.proofs.Passing.{at_start, pass-over, all_read}
use Rattle.gql_parse.proofs.variables.read_variables.Goals as goal

pub returns-then-not-next_is : goal.returns-then-not-next_is
returns-then-not-next_is c =
    let a = c.args.cursor.now in
    let n : next_is 40 a.source ≡ false = cc in
    record { reads = all_read (pass-over (at_start Anywhere called a) (λ o. behind_variables o []) (λ o size m. called_ends size o a.source n)) [] (sym c.new.ensures) (λ o. refl) (λ ns. refl) }

pub returns-in_err-items : goal.returns-in_err-items
returns-in_err-items c =
    let e = err_from_is_err_and c.from_residual.result c.from_residual.ensures.1 in
    let opened : next_is 40 c.args.cursor.now.source ≡ true = cc in
    record { reads = rw (e.1, e.2) (variables_fail _ (λ here there r e. e.1.0) c.args.cursor.now c.in_err-items.field-0.0 opened c.in_err-items.ensures.reads) }

pub returns : goal.returns
returns c = record { reads = variables_read _ (λ here there r e. e.1.0) c.args.cursor.now c.read_members.new.cursor c.in_ok-items.items.items c.in_ok-items.ensures.reads }
