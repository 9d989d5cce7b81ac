use Rattle.std.proofs.Common.{◌≡◌, None, Some, refl, sym, ◌∙◌}
use Rattle.std.proofs.lemmas.Result.{err_from_is_err_and}
use Rattle.gql_parse.specs.Reads.{kinded_at, behind_operation_name}
use Rattle.gql_syntax.specs.Nexts.{next_word}
use Rattle.gql_syntax.specs.Reads.{Anywhere}
use Rattle.gql_parse.proofs.Courses.{none_there, some_there}
use Rattle.gql_parse.proofs.Heads.{kinded_ends}
use Rattle.gql_parse.proofs.Passing.{at_start, pass-over, pass-name, all_read, fails_missed}
use Rattle.gql_parse.proofs.definitions.read_optional_name.Goals as goal

pub returns-then-is_none : goal.returns-then-is_none
returns-then-is_none c =
    let a = c.args.cursor.now in
    let n : next_word a.source ≡ None = c.next_word.ensures.none (none_there c.next_word.result c.is_none.result c.is_none.ensures c.if-is_none.true) in
    record { reads = all_read (pass-over (at_start Anywhere kinded_at a) (λ k. behind_operation_name k None) (λ k size m. kinded_ends size k.before k.kind a.source n)) None refl (λ k. refl) (λ ns. refl) }

pub returns-in_err-read_name : goal.returns-in_err-read_name
returns-in_err-read_name c =
    let a = c.args.cursor.now in
    let e = err_from_is_err_and c.from_residual.result c.from_residual.ensures.1 in
    let w = some_there (λ v. next_word a.source ≡ Some v.now) c.next_word.result c.is_none.result c.is_none.ensures c.if-is_none.false c.next_word.ensures.some in
    record {
      reads = rw (e.1, e.2) (fails_missed (at_start Anywhere kinded_at a) c.in_err-read_name.field-0.0 _ c.in_err-read_name.ensures.fault
          (λ k size m x. let both : Some w.0.now ≡ None = sym w.1 ∙ x in cc));
    }

pub returns : goal.returns
returns c =
    let n = c.in_ok-read_name.field-0 in
    record {
      reads = all_read (pass-name (at_start Anywhere kinded_at c.args.cursor.now) n (λ k. behind_operation_name k (Some n)) 1 c.read_name.new.cursor c.in_ok-read_name.ensures.name c.in_ok-read_name.ensures.source c.in_ok-read_name.ensures.places c.read_name.ensures.same (λ k. refl))
          (Some n) refl (λ k. refl) (λ ns. refl);
    }
