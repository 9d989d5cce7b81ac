use Rattle.std.proofs.Common.{◌≡◌, ◌+◌, true, false, None, Some, bytes_eq, refl, arith}
use Rattle.std.proofs.lemmas.Grind.{common_steps}
use Rattle.std.proofs.lemmas.Result.{err_from_is_err_and}
use Rattle.gql_syntax.specs.gql_ast.declared.document.Definition.TheVariants as D
use Rattle.gql_parse.specs.Documents.{full, fragment_word, definition_of, spell_definition}
use Rattle.gql_parse.specs.Machine.{between, kinded, fragment_begun}
use Rattle.gql_parse.specs.Reads.{BeginsSet, behind_definition}
use Rattle.gql_syntax.specs.Answers.{node_count}
use Rattle.gql_syntax.specs.Nexts.{next_is, next_word}
use Rattle.gql_syntax.specs.Reads.{Anywhere, MayDefine}
use Rattle.gql_parse.proofs.Courses.{word_taken}
use Rattle.gql_parse.proofs.Heads.{kind_begins, fragment_begins, definition_missed, definition_unknown, none_before}
use Rattle.gql_parse.proofs.Passing.{at_start, pass-name, pass-part, all_read, fails_here, fails_in, reads_where}
use Rattle.gql_parse.proofs.definitions.read_definition.Goals as goal

pub returns-then-next_is-clause-reads : goal.returns-then-next_is-clause-reads
returns-then-next_is-clause-reads c =
    let n : next_is 123 c.args.cursor.now.source ≡ true = cc in
    reads_where MayDefine BeginsSet between behind_definition (spell_definition node_count c.args.first) definition_of c.args.cursor.now c.read_bare.new.cursor c.read_bare.result (λ ws m. n) c.read_bare.ensures.reads

pub returns-in_default-clause-reads : goal.returns-in_default-clause-reads
returns-in_default-clause-reads c =
    let p0 = at_start MayDefine between c.args.cursor.now in
    let n : next_is 123 c.args.cursor.now.source ≡ false = cc in
    let w : next_word c.args.cursor.now.source ≡ None = c.next_word.ensures.none c.in_default.is in
    rw c.fault.ensures (fails_here p0 (λ ws size m. definition_missed size ws c.args.cursor.now.source (none_before ws c.args.cursor.now.source m) n w))

pub returns-in_err-read_fragment-clause-reads : goal.returns-in_err-read_fragment-clause-reads
returns-in_err-read_fragment-clause-reads c =
    let e = err_from_is_err_and c.from_residual-in_err-read_fragment.result c.from_residual-in_err-read_fragment.ensures.1 in
    let p0 = at_start MayDefine between c.args.cursor.now in
    let is_word : bytes_eq c.in-Some.word.now fragment_word ≡ true = grind (arith, common_steps) in
    let p1 = pass-name p0 c.in-Some.word.now fragment_begun (c.args.first + 2) c.skip.new.self c.in-Some.ensures.some c.in_ok-skip.ensures.source c.in_ok-skip.ensures.places c.skip.ensures.same (λ ws. fragment_begins ws c.in-Some.word.now is_word) in
    rw (e.1, e.2) (fails_in p1 Anywhere fragment_begun (λ ws. ws) (λ ws. refl) (λ ws m. tt) c.in_err-read_fragment.field-0.0 c.in_err-read_fragment.ensures.reads)

pub returns-then-eq-clause-reads : goal.returns-then-eq-clause-reads
returns-then-eq-clause-reads c =
    let p0 = at_start MayDefine between c.args.cursor.now in
    let is_word : bytes_eq c.in-Some.word.now fragment_word ≡ true = grind (arith, common_steps) in
    let p1 = pass-name p0 c.in-Some.word.now fragment_begun (c.args.first + 2) c.skip.new.self c.in-Some.ensures.some c.in_ok-skip.ensures.source c.in_ok-skip.ensures.places c.skip.ensures.same (λ ws. fragment_begins ws c.in-Some.word.now is_word) in
    all_read (pass-part p1 c.in_ok-read_fragment.ensures.reads (λ ws. ws) (λ ws. refl) (λ ws m. tt)) (full (D.Fragment c.in_ok-read_fragment.field-0)) refl (λ ws. refl) (λ ns. refl)

pub returns-in_default-kind_of-clause-reads : goal.returns-in_default-kind_of-clause-reads
returns-in_default-kind_of-clause-reads c =
    let p0 = at_start MayDefine between c.args.cursor.now in
    let no_fragment : bytes_eq c.in-Some.word.now fragment_word ≡ false = grind (arith, common_steps) in
    rw c.fault-in_default-kind_of.ensures (fails_here p0 (λ ws size m. definition_unknown size ws c.in-Some.word.now c.args.cursor.now.source (none_before ws c.args.cursor.now.source m) c.in-Some.ensures.some no_fragment
    (λ k e. let is : c.kind_of.result ≡ Some k = c.kind_of.ensures.all k e in let none : c.kind_of.result ≡ None = c.in_default-kind_of.is in cc)))

pub returns-in_err-read_operation-clause-reads : goal.returns-in_err-read_operation-clause-reads
returns-in_err-read_operation-clause-reads c =
    let e = err_from_is_err_and c.from_residual-in_err-read_operation.result c.from_residual-in_err-read_operation.ensures.1 in
    let p0 = at_start MayDefine between c.args.cursor.now in
    let kind = c.in-Some-kind_of.kind in
    let p1 = pass-name p0 c.in-Some.word.now (λ ws. kinded ws kind) (c.args.first + 2) c.skip-2.new.self c.in-Some.ensures.some c.in_ok-skip-2.ensures.source c.in_ok-skip-2.ensures.places c.skip-2.ensures.same (λ ws. kind_begins ws c.in-Some.word.now kind c.in-Some-kind_of.ensures.is) in
    rw (e.1, e.2) (fails_in p1 Anywhere (λ ws. kinded ws kind) (λ ws. ws) (λ ws. refl) (λ ws m. tt) c.in_err-read_operation.field-0.0 c.in_err-read_operation.ensures.reads)

pub returns-clause-reads : goal.returns-clause-reads
returns-clause-reads c =
    let p0 = at_start MayDefine between c.args.cursor.now in
    let kind = c.in-Some-kind_of.kind in
    let p1 = pass-name p0 c.in-Some.word.now (λ ws. kinded ws kind) (c.args.first + 2) c.skip-2.new.self c.in-Some.ensures.some c.in_ok-skip-2.ensures.source c.in_ok-skip-2.ensures.places c.skip-2.ensures.same (λ ws. kind_begins ws c.in-Some.word.now kind c.in-Some-kind_of.ensures.is) in
    all_read (pass-part p1 c.in_ok-read_operation.ensures.reads (λ ws. ws) (λ ws. refl) (λ ws m. tt)) (full (D.Operation c.in_ok-read_operation.field-0)) refl (λ ws. refl) (λ ns. refl)

pub returns-then-eq-clause-taken : goal.returns-then-eq-clause-taken
returns-then-eq-clause-taken c =
    omega (arith, word_taken c.in-Some.word.now c.args.cursor.now.source c.skip.new.self.source c.in-Some.ensures.some c.in_ok-skip.ensures.source, c.in_ok-read_fragment.ensures.reads.taken)

pub returns-clause-taken : goal.returns-clause-taken
returns-clause-taken c =
    omega (arith, word_taken c.in-Some.word.now c.args.cursor.now.source c.skip-2.new.self.source c.in-Some.ensures.some c.in_ok-skip-2.ensures.source, c.in_ok-read_operation.ensures.reads.taken)
