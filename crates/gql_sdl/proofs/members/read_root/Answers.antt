use Rattle.std.proofs.Common.{◌≡◌, Some, None, ap, subst, ◌∙◌}
use Rattle.std.proofs.lemmas.Result.{err_from_is_err_and}
use Rattle.gql_syntax.specs.Nexts.{next_word}
use Rattle.gql_syntax.specs.Words.{kind_word}
use Rattle.gql_sdl.specs.Machine.{kind_of}
use Rattle.gql_sdl.proofs.MemberReads.{root-no_kind, root-no_colon, root-no_name, root-read, no-kind}
use Rattle.gql_sdl.proofs.members.read_root.Goals as goal

pub returns-in_default-kind_of-clause-reads : goal.returns-in_default-kind_of-clause-reads
returns-in_default-kind_of-clause-reads c =
    let w = c.in-Some.word.now in
    let came : next_word c.args.cursor.now.source ≡ Some w = c.in-Some.ensures.some in
    rw c.fault-in_default-kind_of.ensures (root-no_kind c.args.cursor.now (λ n e.
    let same : w ≡ n = cc in
    subst (λ m. kind_of m ≡ None) same (no-kind w (λ k h. let s = c.kind_of.ensures.all k h in c.in_default-kind_of.not-Some k s))))

pub returns-in_err-expect-clause-reads : goal.returns-in_err-expect-clause-reads
returns-in_err-expect-clause-reads c =
    let e = err_from_is_err_and c.from_residual-in_err-expect.result c.from_residual-in_err-expect.ensures.1 in
    let k = c.in-Some-kind_of.kind in
    let came : next_word c.args.cursor.now.source ≡ Some (kind_word k) = c.in-Some.ensures.some ∙ ap (λ w. Some w) c.in-Some-kind_of.ensures.is in
    rw (e.1, e.2) (root-no_colon c.args.cursor.now c.skip.new.self k came c.in_ok-skip.ensures.source c.skip.ensures.same c.in_err-expect.field-0.0 c.in_err-expect.ensures.fault)

pub returns-in_err-name-clause-reads : goal.returns-in_err-name-clause-reads
returns-in_err-name-clause-reads c =
    let e = err_from_is_err_and c.from_residual-in_err-name.result c.from_residual-in_err-name.ensures.1 in
    let k = c.in-Some-kind_of.kind in
    let came : next_word c.args.cursor.now.source ≡ Some (kind_word k) = c.in-Some.ensures.some ∙ ap (λ w. Some w) c.in-Some-kind_of.ensures.is in
    rw (e.1, e.2) (root-no_name c.args.cursor.now c.skip.new.self k came c.in_ok-skip.ensures.source c.skip.ensures.same
    c.expect.new.cursor c.in_ok-expect.ensures.found c.in_ok-expect.ensures.source c.expect.ensures.same c.in_err-name.field-0.0 c.in_err-name.ensures.fault)

pub returns-clause-reads : goal.returns-clause-reads
returns-clause-reads c =
    let k = c.in-Some-kind_of.kind in
    let came : next_word c.args.cursor.now.source ≡ Some (kind_word k) = c.in-Some.ensures.some ∙ ap (λ w. Some w) c.in-Some-kind_of.ensures.is in
    root-read c.args.cursor.now c.skip.new.self k came c.in_ok-skip.ensures.source c.skip.ensures.same
    c.expect.new.cursor c.in_ok-expect.ensures.found c.in_ok-expect.ensures.source c.expect.ensures.same
    c.read_name.new.cursor c.in_ok-name.name c.in_ok-name.ensures.name c.in_ok-name.ensures.source c.read_name.ensures.same
    c.in_ok-skip.ensures.places c.in_ok-expect.ensures.places c.in_ok-name.ensures.places
