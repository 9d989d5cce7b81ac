use Rattle.std.proofs.Common.{◌≡◌, true, false, None, Some, refl}
use Rattle.std.proofs.lemmas.Result.{err_from_is_err_and}
use Rattle.gql_parse.specs.Machine.{aliased, named, set}
use Rattle.gql_parse.specs.Reads.{MayField, behind_field_name}
use Rattle.gql_syntax.specs.Nexts.{next_is}
use Rattle.gql_parse.proofs.Courses.{named_ends, wants_selection, alias_missed}
use Rattle.gql_parse.proofs.Passing.{at_start, pass-name, pass-over, pass-sign, all_read, fails_missed}
use Rattle.gql_parse.proofs.selections.read_field_name.Goals as goal

pub returns-in_err-first-clause-reads : goal.returns-in_err-first-clause-reads
returns-in_err-first-clause-reads c =
    let e = err_from_is_err_and c.from_residual.result c.from_residual.ensures.1 in
    let p0 = at_start MayField set c.args.cursor.now in
    rw (e.1, e.2) (fails_missed p0 c.in_err-first.field-0.0 _ c.in_err-first.ensures.fault (λ i size m x. wants_selection size i c.args.cursor.now.source m.0 m.1 x))

pub returns-then-not-next_is-clause-reads : goal.returns-then-not-next_is-clause-reads
returns-then-not-next_is-clause-reads c =
    let p0 = at_start MayField set c.args.cursor.now in
    let n = c.in_ok-first.first in
    let p1 = pass-name p0 n (λ i. named i n) 2 c.read_name.new.cursor c.in_ok-first.ensures.name c.in_ok-first.ensures.source c.in_ok-first.ensures.places c.read_name.ensures.same (λ i. refl) in
    let other : next_is 58 c.read_name.new.cursor.source ≡ false = cc in
    all_read (pass-over p1 (λ i. behind_field_name i (record { alias = None; name = n })) (λ i size m. named_ends size i n c.read_name.new.cursor.source other)) (record { alias = None; name = n }) refl (λ i. refl) (λ ns. refl)

pub returns-in_err-name-clause-reads : goal.returns-in_err-name-clause-reads
returns-in_err-name-clause-reads c =
    let e = err_from_is_err_and c.from_residual-in_err-name.result c.from_residual-in_err-name.ensures.1 in
    let p0 = at_start MayField set c.args.cursor.now in
    let n = c.in_ok-first.first in
    let p1 = pass-name p0 n (λ i. named i n) 2 c.read_name.new.cursor c.in_ok-first.ensures.name c.in_ok-first.ensures.source c.in_ok-first.ensures.places c.read_name.ensures.same (λ i. refl) in
    let colon : next_is 58 c.read_name.new.cursor.source ≡ true = cc in
    let p2 = pass-sign p1 58 (λ i. aliased i n) 0 c.skip.new.self colon c.in_ok-skip.ensures.source c.in_ok-skip.ensures.places c.skip.ensures.same (λ i. refl) in
    rw (e.1, e.2) (fails_missed p2 c.in_err-name.field-0.0 _ c.in_err-name.ensures.fault (λ i size m x. alias_missed size i n c.skip.new.self.source x))

pub returns-clause-reads : goal.returns-clause-reads
returns-clause-reads c =
    let p0 = at_start MayField set c.args.cursor.now in
    let n = c.in_ok-first.first in
    let p1 = pass-name p0 n (λ i. named i n) 2 c.read_name.new.cursor c.in_ok-first.ensures.name c.in_ok-first.ensures.source c.in_ok-first.ensures.places c.read_name.ensures.same (λ i. refl) in
    let colon : next_is 58 c.read_name.new.cursor.source ≡ true = cc in
    let p2 = pass-sign p1 58 (λ i. aliased i n) 0 c.skip.new.self colon c.in_ok-skip.ensures.source c.in_ok-skip.ensures.places c.skip.ensures.same (λ i. refl) in
    let name = c.in_ok-name.name in
    all_read (pass-name p2 name (λ i. behind_field_name i (record { alias = Some n; name = name })) 1 c.read_name-2.new.cursor c.in_ok-name.ensures.name c.in_ok-name.ensures.source c.in_ok-name.ensures.places c.read_name-2.ensures.same (λ i. refl))
    (record { alias = Some n; name = name }) refl (λ i. refl) (λ ns. refl)
