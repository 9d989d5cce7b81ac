use Rattle.std.proofs.Common.{◌≡◌, ◌<◌, ◌-◌, true, length, sym, ap, ◌∙◌, arith}
use Rattle.std.proofs.lemmas.Grind.{common_steps}
use Rattle.std.proofs.lemmas.Result.{err_from_is_err_and}
use Rattle.gql_ast.specs.Ty as ty
use Rattle.gql_ast.specs.TypeView.{ty_of}
use Rattle.gql_syntax.specs.Machine.{want_type, typed, listed, closing}
use Rattle.gql_syntax.specs.Nexts.{next_is}
use Rattle.gql_syntax.specs.Parts.{goes}
use Rattle.gql_syntax.specs.Steps.{type_on}
use Rattle.gql_syntax.proofs.Laying.{kept_here, next_at, next_named, named_laid, list_laid, non_null_laid, mark_within}
use Rattle.gql_syntax.proofs.TypeMoves.{opens_type, closes_type, no_close, same_type_course, resized_tells}
use Rattle.gql_syntax.proofs.ValueMoves.{tells_by, tells_missing}
use Rattle.gql_syntax.proofs.types.+read.Goals as goal

pub read-repeat_place-requires : goal.read-repeat_place-requires
read-repeat_place-requires t c =
    let l = mark_within (ty_of c.in_ok-nullable.nullable) c.args.cursor.now c.read_nullable.new.cursor c.in_ok-nullable.ensures.laid in
    let n : next_is 33 c.read_nullable.new.cursor.source ≡ true = grind (arith, common_steps) in
    let k = kept_here c.read_nullable.new.cursor c.skip.new.self (next_at 33 c.read_nullable.new.cursor.source n) c.in_ok-skip.ensures.places in
    omega (arith, l, c.place_count-mark.ensures, ap length k)

pub read-returns-clause-laid : goal.read-returns-clause-laid
read-returns-clause-laid t c =
    let n : next_is 33 c.read_nullable.new.cursor.source ≡ true = grind (arith, common_steps) in
    rw c.in_ok-new.ensures (non_null_laid (ty_of c.in_ok-nullable.nullable) c.args.cursor.now c.read_nullable.new.cursor c.skip.new.self c.repeat_place.new.self c.place_count-mark.result
    c.in_ok-nullable.ensures.laid (next_at 33 c.read_nullable.new.cursor.source n) c.skip.ensures.file c.skip.ensures.same c.in_ok-skip.ensures.source c.in_ok-skip.ensures.places
    c.place_count-mark.ensures c.in_ok-repeat_place.ensures)

pub read_nullable-returns-then-not-next_is-clause-laid : goal.read_nullable-returns-then-not-next_is-clause-laid
read_nullable-returns-then-not-next_is-clause-laid t c =
    named_laid c.in_ok-read_name.field-0 c.args.cursor.now c.read_name.new.cursor (next_named c.in_ok-read_name.field-0 c.args.cursor.now.source c.in_ok-read_name.ensures.name)
    c.read_name.ensures.file c.read_name.ensures.same c.in_ok-read_name.ensures.source c.in_ok-read_name.ensures.places

pub read_nullable-returns-in_err-of-clause-reads : goal.read_nullable-returns-in_err-of-clause-reads
read_nullable-returns-in_err-of-clause-reads t c =
    let size = length c.args.cursor.now.text in
    let n : next_is 91 c.args.cursor.now.source ≡ true = grind (arith, common_steps) in
    let l : 0 < c.args.room = omega arith in
    let e = err_from_is_err_and c.from_residual-in_err-of.result c.from_residual-in_err-of.ensures.1 in
    λ h. rw (e.1, e.2) (tells_by c.in_err-of.field-0.0 _ _
    (opens_type size c.args.cursor.now.source c.args.room h l n
    ∙ ap (λ s. type_on size (goes (want_type (c.args.room - 1) (listed h))) s) (sym c.in_ok-skip.ensures.source))
    (resized_tells _ _ c.in_err-of.field-0.0 (goes (want_type (c.args.room - 1) (listed h))) c.skip.new.self.source (ap length c.skip.ensures.same) (c.in_err-of.ensures.reads (listed h))))

pub read_nullable-returns-in_err-expect-clause-reads : goal.read_nullable-returns-in_err-expect-clause-reads
read_nullable-returns-in_err-expect-clause-reads t c =
    let size = length c.args.cursor.now.text in
    let x = ty_of c.in_ok-of.of in
    let n : next_is 91 c.args.cursor.now.source ≡ true = grind (arith, common_steps) in
    let l : 0 < c.args.room = omega arith in
    let e = err_from_is_err_and c.from_residual-in_err-expect.result c.from_residual-in_err-expect.ensures.1 in
    let text : c.read.new.cursor.text ≡ c.args.cursor.now.text = c.in_ok-of.ensures.same ∙ c.skip.ensures.same in
    λ h. rw (e.1, e.2) (tells_by c.in_err-expect.field-0.0 _ _
    (opens_type size c.args.cursor.now.source c.args.room h l n
    ∙ ap (λ s. type_on size (goes (want_type (c.args.room - 1) (listed h))) s) (sym c.in_ok-skip.ensures.source)
    ∙ same_type_course _ _ (goes (want_type (c.args.room - 1) (listed h))) (goes (closing x h)) c.skip.new.self.source c.read.new.cursor.source (ap length c.skip.ensures.same) (c.in_ok-of.ensures.reads (listed h)))
    (resized_tells (length c.read.new.cursor.text) size c.in_err-expect.field-0.0 (goes (closing x h)) c.read.new.cursor.source (ap length text)
    (tells_missing c.in_err-expect.field-0.0 _ _ _ (no_close (length c.read.new.cursor.text) c.read.new.cursor.source x h) c.in_err-expect.ensures.fault)))

pub read_nullable-returns-clause-reads : goal.read_nullable-returns-clause-reads
read_nullable-returns-clause-reads t c =
    let size = length c.args.cursor.now.text in
    let x = ty_of c.in_ok-of.of in
    let n : next_is 91 c.args.cursor.now.source ≡ true = grind (arith, common_steps) in
    let l : 0 < c.args.room = omega arith in
    λ h. opens_type size c.args.cursor.now.source c.args.room h l n
    ∙ ap (λ s. type_on size (goes (want_type (c.args.room - 1) (listed h))) s) (sym c.in_ok-skip.ensures.source)
    ∙ same_type_course _ _ (goes (want_type (c.args.room - 1) (listed h))) (goes (closing x h)) c.skip.new.self.source c.read.new.cursor.source (ap length c.skip.ensures.same) (c.in_ok-of.ensures.reads (listed h))
    ∙ closes_type size c.read.new.cursor.source x h c.in_ok-expect.ensures.found
    ∙ ap (λ s. type_on size (goes (typed (ty.list x) h)) s) (sym c.in_ok-expect.ensures.source)
    ∙ ap (λ y. type_on size (goes (typed (ty.list y) h)) c.expect.new.cursor.source) (sym c.in_ok-new.ensures)

pub read_nullable-returns-clause-laid : goal.read_nullable-returns-clause-laid
read_nullable-returns-clause-laid t c =
    let n : next_is 91 c.args.cursor.now.source ≡ true = grind (arith, common_steps) in
    rw c.in_ok-new.ensures (list_laid (ty_of c.in_ok-of.of) c.args.cursor.now c.skip.new.self c.read.new.cursor c.expect.new.cursor
    (next_at 91 c.args.cursor.now.source n) c.skip.ensures.file c.skip.ensures.same c.in_ok-skip.ensures.source c.in_ok-skip.ensures.places c.in_ok-of.ensures.laid
    (next_at 93 c.read.new.cursor.source c.in_ok-expect.ensures.found) c.expect.ensures.file c.expect.ensures.same c.in_ok-expect.ensures.source c.in_ok-expect.ensures.places)
