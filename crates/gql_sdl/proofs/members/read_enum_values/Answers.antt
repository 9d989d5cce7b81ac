use Rattle.std.proofs.Common.{◌≡◌, true, false, refl}
use Rattle.std.proofs.lemmas.Result.{err_from_is_err_and}
use Rattle.gql_syntax.specs.Nexts.{next_is}
use Rattle.gql_sdl.proofs.MemberReads.{values_list, values_laws, values-absent}
use Rattle.gql_sdl.proofs.Loops.{list-absent, list-fails, list-read}
use Rattle.gql_sdl.proofs.members.read_enum_values.Goals as goal

pub returns-then-not-next_is : goal.returns-then-not-next_is
returns-then-not-next_is c =
    let n : next_is 123 c.args.cursor.now.source ≡ false = cc in
    record { reads = list-absent values_list values_laws c.args.cursor.now c.new.result c.new.ensures (λ ns. refl) (values-absent c.args.cursor.now.source n) }

pub returns-in_err-items : goal.returns-in_err-items
returns-in_err-items c =
    let e = err_from_is_err_and c.from_residual.result c.from_residual.ensures.1 in
    let opened : next_is 123 c.args.cursor.now.source ≡ true = cc in
    record { reads = rw (e.1, e.2) (list-fails values_list values_laws _ (λ here there r e. e.1.0) c.args.cursor.now c.in_err-items.field-0.0 (λ k m n. absurd (cc)) c.in_err-items.ensures.reads) }

pub returns : goal.returns
returns c = record { reads = list-read values_list values_laws _ (λ here there r e. e.1.0) c.args.cursor.now c.read_members.new.cursor c.in_ok-items.items.items c.in_ok-items.ensures.reads }
