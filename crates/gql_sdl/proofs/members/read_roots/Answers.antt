use Rattle.std.proofs.lemmas.Result.{err_from_is_err_and}
use Rattle.gql_sdl.specs.Reads.{NoDirective, unopened_roots, closed_roots}
use Rattle.gql_sdl.proofs.MemberReads.{roots_list, roots_laws, roots-stop, as_written}
use Rattle.gql_sdl.proofs.Loops.{list-fails, list-read}
use Rattle.gql_sdl.proofs.members.read_roots.Goals as goal

pub returns-in_err-items : goal.returns-in_err-items
returns-in_err-items c =
    let e = err_from_is_err_and c.from_residual.result c.from_residual.ensures.1 in
    record { reads = rw (e.1, e.2) (list-fails roots_list roots_laws _ (λ here there r e. e.1.0) c.args.cursor.now c.in_err-items.field-0.0 (roots-stop c.args.cursor.now.source) c.in_err-items.ensures.reads) }

pub returns : goal.returns
returns c = record {
  reads = as_written NoDirective unopened_roots closed_roots roots_list.whole c.args.cursor.now c.read_members.new.cursor c.in_ok-items.items.items
      (list-read roots_list roots_laws _ (λ here there r e. e.1.0) c.args.cursor.now c.read_members.new.cursor c.in_ok-items.items.items c.in_ok-items.ensures.reads);
}
