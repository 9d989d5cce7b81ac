use Rattle.std.proofs.Common.{◌≡◌, true, false}
use Rattle.gql_syntax.specs.Nexts.{next_is}
use Rattle.gql_sdl.proofs.ListReads.{members-absent, members-reads}
use Rattle.gql_sdl.proofs.lists.read_union_members.Goals as goal

pub returns-then-not-next_is : goal.returns-then-not-next_is
returns-then-not-next_is c =
    let n : next_is 61 c.args.cursor.now.source ≡ false = cc in
    record { reads = members-absent c.args.cursor.now c.new.result c.new.ensures n }

pub returns : goal.returns
returns c =
    let n : next_is 61 c.args.cursor.now.source ≡ true = cc in
    record {
      reads = members-reads c.args.cursor.now c.skip.new.self c.read_names.new.cursor c.read_names.result n c.in_ok-skip.ensures.source c.in_ok-skip.ensures.places c.skip.ensures.same
          c.read_names.ensures.reads c.read_names.ensures.some;
    }
