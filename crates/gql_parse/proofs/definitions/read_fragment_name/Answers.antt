use Rattle.std.proofs.Common.{◌≡◌, None, true, false, bytes_eq, arith}
use Rattle.std.proofs.lemmas.Grind.{common_steps}
use Rattle.gql_parse.specs.Machine.{fragment_begun}
use Rattle.gql_syntax.specs.Nexts.{next_word}
use Rattle.gql_syntax.specs.Reads.{Anywhere}
use Rattle.gql_syntax.specs.Words.{on_word}
use Rattle.gql_parse.proofs.Heads.{fragment_named_on, fragment_name_missed}
use Rattle.gql_parse.proofs.Members.{fragment_name_read}
use Rattle.gql_parse.proofs.Passing.{at_start, fails_here}
use Rattle.gql_parse.proofs.definitions.read_fragment_name.Goals as goal

pub returns-in_default : goal.returns-in_default
returns-in_default c =
    let n : next_word c.args.cursor.now.source ≡ None = c.next_word.ensures.none c.in_default.is in
    record { reads = rw c.fault.ensures (fails_here (at_start Anywhere fragment_begun c.args.cursor.now) (λ ws size m. fragment_name_missed size ws c.args.cursor.now.source n)) }

pub returns-then-eq : goal.returns-then-eq
returns-then-eq c =
    let is_on : bytes_eq c.in-Some.word.now on_word ≡ true = grind (arith, common_steps) in
    record { reads = rw c.fault-then-eq.ensures (fails_here (at_start Anywhere fragment_begun c.args.cursor.now) (λ ws size m. fragment_named_on size ws c.in-Some.word.now c.args.cursor.now.source c.in-Some.ensures.some is_on)) }

pub returns : goal.returns
returns c =
    let not_on : bytes_eq c.in-Some.word.now on_word ≡ false = grind (arith, common_steps) in
    record {
      reads = fragment_name_read c.args.cursor.now c.read_name.new.cursor c.in-Some.word.now c.read_name.result c.in-Some.ensures.some not_on
          c.read_name.ensures.name c.read_name.ensures.source c.read_name.ensures.places c.read_name.ensures.same c.read_name.ensures.fault;
    }
