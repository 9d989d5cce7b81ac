use Rattle.std.proofs.Common.{◌≡◌, ◌++◌, replicate}
use Rattle.gql_syntax.proofs.cursor.push_times.Given as goal

abbrev pub invariant-times : goal.invariant-times
invariant-times l = l.places ≡ l.fn.places ++ replicate l.counter l.place
