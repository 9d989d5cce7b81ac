use Rattle.std.proofs.Common.{◌+◌, ◌*◌}
use Rattle.gql_syntax.proofs.types.+read.Given as goal

abbrev pub decreases-read : goal.decreases-read
decreases-read l = 2 * l.room + 1

abbrev pub decreases-read_nullable : goal.decreases-read_nullable
decreases-read_nullable l = 2 * l.room
