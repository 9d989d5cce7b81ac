-- No end so far is that of a key.
use Rattle.std.proofs.Common.{◌≡◌, length}
use Rattle.relay_marks.specs.Connections.{ends_as_key}
use Rattle.relay_dirs.proofs.rules.keys.ends_as_key.Given as goal

abbrev pub invariant-bytes : goal.invariant-bytes
invariant-bytes l = ends_as_key l.response l.key ≡ ends_as_key l.response l.rest

abbrev pub decreases-bytes : goal.decreases-bytes
decreases-bytes l = length l.rest
