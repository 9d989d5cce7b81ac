-- What was made for the groups so far.
use Rattle.std.proofs.Common.{◌≡◌, take}
use Rattle.store_norm.proofs.caching.caches_below.Given as goal
use Rattle.store_norm.specs.Caching.{caches}

abbrev pub invariant-groups : goal.invariant-groups
invariant-groups l = l.below.items ≡ caches (take l.group-index l.groups)
