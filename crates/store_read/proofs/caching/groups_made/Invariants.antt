-- What was made for the groups so far.
use Rattle.std.proofs.Common.{◌≡◌, map, take}
use Rattle.store_read.proofs.caching.groups_made.Given as goal
use Rattle.store_read.specs.CacheView.{group_view}
use Rattle.store_read.specs.Caching.{read_group}
use Rattle.store_read.specs.Gathering.{group_of}

abbrev pub invariant-groups : goal.invariant-groups
invariant-groups l = map group_view l.made.items ≡ map (read_group l.levels) (map group_of (take l.fields-index l.groups))
