-- The name there is the one that is sought.
use Rattle.std.proofs.Common.{rules, ◌≡◌, ◌<◌, length}
use Rattle.store_read.proofs.CacheSteps.{type_found}
use Rattle.store_read.proofs.caching.known_place.Goals as goal

pub returns-then-eq : goal.returns-then-eq
returns-then-eq c =
    let within : c.in_ok-place.field-0.now < length c.args.types.now = search rules in
    let named : c.index-types-place.result.name.now ≡ c.args.name.now = search rules in
    type_found c.args.types.now c.in_ok-place.field-0.now c.index-types-place.result c.args.name.now within c.index-types-place.is named
