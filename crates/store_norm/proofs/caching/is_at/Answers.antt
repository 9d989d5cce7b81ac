-- The name there is the one that is sought.
use Rattle.std.proofs.Common.{rules, ◌≡◌, ◌<◌, length}
use Rattle.store_norm.proofs.CacheSteps.{type_found}
use Rattle.store_norm.proofs.caching.is_at.Goals as goal

pub returns-then-eq : goal.returns-then-eq
returns-then-eq c = λ _.
    let within : c.args.place < length c.args.types.now = search rules in
    let named : c.index-types-place.result.name.now ≡ c.args.name.now = search rules in
    type_found c.args.types.now c.args.place c.index-types-place.result c.args.name.now within c.index-types-place.is named
