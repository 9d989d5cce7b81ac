-- What lies below a cache is less deep.
use Rattle.std.specs.Prelude.{◌<◌, ◌≤◌, ◌+◌, ℕ, List, [], ◌∷◌, max}
use Rattle.std.specs.List.{AllByRecursion}
use Rattle.std.proofs.Common.{arith}
use denote.Param.Weighed.{most}
use Rattle.plan_ir.specs.NormalMeaning.{Plan}
use Rattle.store_norm.specs.CacheView.{AreRight}
use Rattle.store_norm.specs.Caching.{Caching, room}
use Rattle.store_norm.specs.declared.cache.TypeGroups.{TypeGroups}
use Rattle.store_norm.specs.declared.cache.GroupCache.TheDeep.{deep-TypeGroups}

below_falls : (n : ℕ) (cs : List Caching) → AllByRecursion (λ (c : Caching). room c.parts < n) cs → most (λ (c : Caching). room c.parts + 1) cs ≤ n
below_falls n [] fewer = omega arith
below_falls n (c ∷ cs) fewer = omega (arith, fewer.0, below_falls n cs fewer.1)

pub cache_falls : (ps : List Plan) (ts : List TypeGroups) → AreRight ps ts → max (most deep-TypeGroups ts) 0 ≤ room ps
cache_falls ps [] right = omega arith
cache_falls ps (t ∷ ts) right = omega (arith, below_falls (room ps) t.below.items right.0.fewer, cache_falls ps ts right.1)
