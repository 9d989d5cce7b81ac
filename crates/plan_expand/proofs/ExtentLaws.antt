-- Extents that are put together.
use Rattle.std.proofs.Common.{◌≡◌, ◌+◌, arith}
use Rattle.std.specs.Prelude.{max}
use Rattle.plan_expand.specs.Extents.{both, no_extent}
use Rattle.plan_expand.specs.declared.extent.Extent.{Extent}

pub both_assoc : (a b c : Extent) → both (both a b) c ≡ both a (both b c)
both_assoc a b c =
    let n : (a.count + b.count) + c.count ≡ a.count + (b.count + c.count) = omega arith in
    let s : max (max a.sets b.sets) c.sets ≡ max a.sets (max b.sets c.sets) = omega arith in
    let v : max (max a.values b.values) c.values ≡ max a.values (max b.values c.values) = omega arith in
    λ i. record { count = n i; sets = s i; values = v i }

pub both_none : (a : Extent) → both a no_extent ≡ a
both_none a =
    let n : a.count + 0 ≡ a.count = omega arith in
    let s : max a.sets 0 ≡ a.sets = omega arith in
    let v : max a.values 0 ≡ a.values = omega arith in
    λ i. record { count = n i; sets = s i; values = v i }

pub none_both : (a : Extent) → both no_extent a ≡ a
none_both a =
    let n : 0 + a.count ≡ a.count = omega arith in
    let s : max 0 a.sets ≡ a.sets = omega arith in
    let v : max 0 a.values ≡ a.values = omega arith in
    λ i. record { count = n i; sets = s i; values = v i }

-- the two in the middle change places
pub both_swap : (a b c d : Extent) → both (both a b) (both c d) ≡ both (both a c) (both b d)
both_swap a b c d =
    let n : (a.count + b.count) + (c.count + d.count) ≡ (a.count + c.count) + (b.count + d.count) = omega arith in
    let s : max (max a.sets b.sets) (max c.sets d.sets) ≡ max (max a.sets c.sets) (max b.sets d.sets) = omega arith in
    let v : max (max a.values b.values) (max c.values d.values) ≡ max (max a.values c.values) (max b.values d.values) = omega arith in
    λ i. record { count = n i; sets = s i; values = v i }

-- the second one goes to the end
pub both_last : (a b c : Extent) → both (both a b) c ≡ both (both a c) b
both_last a b c =
    let n : (a.count + b.count) + c.count ≡ (a.count + c.count) + b.count = omega arith in
    let s : max (max a.sets b.sets) c.sets ≡ max (max a.sets c.sets) b.sets = omega arith in
    let v : max (max a.values b.values) c.values ≡ max (max a.values c.values) b.values = omega arith in
    λ i. record { count = n i; sets = s i; values = v i }
