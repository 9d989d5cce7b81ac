-- How large something is: how many nodes it has, on how many levels they stand, and how deep its values nest.
use Rattle.std.specs.Prelude.{ℕ, ◌+◌, max}
use Rattle.plan_expand.specs.declared.extent.Extent.{Extent}
use Rattle.plan_expand.specs.declared.size.Size.{Size}

abbrev pub no_extent : Extent
no_extent = record { count = 0; sets = 0; values = 0 }

abbrev pub both : Extent → Extent → Extent
both a b = record { count = a.count + b.count; sets = max a.sets b.sets; values = max a.values b.values }

abbrev pub values_extent : Size → Extent
values_extent v = record { count = v.count; sets = 0; values = v.depth }

-- a node on that level, with its values, and with what is added to its set
abbrev pub node_extent : (level : ℕ) → (values added : Size) → Extent
node_extent level v a = record { count = 1 + (v.count + a.count); sets = level + a.depth; values = v.depth }
