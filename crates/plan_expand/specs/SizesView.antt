-- The sizes that the code keeps.
use Rattle.std.specs.BTreeMap.{get_by}
use Rattle.std.specs.Cmp.Lexicographic.{slice_cmp}
use Rattle.std.specs.Ordering.{nat_cmp}
use Rattle.std.specs.Prelude.{cond, Option, Some, None, bytes_eq}
use Rattle.plan_ir.specs.schema_tables.Types.{Text}
use Rattle.plan_expand.specs.LocalsView.{find_local_size}
use Rattle.plan_expand.specs.Measuring.{gift_size_or}
use Rattle.plan_expand.specs.Sizes.{one}
use Rattle.plan_expand.specs.declared.size.Size.{Size}
use Rattle.plan_expand.specs.declared.sizes.GiftSizes.{GiftSizes}
use Rattle.plan_expand.specs.declared.sizes.SizeScope as kept
use Rattle.plan_expand.specs.declared.sizes.SizeScope.TheVariants as S

abbrev pub find_size : GiftSizes → Text → Option Size
find_size given n = get_by (λ k. slice_cmp nat_cmp n k.now) given.by_name

-- the size under a name alone
abbrev pub size_named : Text → Size → Text → Option Size
size_named m size n = cond (bytes_eq m n) (Some size) None

abbrev pub sizes_of : kept.SizeScope → Text → Size
sizes_of S.Own n = one
sizes_of (S.Spread locals given) n = gift_size_or (find_size given n) (find_local_size locals.now n)
