-- The sizes that stand beside local variables are those of their defaults.
use Rattle.std.proofs.Common.{◌≡◌, Option, Some, None, option_map, refl}
use Rattle.plan_ir.specs.schema_tables.Types.{Text}
use Rattle.plan_expand.specs.LocalsView.{default_view, find_default, find_local, find_local_size}
use Rattle.plan_expand.specs.Sizes.{default_size}
use Rattle.plan_expand.specs.declared.local.Local.{Local}
use Rattle.plan_expand.specs.declared.locals.Locals.{Locals}

local_size : (o : Option Local) → option_map (λ (l : Local). l.size) o ≡ option_map default_size (option_map default_view o)
local_size None = refl
local_size (Some l) = λ i. Some (record { count = l.counted i; depth = l.nested i })

pub local_sizes : (table : Locals) (n : Text) → find_local_size table n ≡ option_map default_size (find_default table n)
local_sizes table n = local_size (find_local table n)
