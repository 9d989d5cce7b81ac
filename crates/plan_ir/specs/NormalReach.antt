-- Reach by a plan that normalizes: the ids that a walk along all its fields stands at.
use Rattle.std.specs.Prelude.{ℕ, ◌+◌, List, [], ◌∷◌, max}
use Rattle.plan_ir.specs.Normal as n
use Rattle.plan_ir.specs.Normal.{Normal}
use Rattle.plan_ir.specs.NormalMeaning.{collect_plan}
use Rattle.relay_marks.specs.schema_tables.Types.{Text}
use Rattle.relay_marks.specs.schema_types.Environments.{Values}
use Rattle.store_model.specs.Reaches.{reach_at}
use Rattle.store_model.specs.Walks.{Slots}

-- how many records a walk by these steps stands at one below another, the first one not counted; where a leaf is stored as a link, the walk
-- stands at that link's record, and ends there
abbrev pub records_below : Normal → ℕ
records_below n.done = 0
records_below (n.typename r rest) = records_below rest
records_below (n.leaf r name xs rest) = records_below rest
records_below (n.object r name xs m ts is o c child rest) = max (records_below child + 1) (records_below rest)
records_below (n.guarded g child rest) = max (records_below child) (records_below rest)

-- the ids of the walk by a plan from an id whose possible types are given, as often as it stands there
abbrev pub plan_reaches : (typed : Text → Text) → Slots → Values → Normal → (types : List Text) → (id : Text) → List Text
plan_reaches typed m env steps types id = reach_at collect_plan typed m (records_below steps + 1) types (record { environment = env; steps = steps } ∷ []) id
