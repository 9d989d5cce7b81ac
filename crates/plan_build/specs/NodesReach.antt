-- The ids at which a walk along the expanded set of an operation stands. It stands between the documents and the plans.
use Rattle.std.specs.Prelude.{◌+◌, List, [], ◌∷◌}
use Rattle.plan_build.specs.NodesMeaning.{collect_nodes}
use Rattle.plan_ir.specs.Nodes.{set_depth}
use Rattle.plan_ir.specs.declared.expanded.Expanded.{Expanded}
use Rattle.plan_ir.specs.schema_tables.Types.{Text, Defs}
use Rattle.plan_ir.specs.schema_types.Environments.{Values}
use Rattle.plan_ir.specs.store_model.Reaches.{reach_at}
use Rattle.plan_ir.specs.store_model.Walks.{Slots, type_of_record}

-- as often as the walk stands there; at most as many records one below another as sets stand in one another
abbrev pub nodes_reach : Defs → Expanded → Values → Slots → (id : Text) → List Text
nodes_reach defs e own m id =
    reach_at (collect_nodes defs) (type_of_record e.root) m (set_depth e.selections + 1) (e.root ∷ []) (record { environment = own; nodes = e.selections } ∷ []) id
