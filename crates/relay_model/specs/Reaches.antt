-- Reach along the syntax trees of documents: the ids at which a walk along an operation's whole form stands, with all spreads entered and the
-- fields that are added.
use Rattle.std.specs.Prelude.{ℕ, zero, suc, ◌+◌, List, [], ◌∷◌, Some}
use Rattle.plan_ir.specs.gql_ast.Sels.{Sels}
use Rattle.plan_ir.specs.gql_ast.declared.place.FilePlace.{FilePlace}
use Rattle.plan_ir.specs.Expansion.{Project, name_or}
use Rattle.plan_collect.specs.Collection.{Part, Setting, collect, part_of, selections_of}
use Rattle.relay_model.specs.Readings.{depth_inside, depth_with}
use Rattle.relay_model.specs.Responses.{whole_setting}
use Rattle.plan_ir.specs.schema_tables.Types.{Text, root}
use Rattle.plan_ir.specs.schema_types.Environments.{Values}
use Rattle.plan_ir.specs.schema_types.NameRules.{fragment_named}
use Rattle.plan_ir.specs.schema_types.Sites.{OperationAt}
use Rattle.plan_ir.specs.store_model.Reaches.{reach_at}
use Rattle.plan_ir.specs.store_model.Walks.{Slots, type_of_record}

-- how many records the walk stands at one below another, the first one not counted: at most as many as sets stand in one another; so many
-- spreads may still be entered, one in another
abbrev pub whole_depth : (spreads : ℕ) → Setting → Sels → ℕ
whole_depth zero w s = depth_with (λ n. 0) s
whole_depth (suc k) w s =
    depth_with (λ n. depth_inside (λ f. whole_depth k w (selections_of w (Some f.on.name) f.selections) + 1) (fragment_named w.project.fragments n)) s

-- from an id where a record of this type is possible
abbrev pub part_reaches : Setting → (operation_type : Text) → Slots → Part → (id : Text) → List Text
part_reaches w T m part id = reach_at (collect w) (type_of_record T) m (whole_depth part.spreads w part.selections + 1) (T ∷ []) (part ∷ []) id

-- the ids of an operation, under this environment, as often as the walk stands there
abbrev pub operation_reaches : Project → FilePlace → OperationAt → (own : Values) → Slots → (id : Text) → List Text
operation_reaches p place o own m id =
    part_reaches (whole_setting p place own) (name_or (root p.defs o.kind)) m (part_of (whole_setting p place own) o) id
