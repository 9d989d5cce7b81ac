-- What the plan of an expanded operation is held to.
use Rattle.std.specs.Prelude.{◌≡◌, true, [], ◌∷◌}
use Rattle.plan_ir.specs.gql_plain.Order.{has_text}
use Rattle.plan_build.specs.Connected.{IsConnected}
use Rattle.plan_build.specs.FieldsAlike.{FieldsAreAlike}
use Rattle.plan_build.specs.NodesMeaning.{nodes_say}
use Rattle.plan_build.specs.NodesReach.{nodes_reach}
use Rattle.plan_build.specs.NormalTypes.{FitsSchema, has_pages, is_typed}
use Rattle.plan_build.specs.Suited.{IsSuited}
use Rattle.plan_ir.specs.Normal.{Normal}
use Rattle.plan_ir.specs.NormalMeaning.{are_names, is_formed, plan_says}
use Rattle.plan_ir.specs.NormalReach.{plan_reaches}
use Rattle.plan_ir.specs.declared.expanded.Expanded.{Expanded}
use Rattle.plan_ir.specs.schema_rules.Checked.{IsSound}
use Rattle.plan_ir.specs.schema_rules.Rules.{is_object}
use Rattle.plan_ir.specs.schema_tables.Types.{Text, Defs, possible}
use Rattle.plan_ir.specs.schema_types.Environments.{Values}
use Rattle.serde_json.specs.Data as J
use Rattle.plan_ir.specs.store_model.Walks.{Slots, type_of_record}

-- the object types of a schema that was read from a text have Names
abbrev pub HaveNames : Defs → Type 0
HaveNames defs = (t : Text) → are_names (possible defs t) ≡ true

abbrev pub IsWellFormed : Defs → Normal → Type 0
IsWellFormed defs plan = HaveNames defs → is_formed plan ≡ true

-- under a sound schema, for each environment each response says the same to the plan and to the expanded operation, where its fields are alike;
-- they are where they merge (V24)
abbrev pub MeansTheSame : Defs → Expanded → Normal → Type 0
MeansTheSame defs e plan =
    IsSound defs → IsSuited defs e → FieldsAreAlike defs e → (own : Values) (response : J.Data)
    → plan_says e.root own plan response ≡ nodes_say defs e own response

-- and for each environment and map of records the walks by the plan and by the expanded operation stand at the same ids
abbrev pub ReachesTheSame : Defs → Expanded → Normal → Type 0
ReachesTheSame defs e plan =
    IsSound defs → IsSuited defs e → FieldsAreAlike defs e → (own : Values) (m : Slots) (id j : Text)
    → has_text (plan_reaches (type_of_record e.root) m own plan (e.root ∷ []) id) j ≡ has_text (nodes_reach defs e own m id) j

-- under a sound schema whose object types have Names its steps are typed
abbrev pub IsTyped : Defs → Expanded → Normal → Type 0
IsTyped defs e plan = HaveNames defs → IsSound defs → is_object defs e.root ≡ true → is_typed plan ≡ true

-- its connections have their pages
abbrev pub IsPaged : Defs → Expanded → Normal → Type 0
IsPaged defs e plan = IsSound defs → IsConnected defs e → has_pages plan ≡ true

-- and its steps say of fields what the schema says
abbrev pub IsFitting : Defs → Expanded → Normal → Type 0
IsFitting defs e plan = IsSound defs → IsSuited defs e → FitsSchema defs e.root plan
