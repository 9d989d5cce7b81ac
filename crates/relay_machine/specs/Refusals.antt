-- Why a line is refused: each refusal has a code, a name, and further keys (this project's own).
use Rattle.std.specs.Prelude.{ℕ, List, [], ◌∷◌, map, codes, pos, Option, Some, None}
use Rattle.plan_ir.specs.gql_plain.Shown.{tree_of}
use Rattle.plan_ir.specs.gql_plain.Tree.{Tree, null, text, whole, list, object, trees_of, members_of}
use Rattle.plan_ir.specs.schema_types.Environments.{Failure, missing, unfit}
use Rattle.plan_ir.specs.store_model.declared.payload_fault.Cause.{Cause}
use Rattle.plan_ir.specs.store_model.declared.payload_fault.Cause.TheVariants.{NoData, Shape, NotWhole, IdShape, ReservedId, Typename, Conflict}
use Rattle.plan_ir.specs.store_model.declared.payload_fault.PathStep.{PathStep}
use Rattle.plan_ir.specs.store_model.declared.payload_fault.PathStep.TheVariants.{Key, Index}
use Rattle.plan_ir.specs.store_model.declared.payload_fault.PayloadFault.{PayloadFault}
use Rattle.plan_ir.specs.store_record.Keys.{Text}
use Rattle.plan_ir.specs.store_record.declared.field.Field.{Field}
use Rattle.plan_ir.specs.store_record.declared.field.Field.TheVariants.{Leaf, Link, Links}

-- what there may be no more of
pub data Limited : Type 0 where
  handles layers watches : Limited

abbrev pub most : Limited → ℕ
most handles = 10000
most layers = 1000
most watches = 10000

pub data Refusal : Type 0 where
  -- the line is no JSON
  not_json : Refusal
  -- the line is no event, its updates apart
  event_shape : Refusal
  -- its updates are no commands
  update_shape : Refusal
  -- the line has more than 8 MiB
  line_too_long : Refusal
  -- the project has no operation of the name
  unknown_operation : (name : Text) → Refusal
  -- the project has no fragment of the name
  unknown_fragment : (name : Text) → Refusal
  -- no handle of the name is live
  unknown_handle : (name : Text) → Refusal
  -- a handle of the name is live
  handle_taken : (name : Text) → Refusal
  -- a live watch was started with the handle of the name
  handle_in_use : (name : Text) → Refusal
  -- no layer of the name is live
  unknown_layer : (name : Text) → Refusal
  -- a layer of the name is live
  layer_taken : (name : Text) → Refusal
  -- no watch of the name is live
  unknown_watch : (name : Text) → Refusal
  -- a watch of the name is live
  watch_taken : (name : Text) → Refusal
  -- a command names this, which is no object type of the schema
  unknown_type : (name : Text) → Refusal
  -- a variable has no value, or one that does not fit
  variables : Failure → Refusal
  -- a response has this fault
  payload : PayloadFault → Refusal
  -- as many as there may be are live
  too_many : Limited → Refusal

abbrev pub code_of : Refusal → ℕ
code_of not_json = 1
code_of event_shape = 2
code_of update_shape = 3
code_of line_too_long = 4
code_of (unknown_operation name) = 5
code_of (unknown_fragment name) = 6
code_of (unknown_handle name) = 7
code_of (handle_taken name) = 8
code_of (handle_in_use name) = 9
code_of (unknown_layer name) = 10
code_of (layer_taken name) = 11
code_of (unknown_watch name) = 12
code_of (watch_taken name) = 13
code_of (unknown_type name) = 14
code_of (variables f) = 15
code_of (payload f) = 16
code_of (too_many l) = 17

abbrev pub name_of : Refusal → Text
name_of not_json = codes "NotJson"
name_of event_shape = codes "EventShape"
name_of update_shape = codes "UpdateShape"
name_of line_too_long = codes "LineTooLong"
name_of (unknown_operation name) = codes "UnknownOperation"
name_of (unknown_fragment name) = codes "UnknownFragment"
name_of (unknown_handle name) = codes "UnknownHandle"
name_of (handle_taken name) = codes "HandleTaken"
name_of (handle_in_use name) = codes "HandleInUse"
name_of (unknown_layer name) = codes "UnknownLayer"
name_of (layer_taken name) = codes "LayerTaken"
name_of (unknown_watch name) = codes "UnknownWatch"
name_of (watch_taken name) = codes "WatchTaken"
name_of (unknown_type name) = codes "UnknownType"
name_of (variables f) = codes "Variables"
name_of (payload f) = codes "Payload"
name_of (too_many l) = codes "TooMany"

-- ---- further keys

-- a field as it is printed: a leaf as its value, a link and a list of links by their ids
abbrev pub id_or_null : Option Text → Tree
id_or_null None = null
id_or_null (Some id) = text id

abbrev pub shown_field : Field → Tree
shown_field (Leaf value) = tree_of value
shown_field (Link id) = object (members_of ((codes "__ref", text id) ∷ []))
shown_field (Links ids) = object (members_of ((codes "__refs", list (trees_of (map id_or_null ids))) ∷ []))

abbrev pub shown_step : PathStep → Tree
shown_step (Key key) = text key
shown_step (Index n) = whole (pos n)

abbrev pub cause_name : Cause → Text
cause_name NoData = codes "NoData"
cause_name Shape = codes "Shape"
cause_name NotWhole = codes "NotWhole"
cause_name IdShape = codes "IdShape"
cause_name ReservedId = codes "ReservedId"
cause_name Typename = codes "Typename"
cause_name (Conflict id key first second) = codes "Conflict"

abbrev pub limited_name : Limited → Text
limited_name handles = codes "handles"
limited_name layers = codes "layers"
limited_name watches = codes "watches"

abbrev pub failure_keys : Failure → List (Text × Tree)
failure_keys (missing name) = (codes "cause", text (codes "Missing")) ∷ (codes "variable", text name) ∷ []
failure_keys (unfit name) = (codes "cause", text (codes "Unfit")) ∷ (codes "variable", text name) ∷ []

-- a conflict tells the id and the key, and both values
abbrev pub conflict_keys : Cause → List (Text × Tree)
conflict_keys NoData = []
conflict_keys Shape = []
conflict_keys NotWhole = []
conflict_keys IdShape = []
conflict_keys ReservedId = []
conflict_keys Typename = []
conflict_keys (Conflict id key first second) =
    (codes "id", text id) ∷ (codes "key", text key) ∷ (codes "first", shown_field first) ∷ (codes "second", shown_field second) ∷ []

abbrev pub name_key : Text → List (Text × Tree)
name_key name = (codes "name", text name) ∷ []

-- the further keys of a refusal, in any order
abbrev pub keys_of : Refusal → List (Text × Tree)
keys_of not_json = []
keys_of event_shape = []
keys_of update_shape = []
keys_of line_too_long = []
keys_of (unknown_operation name) = name_key name
keys_of (unknown_fragment name) = name_key name
keys_of (unknown_handle name) = name_key name
keys_of (handle_taken name) = name_key name
keys_of (handle_in_use name) = name_key name
keys_of (unknown_layer name) = name_key name
keys_of (layer_taken name) = name_key name
keys_of (unknown_watch name) = name_key name
keys_of (watch_taken name) = name_key name
keys_of (unknown_type name) = name_key name
keys_of (variables f) = failure_keys f
keys_of (payload f) =
    (codes "cause", text (cause_name f.cause)) ∷ (codes "path", list (trees_of (map shown_step f.path))) ∷ conflict_keys f.cause
keys_of (too_many l) = (codes "kind", text (limited_name l)) ∷ (codes "limit", whole (pos (most l))) ∷ []
