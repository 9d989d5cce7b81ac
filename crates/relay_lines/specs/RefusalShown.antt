-- Why a line is refused, as the machine sees it.
use Rattle.relay_lines.specs.declared.refusal.Limited.{Limited}
use Rattle.relay_lines.specs.declared.refusal.Limited.TheVariants as L
use Rattle.relay_lines.specs.declared.refusal.Refusal.{Refusal}
use Rattle.relay_lines.specs.declared.refusal.Refusal.TheVariants as R
use Rattle.relay_machine.specs.Refusals as model
use Rattle.plan_ir.specs.schema_types.Environments.{missing, unfit}

abbrev pub limited_shown : Limited → model.Limited
limited_shown L.Handles = model.handles
limited_shown L.Layers = model.layers
limited_shown L.Watches = model.watches

abbrev pub refusal_shown : Refusal → model.Refusal
refusal_shown R.NotJson = model.not_json
refusal_shown R.EventShape = model.event_shape
refusal_shown R.UpdateShape = model.update_shape
refusal_shown R.LineTooLong = model.line_too_long
refusal_shown (R.UnknownOperation name) = model.unknown_operation name.now
refusal_shown (R.UnknownFragment name) = model.unknown_fragment name.now
refusal_shown (R.UnknownHandle name) = model.unknown_handle name.now
refusal_shown (R.HandleTaken name) = model.handle_taken name.now
refusal_shown (R.HandleInUse name) = model.handle_in_use name.now
refusal_shown (R.UnknownLayer name) = model.unknown_layer name.now
refusal_shown (R.LayerTaken name) = model.layer_taken name.now
refusal_shown (R.UnknownWatch name) = model.unknown_watch name.now
refusal_shown (R.WatchTaken name) = model.watch_taken name.now
refusal_shown (R.UnknownType name) = model.unknown_type name.now
refusal_shown (R.MissingVariable name) = model.variables (missing name.now)
refusal_shown (R.UnfitVariable name) = model.variables (unfit name.now)
refusal_shown (R.Payload fault) = model.payload fault.now
refusal_shown (R.TooMany what) = model.too_many (limited_shown what)
