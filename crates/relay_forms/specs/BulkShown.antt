-- Where a script that is drawn from a number stands, as the definitions see it.
use Rattle.relay_machine.specs.Bulk as model
use Rattle.relay_forms.specs.declared.bulk.Bulk.{Bulk}
use Rattle.relay_forms.specs.declared.bulk.Stage.{Stage}
use Rattle.relay_forms.specs.declared.bulk.Stage.TheVariants.{Retaining, Watching, Drawing}

abbrev pub stage_shown : Stage → model.Stage
stage_shown Retaining = model.retaining
stage_shown Watching = model.watching
stage_shown Drawing = model.drawing

abbrev pub bulk_shown : Bulk → model.Bulk
bulk_shown b = record { stage = stage_shown b.stage; drawn = b.drawn; live = b.live }
