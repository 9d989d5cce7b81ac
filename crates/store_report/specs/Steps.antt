-- A step with a text of its own.
use Rattle.store_model.specs.declared.payload_fault.PathStep.{PathStep}
use Rattle.store_model.specs.declared.payload_fault.PathStep.TheVariants as owned
use Rattle.store_report.specs.declared.path.Step.{Step}
use Rattle.store_report.specs.declared.path.Step.TheVariants.{Key, Index}

abbrev pub step_of : Step → PathStep
step_of (Key key) = owned.Key key.now
step_of (Index at) = owned.Index at
