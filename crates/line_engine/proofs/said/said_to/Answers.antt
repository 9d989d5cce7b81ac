-- The plan of the operation says what the operation does.
use Rattle.line_engine.proofs.Meanings.{verdict_is_said}
use Rattle.line_engine.proofs.said.said_to.Goals as goal
use Rattle.serde_json.specs.View.{view}
use Rattle.plan_ir.specs.store_model.Verdicts.{content, refusal}

pub returns-in-Ok : goal.returns-in-Ok
returns-in-Ok c =
    verdict_is_said c.args.project.now c.args.held.now c.operation_held-compiled.result.now c.operation_held-compiled.ensures.is c.as_ref.result.now c.as_ref.ensures c.deref.result.now c.deref.ensures
    (view c.args.response.now) (content c.in-Ok.said) c.in-Ok.ensures.facts

pub returns-in-Err-Payload : goal.returns-in-Err-Payload
returns-in-Err-Payload c =
    verdict_is_said c.args.project.now c.args.held.now c.operation_held-compiled.result.now c.operation_held-compiled.ensures.is c.as_ref.result.now c.as_ref.ensures c.deref.result.now c.deref.ensures
    (view c.args.response.now) (refusal c.in-Err-Payload.fault) (rw c.in-Err-Payload.field-0-is at c.in-Err-Payload.ensures.fault)
