-- Local variables are valued as those of an operation.
use Rattle.std.proofs.Common.{◌≡◌, Option, None, IfErr, IfOk, OnOk, subst}
use Rattle.line_engine.proofs.LocalScopes.{same_failures, same_scopes}
use Rattle.line_engine.proofs.environments.scope_given.Goals as goal
use Rattle.plan_ir.specs.schema_types.Environments.{Failure, Values}
use Rattle.schema_values.specs.Failures.{Tells}

pub returns-clause-sound : goal.returns-clause-sound
returns-clause-sound c =
    subst (λ (f : Option Failure). OnOk c.variables.result (f ≡ None)) (same_failures c.args.schema.now c.args.locals.now c.args.given.now) c.variables.ensures.sound

pub returns-clause-values : goal.returns-clause-values
returns-clause-values c =
    subst (λ (vs : Values). IfOk c.variables.result (λ scope. scope.values ≡ vs)) (same_scopes c.args.locals.now c.args.given.now) c.variables.ensures.values

pub returns-clause-fault : goal.returns-clause-fault
returns-clause-fault c =
    subst (λ (f : Option Failure). IfErr c.variables.result (Tells f)) (same_failures c.args.schema.now c.args.locals.now c.args.given.now) c.variables.ensures.fault
