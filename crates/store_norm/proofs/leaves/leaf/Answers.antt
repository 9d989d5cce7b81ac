-- The plain value of the response.
use Rattle.std.proofs.Common.{◌++◌, ◌∷◌, [], ap}
use Rattle.serde_json.specs.View.{view}
use Rattle.plan_ir.specs.store_model.Says.{leaf_of}
use Rattle.plan_ir.proofs.store_model_laws.Plains.{plain_known}
use Rattle.plan_ir.specs.store_model.declared.payload_fault.PathStep.TheVariants.{Key}
use Rattle.store_norm.proofs.leaves.leaf.Goals as goal

pub returns-in-Ok-clause-field : goal.returns-in-Ok-clause-field
returns-in-Ok-clause-field c =
    ap (λ o. (leaf_of o (c.args.path.now ++ Key c.args.response.now ∷ [])).0) (plain_known c.in-Ok.plain (view c.args.value.now) c.in-Ok.ensures.same c.in-Ok.ensures.whole)
