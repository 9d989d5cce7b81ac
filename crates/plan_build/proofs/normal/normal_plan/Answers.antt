-- The plan is that of the definition, which is formed, typed and paged, says of fields what the schema says, means what the operation means, and reaches what it reaches.
use Rattle.std.proofs.Common.{[], ◌∷◌, ap, sym, subst, ◌∙◌}
use Rattle.plan_ir.specs.gql_plain.Order.{has_text}
use Rattle.plan_ir.specs.Normal.{Normal}
use Rattle.plan_ir.specs.NormalMeaning.{is_formed, plan_says}
use Rattle.plan_ir.specs.NormalReach.{plan_reaches}
use Rattle.plan_build.proofs.FittingSteps.{plan_fits}
use Rattle.plan_build.proofs.Formed.{steps_formed}
use Rattle.plan_build.proofs.Meaning.{plan_means}
use Rattle.plan_build.proofs.PagedSteps.{plan_paged}
use Rattle.plan_build.proofs.Reaches.{plan_reaches_nodes}
use Rattle.plan_build.proofs.TypedSteps.{plan_typed}
use Rattle.plan_build.proofs.normal.normal_plan.Goals as goal
use Rattle.plan_build.specs.NormalTypes.{FitsSchema, has_pages, is_typed}
use Rattle.plan_ir.specs.store_model.Walks.{type_of_record}

pub returns-clause-formed : goal.returns-clause-formed
returns-clause-formed c = λ names. ap is_formed c.in_ok-plan.ensures ∙ steps_formed c.args.schema.now names _ c.args.expanded.now.selections

pub returns-clause-typed : goal.returns-clause-typed
returns-clause-typed c = λ names sound root. ap is_typed c.in_ok-plan.ensures ∙ plan_typed c.args.schema.now c.args.expanded.now names sound root

pub returns-clause-paged : goal.returns-clause-paged
returns-clause-paged c = λ sound connected. ap has_pages c.in_ok-plan.ensures ∙ plan_paged c.args.schema.now sound c.args.expanded.now connected

pub returns-clause-fits : goal.returns-clause-fits
returns-clause-fits c = λ sound suited.
    subst (FitsSchema c.args.schema.now c.args.expanded.now.root) (sym c.in_ok-plan.ensures) (plan_fits c.args.schema.now c.args.expanded.now sound suited)

pub returns-clause-means : goal.returns-clause-means
returns-clause-means c = λ sound suited alike own response.
    ap (λ (steps : Normal). plan_says c.args.expanded.now.root own steps response) c.in_ok-plan.ensures
    ∙ plan_means c.args.schema.now c.args.expanded.now sound suited alike own response

pub returns-clause-reaches : goal.returns-clause-reaches
returns-clause-reaches c = λ sound suited alike own m id j.
    let root = c.args.expanded.now.root in
    ap (λ (steps : Normal). has_text (plan_reaches (type_of_record root) m own steps (root ∷ []) id) j) c.in_ok-plan.ensures
    ∙ plan_reaches_nodes c.args.schema.now c.args.expanded.now sound suited alike own m id j
