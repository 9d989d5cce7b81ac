-- What a response says is what its rows hold: types have Names, and pages have keys of the client's.
use Rattle.std.proofs.Common.{◌∷◌, [], subst, sym}
use Rattle.std.proofs.lemmas.Result.{IfErr-weaker, IfOk-weaker}
use Rattle.plan_groups.specs.FieldView.{plan_at}
use Rattle.plan_ir.specs.NormalMeaning.{collect_plan}
use Rattle.serde_json.specs.View.{view}
use Rattle.plan_ir.specs.store_model.Said.{HaveHandleKeys}
use Rattle.plan_ir.specs.store_model.Says.{Report, response_says}
use Rattle.store_norm.proofs.HandleKeys.{keys_hold}
use Rattle.store_norm.proofs.NamedReports.{names_hold}
use Rattle.store_norm.proofs.TakeSteps.{names_held}
use Rattle.store_norm.proofs.taken.taken.Goals as goal
use Rattle.store_report.specs.ObjectRows.{Adds, nothing_held}

pub into_facts-requires-clause-keys : goal.into_facts-requires-clause-keys
into_facts-requires-clause-keys c =
    let root = c.args.env.now.root in
    let values = c.args.env.now.values in
    let steps = c.args.plan.now.steps in
    let d = view c.args.response.now in
    let whole : Adds nothing_held c.take_response.new.rows (response_says collect_plan root (record { environment = values; steps = steps } ∷ []) d) =
    subst (λ (r : Report). Adds nothing_held c.take_response.new.rows r) (λ i. response_says collect_plan (c.as_str.ensures i) (c.new-part.ensures i ∷ []) d)
    (subst (λ s. Adds s c.take_response.new.rows (response_says collect_plan c.as_str.result.now (plan_at c.new-part.result ∷ []) d)) c.new-rows.ensures c.in_ok-take_response.ensures) in
    subst HaveHandleKeys (sym whole.pages) (keys_hold collect_plan root (record { environment = values; steps = steps } ∷ []) d)

pub into_facts-requires-clause-named : goal.into_facts-requires-clause-named
into_facts-requires-clause-named c =
    let root = c.args.env.now.root in
    let values = c.args.env.now.values in
    let steps = c.args.plan.now.steps in
    let d = view c.args.response.now in
    let r = response_says collect_plan root (record { environment = values; steps = steps } ∷ []) d in
    let whole : Adds nothing_held c.take_response.new.rows r =
    subst (λ (r : Report). Adds nothing_held c.take_response.new.rows r) (λ i. response_says collect_plan (c.as_str.ensures i) (c.new-part.ensures i ∷ []) d)
    (subst (λ s. Adds s c.take_response.new.rows (response_says collect_plan c.as_str.result.now (plan_at c.new-part.result ∷ []) d)) c.new-rows.ensures c.in_ok-take_response.ensures) in
    names_held c.take_response.new.rows r whole (names_hold root values steps d c.requires.formed)

pub returns-clause-facts : goal.returns-clause-facts
returns-clause-facts c =
    let root = c.args.env.now.root in
    let values = c.args.env.now.values in
    let steps = c.args.plan.now.steps in
    let d = view c.args.response.now in
    let whole : Adds nothing_held c.take_response.new.rows (response_says collect_plan root (record { environment = values; steps = steps } ∷ []) d) =
    subst (λ (r : Report). Adds nothing_held c.take_response.new.rows r) (λ i. response_says collect_plan (c.as_str.ensures i) (c.new-part.ensures i ∷ []) d)
    (subst (λ s. Adds s c.take_response.new.rows (response_says collect_plan c.as_str.result.now (plan_at c.new-part.result ∷ []) d)) c.new-rows.ensures c.in_ok-take_response.ensures) in
    IfOk-weaker c.into_facts.result _ _ (λ facts h. h (response_says collect_plan root (record { environment = values; steps = steps } ∷ []) d) whole) c.into_facts.ensures.facts

pub returns-clause-untaken : goal.returns-clause-untaken
returns-clause-untaken c =
    let root = c.args.env.now.root in
    let values = c.args.env.now.values in
    let steps = c.args.plan.now.steps in
    let d = view c.args.response.now in
    let whole : Adds nothing_held c.take_response.new.rows (response_says collect_plan root (record { environment = values; steps = steps } ∷ []) d) =
    subst (λ (r : Report). Adds nothing_held c.take_response.new.rows r) (λ i. response_says collect_plan (c.as_str.ensures i) (c.new-part.ensures i ∷ []) d)
    (subst (λ s. Adds s c.take_response.new.rows (response_says collect_plan c.as_str.result.now (plan_at c.new-part.result ∷ []) d)) c.new-rows.ensures c.in_ok-take_response.ensures) in
    IfErr-weaker c.into_facts.result _ _ (λ refused h. h (response_says collect_plan root (record { environment = values; steps = steps } ∷ []) d) whole) c.into_facts.ensures.untaken
