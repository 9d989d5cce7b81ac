-- What a response says to a formed plan is named, and its pages have keys of the client's.
use Rattle.std.proofs.Common.{◌≡◌, ◌∷◌, [], subst, sym, ◌∙◌}
use Rattle.plan_ir.specs.NormalMeaning.{collect_plan}
use Rattle.serde_json.specs.View.{view}
use Rattle.plan_ir.specs.store_model.Said.{HaveHandleKeys}
use Rattle.plan_ir.specs.store_model.Says.{response_says}
use Rattle.store_norm.proofs.HandleKeys.{keys_hold}
use Rattle.store_norm.proofs.NamedReports.{names_hold}
use Rattle.store_norm.proofs.response.said.Goals as goal
use Rattle.store_report.specs.Gathering.{AreNamed, Gathering, gathered_onto, nothing}

pub verdict-requires-clause-named : goal.verdict-requires-clause-named
verdict-requires-clause-named c =
    let root = c.args.env.now.root in
    let values = c.args.env.now.values in
    let steps = c.args.plan.now.steps in
    let d = view c.args.response.now in
    let whole : c.say_response.new.gathered ≡ gathered_onto nothing (response_says collect_plan root (record { environment = values; steps = steps } ∷ []) d) =
    c.in-Ok-say_response.ensures ∙ (λ i. gathered_onto (c.in-Ok.ensures i) (response_says collect_plan (c.as_str.ensures i) (c.new-part.ensures i ∷ []) d)) in
    subst (λ (g : Gathering). AreNamed g.puts) (sym whole) (names_hold root values steps d c.requires.formed)

pub verdict-requires-clause-keys : goal.verdict-requires-clause-keys
verdict-requires-clause-keys c =
    let root = c.args.env.now.root in
    let values = c.args.env.now.values in
    let steps = c.args.plan.now.steps in
    let d = view c.args.response.now in
    let whole : c.say_response.new.gathered ≡ gathered_onto nothing (response_says collect_plan root (record { environment = values; steps = steps } ∷ []) d) =
    c.in-Ok-say_response.ensures ∙ (λ i. gathered_onto (c.in-Ok.ensures i) (response_says collect_plan (c.as_str.ensures i) (c.new-part.ensures i ∷ []) d)) in
    subst (λ (g : Gathering). HaveHandleKeys g.pages) (sym whole) (keys_hold collect_plan root (record { environment = values; steps = steps } ∷ []) d)
