use Rattle.std.proofs.Common.{◌++◌, ◌∷◌, [], length, option_map, sym, ap, ◌∙◌}
use Rattle.std.proofs.lemmas.List.{length-map}
use Rattle.store_model.specs.Says.{put_at}
use Rattle.store_model.specs.declared.payload_fault.PathStep.TheVariants.{Key}
use Rattle.store_report.proofs.GatherSteps.{with_put}
use Rattle.store_report.proofs.gathered.Gathered.field.Goals as goal
use Rattle.store_report.specs.Gathering.{Gathering, gathered_onto}
use Rattle.store_report.specs.SaidFacts.{put_of, fault_of}

pub returns-clause-put : goal.returns-clause-put
returns-clause-put c =
    let inside = c.self.inside in
    rw c.in_ok-push.ensures.items
    (with_put inside.facts.items inside.pages.items (option_map fault_of inside.fault) c.in_ok-fact.fact
    (record { fact = record { id = c.args.id.now; key = c.args.key.now; value = c.args.value }; path = c.args.path.now ++ Key c.args.response.now ∷ [] }) c.in_ok-fact.ensures
    ∙ ap (λ g. gathered_onto g (put_at c.args.id.now c.args.key.now c.args.value (c.args.path.now ++ Key c.args.response.now ∷ []))) c.self.view_is)

pub returns-clause-place : goal.returns-clause-place
returns-clause-place c =
    let facts = c.self.inside.facts in
    c.len-at.ensures ∙ facts.ok.0 ∙ sym (length-map facts.items put_of) ∙ ap (λ (g : Gathering). length g.puts) c.self.view_is
