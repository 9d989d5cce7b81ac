-- What is kept is right, and so is what is found anew.
use Rattle.std.proofs.Common.{ap, sym, ◌∙◌}
use Rattle.std.specs.Prelude.{option_map}
use Rattle.plan_expand.proofs.AdditionSteps.{identified_put}
use Rattle.plan_expand.proofs.additions.put_identified.Goals as goal

pub returns-in_ok-put_ids_on-in-Some : goal.returns-in_ok-put_ids_on-in-Some
returns-in_ok-put_ids_on-in-Some c =
    c.in_ok-put_ids_on-in-Some.ensures
    ∙ identified_put c.args.adding.now.schema.now c.args.of.now c.args.place c.args.nodes.now _
    (c.deref.ensures.value ∙ c.requires.right c.args.of.now c.in-Some.names.now.items (sym c.find.ensures ∙ ap (option_map (λ ids. ids.now.items)) c.in-Some.is))

pub returns-in_ok-put_ids_on-in-None : goal.returns-in_ok-put_ids_on-in-None
returns-in_ok-put_ids_on-in-None c =
    c.in_ok-put_ids_on-in-None.ensures
    ∙ identified_put c.args.adding.now.schema.now c.args.of.now c.args.place c.args.nodes.now _ (c.deref-in-None.ensures.value ∙ c.in_ok-names-in-None.ensures)
