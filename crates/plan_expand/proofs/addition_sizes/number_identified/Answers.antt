-- What is kept is right, and so is what is counted anew.
use Rattle.std.proofs.Common.{length, ap, sym, ◌∙◌}
use Rattle.std.specs.Prelude.{option_map}
use Rattle.plan_expand.proofs.addition_sizes.number_identified.Goals as goal

pub returns-in-Some : goal.returns-in-Some
returns-in-Some c =
    c.len.ensures ∙ c.in-Some.names.now.ok.0
    ∙ ap length (c.requires.right c.args.of.now c.in-Some.names.now.items (sym c.find.ensures ∙ ap (option_map (λ ids. ids.now.items)) c.in-Some.is))
