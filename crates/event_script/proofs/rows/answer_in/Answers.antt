use Rattle.std.proofs.Common.{codes, option_map, sym, ap, ◌∙◌}
use Rattle.serde_json.proofs.Views.{view-lookup}
use Rattle.serde_json.specs.Data.{Data}
use Rattle.serde_json.specs.View.{view}
use Rattle.event_script.proofs.rows.answer_in.Goals as goal

pub returns-in-Some : goal.returns-in-Some
returns-in-Some c =
    ap (option_map (λ (response : Data). record { handle = c.args.handle; response = response }))
    (ap (option_map view) (sym c.in-Some.is ∙ c.remove.ensures.value) ∙ view-lookup (codes "response") c.args.members.entries)

pub returns-in-None : goal.returns-in-None
returns-in-None c =
    ap (option_map (λ (response : Data). record { handle = c.args.handle; response = response }))
    (ap (option_map view) (sym c.in-None.is ∙ c.remove.ensures.value) ∙ view-lookup (codes "response") c.args.members.entries)
