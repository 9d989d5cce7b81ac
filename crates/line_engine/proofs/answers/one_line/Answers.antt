use Rattle.std.proofs.Common.{List, [], ◌∷◌, ◌++◌, refl, ap, ◌∙◌}
use Rattle.line_engine.proofs.StepLaws.{one_text}
use Rattle.line_engine.proofs.answers.one_line.Goals as goal
use Rattle.plan_ir.specs.schema_tables.Types.{Text}

pub returns : goal.returns
returns c =
    one_text _ c.args.text c.args.refused (c.in_ok-push.ensures.items ∙ ap (λ (ts : List Text). ts ++ c.args.text ∷ []) c.new-texts.ensures.items) refl c.requires
