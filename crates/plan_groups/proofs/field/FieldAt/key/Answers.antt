-- One more owner of the key that is kept.
use Rattle.std.proofs.Common.{◌≡◌, option_copied, ap, ◌∙◌}
use Rattle.std.proofs.lemmas.Result.{IfOk-weaker}
use Rattle.plan_groups.proofs.field.FieldAt.key.Goals as goal
use Rattle.plan_groups.specs.FieldView.{ask_at}
use Rattle.plan_ir.specs.store_model.Items.{key_of}

pub returns-in-Some : goal.returns-in-Some
returns-in-Some c =
    IfOk-weaker c.copy.result (λ key. key ≡ c.in-Some.key.now) (λ key. key ≡ key_of (ask_at c.args.self.now)) (λ key same. same ∙ c.requires c.in-Some.key.now (ap option_copied c.in-Some.is)) c.copy.ensures
