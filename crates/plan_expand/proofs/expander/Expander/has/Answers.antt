-- What is found is wanted.
use Rattle.std.proofs.Common.{ap, sym, ◌∙◌}
use Rattle.std.specs.Prelude.{is_some}
use Rattle.plan_expand.specs.Answers.{whole_in}
use Rattle.plan_expand.specs.OperationsView.{find_operation, operation_view}
use Rattle.plan_expand.specs.ReadyView.{find_in, ready_of}
use Rattle.plan_expand.proofs.Answering.{fragment_has, operation_has, some_map}
use Rattle.plan_expand.proofs.expander.Expander.has.Goals as goal

pub returns-in-Operation : goal.returns-in-Operation
returns-in-Operation c =
    c.is_some.ensures ∙ sym (some_map (λ o. operation_view o.now) c.find.result) ∙ ap is_some (c.find.ensures ∙ ap (find_operation c.args.self.now.operations) c.as_str.ensures)
    ∙ operation_has c.args.self.now c.requires c.args.name.now
    ∙ sym (ap (λ w. is_some (whole_in c.args.self.now.schema.now c.args.self.now.documents.now w c.args.name.now)) c.in-Operation.is)

pub returns-in-Fragment : goal.returns-in-Fragment
returns-in-Fragment c =
    c.is_some-in-Fragment.ensures ∙ sym (some_map (λ f. ready_of f.now) c.find-in-Fragment.result)
    ∙ ap is_some (c.find-in-Fragment.ensures ∙ ap (find_in c.args.self.now.fragments) c.as_str-in-Fragment.ensures) ∙ fragment_has c.args.self.now c.requires c.args.name.now
    ∙ sym (ap (λ w. is_some (whole_in c.args.self.now.schema.now c.args.self.now.documents.now w c.args.name.now)) c.in-Fragment.is)
