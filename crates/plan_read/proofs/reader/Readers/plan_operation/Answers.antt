-- The operation stands ready.
use Rattle.std.proofs.Common.{◌≡◌, Some, ap, sym, ◌∙◌}
use Rattle.std.proofs.lemmas.Result.{IfOk-weaker}
use Rattle.std.specs.Prelude.{is_some, option_map}
use Rattle.plan_ir.specs.declared.form.Form.TheVariants as form_of
use Rattle.plan_read.specs.OperationsView.{find_operation, operation_view}
use Rattle.plan_read.specs.Plans.{reader_in}
use Rattle.plan_read.specs.Preparing.{operation_steps}
use Rattle.plan_read.proofs.Answering.{found_none, operation_answered, operation_has}
use Rattle.plan_read.proofs.reader.Readers.plan_operation.Goals as goal

pub unreachable-requires : goal.unreachable-requires
unreachable-requires c =
    found_none (λ o. operation_view o.now) c.find.result _ (ap is_some (c.find.ensures ∙ ap (find_operation c.args.self.now.operations) c.as_str.ensures) ∙ operation_has c.args.self.now c.requires.ready c.args.name.now) c.requires.there c.in-None.is

pub returns : goal.returns
returns c =
    IfOk-weaker c.plan_ready.result (λ plan. plan.steps ≡ operation_steps c.args.self.now (operation_view c.in-Some.ready.now))
    (λ plan. Some plan.steps ≡ reader_in c.args.self.now.schema.now c.args.self.now.documents.now form_of.Operation c.args.name.now)
    (λ plan h. operation_answered c.args.self.now c.requires.ready c.args.name.now (operation_view c.in-Some.ready.now) plan.steps
    (sym (ap (option_map (λ o. operation_view o.now)) c.in-Some.is) ∙ c.find.ensures ∙ ap (find_operation c.args.self.now.operations) c.as_str.ensures) h)
    c.plan_ready.ensures
