-- The operation stands ready.
use Rattle.std.proofs.Common.{ap, sym, ◌∙◌}
use Rattle.std.specs.Prelude.{is_some, option_map}
use Rattle.plan_expand.specs.OperationsView.{find_operation, operation_view}
use Rattle.plan_expand.proofs.Answering.{found_none, operation_answered, operation_has}
use Rattle.plan_expand.proofs.expander.Expander.expand_operation.Goals as goal

pub returns : goal.returns
returns c =
    operation_answered c.args.self.now c.requires.ready c.args.name.now (operation_view c.in-Some.ready.now)
    (sym (ap (option_map (λ o. operation_view o.now)) c.in-Some.is) ∙ c.find.ensures ∙ ap (find_operation c.args.self.now.operations) c.as_str.ensures) _ c.expand_ready.ensures

pub unreachable-requires : goal.unreachable-requires
unreachable-requires c =
    found_none (λ o. operation_view o.now) c.find.result _ (ap is_some (c.find.ensures ∙ ap (find_operation c.args.self.now.operations) c.as_str.ensures) ∙ operation_has c.args.self.now c.requires.ready c.args.name.now) c.requires.there c.in-None.is
