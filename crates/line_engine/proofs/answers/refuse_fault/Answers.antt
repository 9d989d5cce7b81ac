use Rattle.std.proofs.Common.{sym, ap, subst}
use Rattle.line_engine.proofs.WorkLaws.{always, refuses}
use Rattle.line_engine.proofs.answers.refuse_fault.Goals as goal
use Rattle.line_engine.specs.Answered.{IsOfNoSweep}
use Rattle.relay_machine.specs.Effects.{sweeps}

pub returns-in-NotJson-clause-refused : goal.returns-in-NotJson-clause-refused
returns-in-NotJson-clause-refused c = refuses c.refuse.result _ c.refuse.ensures

pub returns-in-EventShape-clause-refused : goal.returns-in-EventShape-clause-refused
returns-in-EventShape-clause-refused c = refuses c.refuse-in-EventShape.result _ c.refuse-in-EventShape.ensures

pub returns-in-UpdateShape-clause-refused : goal.returns-in-UpdateShape-clause-refused
returns-in-UpdateShape-clause-refused c = refuses c.refuse-in-UpdateShape.result _ c.refuse-in-UpdateShape.ensures

pub returns-in-LineTooLong-clause-refused : goal.returns-in-LineTooLong-clause-refused
returns-in-LineTooLong-clause-refused c = refuses c.refuse-in-LineTooLong.result _ c.refuse-in-LineTooLong.ensures

pub returns-in-NotJson-clause-quiet : goal.returns-in-NotJson-clause-quiet
returns-in-NotJson-clause-quiet c = always c.refuse.result (λ lines. IsOfNoSweep c.args.fault) (λ lines. subst IsOfNoSweep (sym c.in-NotJson.is) (λ line is. ap sweeps is))

pub returns-in-EventShape-clause-quiet : goal.returns-in-EventShape-clause-quiet
returns-in-EventShape-clause-quiet c = always c.refuse-in-EventShape.result (λ lines. IsOfNoSweep c.args.fault) (λ lines. subst IsOfNoSweep (sym c.in-EventShape.is) (λ line is. ap sweeps is))

pub returns-in-UpdateShape-clause-quiet : goal.returns-in-UpdateShape-clause-quiet
returns-in-UpdateShape-clause-quiet c = always c.refuse-in-UpdateShape.result (λ lines. IsOfNoSweep c.args.fault) (λ lines. subst IsOfNoSweep (sym c.in-UpdateShape.is) (λ line is. ap sweeps is))

pub returns-in-LineTooLong-clause-quiet : goal.returns-in-LineTooLong-clause-quiet
returns-in-LineTooLong-clause-quiet c = always c.refuse-in-LineTooLong.result (λ lines. IsOfNoSweep c.args.fault) (λ lines. subst IsOfNoSweep (sym c.in-LineTooLong.is) (λ line is. ap sweeps is))
