use Rattle.std.proofs.Common.{sym, subst, option_map, IfOk}
use Rattle.event_script.specs.Seen.{answer_seen}
use Rattle.line_engine.proofs.engine.LineEngine.take.Goals as goal
use Rattle.line_engine.specs.Answered.{Gives}
use Rattle.line_engine.specs.Stands.{StandsFor}
use Rattle.relay_machine.specs.Machine as machine
use Rattle.relay_machine.specs.Refusals as model
use Rattle.plan_ir.specs.store_model.declared.entry.Entry as E

pub returns-in-Some : goal.returns-in-Some
returns-in-Some g c =
    subst (λ o. IfOk c.take_answer.result (λ taken. (p : machine.Project) (s : machine.State) → StandsFor c.args.self.now p s → (take : E.Entry → machine.Step)
    → Gives c.args.self.now p (machine.result_of p s c.args.n (option_map answer_seen o) c.args.commands (λ step. machine.unless s c.args.n c.args.is_full (model.too_many model.layers) step) take) take taken))
    (sym c.in-Some.is) c.take_answer.ensures
