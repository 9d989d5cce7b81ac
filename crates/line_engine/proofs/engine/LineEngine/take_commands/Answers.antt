use Rattle.std.proofs.Common.{ap, sym, subst, ◌∙◌}
use Rattle.line_engine.proofs.engine.LineEngine.take_commands.Goals as goal
use Rattle.line_engine.specs.Answered.{Precedes}
use Rattle.relay_machine.specs.Machine.{entry_of, first_refused, nothing_said, unless, unless_unknown}
use Rattle.relay_machine.specs.Refusals.{layers, too_many}

pub returns-in-Some : goal.returns-in-Some
returns-in-Some g c = λ p s stands take.
    let n = c.args.n in
    let next = take (entry_of nothing_said c.args.commands) in
    subst (Precedes c.args.self.now p (unless s n c.args.is_full (too_many layers) (unless_unknown s n (first_refused p.defs c.args.commands) next)) next)
    c.in-Some.is (c.in_ok-lines.ensures p s stands next)

pub returns-in-None : goal.returns-in-None
returns-in-None g c = λ p s stands take.
    let n = c.args.n in
    let next = take (entry_of nothing_said c.args.commands) in
    subst (Precedes c.args.self.now p (unless s n c.args.is_full (too_many layers) (unless_unknown s n (first_refused p.defs c.args.commands) next)) next)
    c.in-None.is (c.in_ok-lines.ensures p s stands next)
    ∙ ap (λ said. take (entry_of said c.args.commands)) (sym c.new.ensures)
