-- What is kept at first stands for the machine's beginning.
use Rattle.std.proofs.Common.{◌≡◌, sym, subst}
use Rattle.std.proofs.lemmas.Result.{IfOk-weaker}
use Rattle.line_engine.proofs.Beginnings.{begun_stands}
use Rattle.line_engine.proofs.engine.LineEngine.new.Goals as goal
use Rattle.line_engine.specs.Kept.{Kept, begun}
use Rattle.line_engine.specs.Parts.{project_shown}
use Rattle.line_engine.specs.Stands.{StandsFor}
use Rattle.relay_machine.specs.Machine.{beginning}

pub returns-clause-stands : goal.returns-clause-stands
returns-clause-stands g c =
    IfOk-weaker c.over.result (λ (k : Kept). k ≡ begun c.args.project c.args.buffer) (λ (k : Kept). StandsFor k (project_shown c.args.project) beginning)
    (λ k is. subst (λ (x : Kept). StandsFor x (project_shown c.args.project) beginning) (sym is) (begun_stands c.args.project c.args.buffer)) c.over.ensures
