-- A spread that may not be entered, one that is entered, and one of no fragment.
use Rattle.std.proofs.Common.{ap, sym, ◌∙◌, arith}
use Rattle.std.specs.Prelude.{option_map}
use Rattle.plan_expand.specs.ProgressView.{all_steps, whole_total}
use Rattle.plan_expand.specs.ReadyView.{find_in, ready_of}
use Rattle.plan_expand.specs.SizesView.{sizes_of}
use Rattle.plan_expand.proofs.ProgressSteps.{spread_found, spread_missing, spread_none, steps_found, steps_missing, steps_none}
use Rattle.plan_expand.proofs.measure.measure_spread.Goals as goal

pub returns-then-measure-eq0-clause-total : goal.returns-then-measure-eq0-clause-total
returns-then-measure-eq0-clause-total c =
    spread_none c.args.measure.spreads c.args.measure.adding.now.schema.now (find_in c.args.measure.fragments.now) (sizes_of c.args.measure.scope.now) c.args.level c.args.name.now c.args.directives.now
    (whole_total c.args.measure.adding.now.schema.now (find_in c.args.measure.fragments.now) c.args.progress.now) (omega arith)

pub returns-then-measure-eq0-clause-steps : goal.returns-then-measure-eq0-clause-steps
returns-then-measure-eq0-clause-steps c =
    steps_none c.args.measure.spreads (find_in c.args.measure.fragments.now) c.args.name.now (all_steps (find_in c.args.measure.fragments.now) c.args.progress.now.pending.items) (omega arith)

pub returns-in_ok-put_pending-in-Some-clause-total : goal.returns-in_ok-put_pending-in-Some-clause-total
returns-in_ok-put_pending-in-Some-clause-total c =
    spread_found c.args.measure.spreads c.args.measure.adding.now.schema.now (find_in c.args.measure.fragments.now) (sizes_of c.args.measure.scope.now) c.args.level c.args.name.now c.args.directives.now
    (ready_of c.in-Some.fragment.now) _ _ (omega arith) (ap (find_in c.args.measure.fragments.now) (sym c.as_str.ensures) ∙ sym c.find.ensures ∙ ap (option_map (λ f. ready_of f.now)) c.in-Some.is) c.in_ok-put_pending-in-Some.ensures.total

pub returns-in_ok-put_pending-in-Some-clause-steps : goal.returns-in_ok-put_pending-in-Some-clause-steps
returns-in_ok-put_pending-in-Some-clause-steps c =
    steps_found c.args.measure.spreads (find_in c.args.measure.fragments.now) c.args.name.now (ready_of c.in-Some.fragment.now) _ _ (omega arith)
    (ap (find_in c.args.measure.fragments.now) (sym c.as_str.ensures) ∙ sym c.find.ensures ∙ ap (option_map (λ f. ready_of f.now)) c.in-Some.is) c.in_ok-put_pending-in-Some.ensures.steps

pub returns-in-None-clause-total : goal.returns-in-None-clause-total
returns-in-None-clause-total c =
    spread_missing c.args.measure.spreads c.args.measure.adding.now.schema.now (find_in c.args.measure.fragments.now) (sizes_of c.args.measure.scope.now) c.args.level c.args.name.now c.args.directives.now
    (whole_total c.args.measure.adding.now.schema.now (find_in c.args.measure.fragments.now) c.args.progress.now) (ap (find_in c.args.measure.fragments.now) (sym c.as_str.ensures) ∙ sym c.find.ensures ∙ ap (option_map (λ f. ready_of f.now)) c.in-None.is)

pub returns-in-None-clause-steps : goal.returns-in-None-clause-steps
returns-in-None-clause-steps c =
    steps_missing c.args.measure.spreads (find_in c.args.measure.fragments.now) c.args.name.now (all_steps (find_in c.args.measure.fragments.now) c.args.progress.now.pending.items)
    (ap (find_in c.args.measure.fragments.now) (sym c.as_str.ensures) ∙ sym c.find.ensures ∙ ap (option_map (λ f. ready_of f.now)) c.in-None.is)
