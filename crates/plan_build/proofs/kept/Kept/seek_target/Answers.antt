-- It is found, or it is not the same on all types.
use Rattle.std.proofs.Common.{List, ap, sym, ◌∙◌}
use Rattle.std.specs.Prelude.{option_map}
use Rattle.plan_ir.specs.schema_tables.Types.{Text}
use Rattle.plan_build.specs.Classes.{one_target}
use Rattle.plan_build.specs.ClassView.{target_view}
use Rattle.plan_build.proofs.kept.Kept.seek_target.Goals as goal

pub returns-in_ok-keep_target-in-Some-clause-target : goal.returns-in_ok-keep_target-in-Some-clause-target
returns-in_ok-keep_target-in-Some-clause-target c =
    sym (ap (option_map target_view) c.in-Some.is) ∙ c.one_target.ensures ∙ ap (λ (ts : List Text). one_target c.args.schema.now c.args.name.now ts) c.possible.ensures

pub returns-in_ok-keep_target-in-Some-clause-right : goal.returns-in_ok-keep_target-in-Some-clause-right
returns-in_ok-keep_target-in-Some-clause-right c =
    c.in_ok-keep_target-in-Some.ensures c.args.schema.now c.requires.right
    (sym (c.one_target.ensures ∙ ap (λ (ts : List Text). one_target c.args.schema.now c.args.name.now ts) c.possible.ensures) ∙ ap (option_map target_view) c.in-Some.is)

pub returns-in-None-clause-target : goal.returns-in-None-clause-target
returns-in-None-clause-target c =
    sym (ap (option_map target_view) c.in-None.is) ∙ c.one_target.ensures ∙ ap (λ (ts : List Text). one_target c.args.schema.now c.args.name.now ts) c.possible.ensures
