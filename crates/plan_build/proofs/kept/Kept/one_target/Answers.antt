-- On the types that one type may be, and on a list.
use Rattle.std.proofs.Common.{◌≡◌, ap, sym, subst, ◌∙◌}
use Rattle.std.specs.Prelude.{IfOk, option_map}
use Rattle.plan_build.specs.AroundView.{IsOfComposite, types_of}
use Rattle.plan_build.specs.Classes.{one_target}
use Rattle.plan_build.specs.ClassView.{target_view}
use Rattle.plan_build.specs.declared.around.Around.{Around}
use Rattle.plan_build.proofs.kept.Kept.one_target.Goals as goal

pub target-requires : goal.target-requires
target-requires c = record {
  right = c.requires.right;
  composite = subst (IsOfComposite c.args.schema.now) c.in-Of.is c.requires.composite;
  field = c.requires.field;
}

pub returns-in-Of-clause-target : goal.returns-in-Of-clause-target
returns-in-Of-clause-target c =
    subst (λ (a : Around). IfOk c.target.result (λ t. option_map target_view t ≡ one_target c.args.schema.now c.args.name.now (types_of c.args.schema.now a))) (sym c.in-Of.is) c.target.ensures.target

pub returns-in-Listed-clause-target : goal.returns-in-Listed-clause-target
returns-in-Listed-clause-target c =
    c.one_target.ensures ∙ ap (λ (a : Around). one_target c.args.schema.now c.args.name.now (types_of c.args.schema.now a)) (sym c.in-Listed.is)
