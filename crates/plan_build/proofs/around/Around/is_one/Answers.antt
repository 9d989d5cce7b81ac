-- The types of a name, and of a list.
use Rattle.std.proofs.Common.{ap, subst, sym, ◌∙◌}
use Rattle.plan_build.specs.AroundView.{IsOfComposite, types_of}
use Rattle.plan_build.specs.Steps.{is_one}
use Rattle.plan_build.specs.declared.around.Around.{Around}
use Rattle.plan_build.proofs.around.Around.is_one.Goals as goal

pub possible-requires : goal.possible-requires
possible-requires c = subst (IsOfComposite c.args.schema.now) c.in-Of.is c.requires

pub returns-in-Of : goal.returns-in-Of
returns-in-Of c =
    c.is_one.ensures ∙ ap is_one c.possible.ensures ∙ ap (λ (a : Around). is_one (types_of c.args.schema.now a)) (sym c.in-Of.is)

pub returns-in-Listed : goal.returns-in-Listed
returns-in-Listed c = c.is_one-in-Listed.ensures ∙ ap (λ (a : Around). is_one (types_of c.args.schema.now a)) (sym c.in-Listed.is)
