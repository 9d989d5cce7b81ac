-- Of the types that one type may be, and of a list.
use Rattle.std.proofs.Common.{◌≡◌, sym, subst, ◌∙◌}
use Rattle.std.specs.Prelude.{IfOk}
use Rattle.plan_ir.specs.schema_tables.Types.{possible}
use Rattle.plan_build.specs.AroundView.{IsOfComposite, types_of}
use Rattle.plan_build.specs.Steps.{are_within}
use Rattle.plan_build.specs.declared.around.Around.{Around}
use Rattle.plan_build.proofs.kept.Kept.are_within.Goals as goal

pub within-requires : goal.within-requires
within-requires c = record {
  right = c.requires.right;
  composite = subst (IsOfComposite c.args.schema.now) c.in-Of.is c.requires.composite;
  condition = c.requires.condition;
}

pub returns-in-Of-clause-within : goal.returns-in-Of-clause-within
returns-in-Of-clause-within c =
    subst (λ (a : Around). IfOk c.within.result (λ b. b ≡ are_within (possible c.args.schema.now c.args.on.now) (types_of c.args.schema.now a))) (sym c.in-Of.is) c.within.ensures.within

pub returns-in-Listed-clause-within : goal.returns-in-Listed-clause-within
returns-in-Listed-clause-within c =
    c.are_within.ensures ∙ (λ i. are_within (c.possible.ensures i) (types_of c.args.schema.now (sym c.in-Listed.is i)))
