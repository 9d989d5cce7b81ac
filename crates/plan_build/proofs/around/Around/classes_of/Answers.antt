-- The types of a name, and of a list.
use Rattle.std.proofs.Common.{List, ap, subst, sym, ◌∙◌}
use Rattle.plan_ir.specs.schema_tables.Types.{Text}
use Rattle.plan_build.specs.AroundView.{IsOfComposite, types_of}
use Rattle.plan_build.specs.Classes.{classes_of}
use Rattle.plan_build.specs.declared.around.Around.{Around}
use Rattle.plan_build.proofs.around.Around.classes_of.Goals as goal

pub possible-requires : goal.possible-requires
possible-requires c = subst (IsOfComposite c.args.schema.now) c.in-Of.is c.requires.composite

pub returns-in_ok-found-in-Of : goal.returns-in_ok-found-in-Of
returns-in_ok-found-in-Of c =
    c.in_ok-found-in-Of.ensures ∙ ap (λ (ts : List Text). classes_of c.args.schema.now c.args.name.now ts) c.possible.ensures
    ∙ ap (λ (a : Around). classes_of c.args.schema.now c.args.name.now (types_of c.args.schema.now a)) (sym c.in-Of.is)

pub returns-in_ok-found-in-Listed : goal.returns-in_ok-found-in-Listed
returns-in_ok-found-in-Listed c =
    c.in_ok-found-in-Listed.ensures ∙ ap (λ (a : Around). classes_of c.args.schema.now c.args.name.now (types_of c.args.schema.now a)) (sym c.in-Listed.is)
