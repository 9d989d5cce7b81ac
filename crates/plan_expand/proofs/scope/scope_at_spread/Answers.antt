-- A local variable has the value that is given, else its default; all other variables stay.
use Rattle.plan_ir.specs.Substitution.{arguments_at_spread}
use Rattle.plan_expand.specs.LocalsView.{find_default}
use Rattle.plan_expand.specs.ScopeView.{scope_of}
use Rattle.plan_expand.proofs.Substituting.{gift_is}
use Rattle.plan_expand.proofs.scope.scope_at_spread.Goals as goal

pub returns : goal.returns
returns c = λ n. gift_is (arguments_at_spread (scope_of c.args.scope.now) c.args.directives.now) n (find_default c.args.locals.now n) _ (c.in_ok-given.ensures n)
