-- Of several arguments of one name the first counts.
use Rattle.std.proofs.Common.{◌≡◌, [], IfOk, ap, subst, ◌∙◌}
use Rattle.store_read.proofs.ScopeSteps.{scope_put}
use Rattle.store_read.proofs.spread.SpreadAt.scope.Goals as goal
use Rattle.store_read.specs.Members.{put_all}

pub returns : goal.returns
returns c =
    subst (λ ms. IfOk c.first_of_each.result (λ scope. scope ≡ ms))
    (ap (λ ps. put_all ps []) c.in_ok-values_of.ensures ∙ scope_put c.args.self.now.body.env.now.values c.args.self.now.arguments.now)
    c.first_of_each.ensures
