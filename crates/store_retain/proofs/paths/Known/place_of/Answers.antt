-- The paths that were made stand last.
use Rattle.std.proofs.Common.{◌∷◌, [], ◌++◌, subst, sym, ◌∙◌}
use Rattle.store_retain.proofs.PathSteps.{made_last, right_last}
use Rattle.store_retain.proofs.paths.Known.place_of.Goals as goal
use Rattle.store_retain.specs.PathView.{AreRight, IsMadeAt}
use Rattle.store_retain.specs.RoadView.{table_of}

pub returns-clause-right : goal.returns-clause-right
returns-clause-right c =
    subst (AreRight (table_of c.args.parts.now)) (sym c.in_ok-push.ensures.items) (right_last (table_of c.args.parts.now) c.args.self.now.made.items c.in_ok-paths.paths c.requires c.in_ok-paths.ensures.right)

pub returns-clause-place : goal.returns-clause-place
returns-clause-place c =
    let old = c.args.self.now.made.items in
    let made = c.in_ok-paths.paths in
    let T = c.args.object.now in
    let ks = c.args.numbers.now in
    subst (λ ps. IsMadeAt ps c.len-place.result T ks) (sym c.in_ok-push.ensures.items)
    (subst (λ n. IsMadeAt (old ++ made ∷ []) n T ks) (sym (c.len-place.ensures ∙ c.args.self.now.made.ok.0)) (made_last old made T ks (c.in_ok-paths.ensures.object, c.in_ok-paths.ensures.numbers)))
