use Rattle.std.proofs.Common.{◌≡◌, ◌∷◌, [], ◌++◌, true, sym, ap, subst, ◌∙◌}
use Rattle.store_watch.proofs.Held.{has_append, has_first, or_left, or_right}
use Rattle.store_watch.proofs.Lookups.{none_some, some_is}
use Rattle.store_watch.specs.Numbers.{has}
use Rattle.store_watch.proofs.due.put_place.Goals as goal

pub returns-in_ok-push-in-Some-clause-put : goal.returns-in_ok-push-in-Some-clause-put
returns-in_ok-push-in-Some-clause-put c = λ place lt e.
    let xs = c.args.places.now.items in
    let p = c.in-Some.place in
    subst (λ ys. has ys place ≡ true) (sym c.in_ok-push-in-Some.ensures.items)
    (subst (λ q. has (xs ++ p ∷ []) q ≡ true) (some_is p place (c.in-Some.ensures place lt e)) (has_append xs (p ∷ []) p ∙ or_right (has xs p) (has (p ∷ []) p) (has_first p [])))

pub returns-in_ok-push-in-Some-clause-keeps : goal.returns-in_ok-push-in-Some-clause-keeps
returns-in_ok-push-in-Some-clause-keeps c = λ place h.
    let xs = c.args.places.now.items in
    let p = c.in-Some.place in
    subst (λ ys. has ys place ≡ true) (sym c.in_ok-push-in-Some.ensures.items) (has_append xs (p ∷ []) place ∙ or_left (has xs place) (has (p ∷ []) place) h)

pub returns-in-None-clause-put : goal.returns-in-None-clause-put
returns-in-None-clause-put c = λ place lt e. none_some place (c.in-None.ensures place lt e)
