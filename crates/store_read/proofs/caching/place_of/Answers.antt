-- What was made stands last.
use Rattle.std.proofs.Common.{◌∷◌, [], ◌++◌, subst, sym, ◌∙◌}
use Rattle.store_read.proofs.CacheSteps.{type_last}
use Rattle.store_read.proofs.caching.place_of.Goals as goal
use Rattle.store_read.specs.CacheView.{IsTypeAt}

pub returns-clause-place : goal.returns-clause-place
returns-clause-place c =
    let old = c.args.types.now.items in
    let made = c.in_ok-made.made in
    let name = c.args.name.now in
    subst (λ ts. IsTypeAt ts c.len-place.result name) (sym c.in_ok-push.ensures.items)
    (subst (λ n. IsTypeAt (old ++ made ∷ []) n name) (sym (c.len-place.ensures ∙ c.args.types.now.ok.0)) (type_last old made name c.in_ok-made.ensures.named))
