-- The closure asks of each definition whether it has an effect.
use Rattle.std.proofs.Common.{◌≡◌, List, [], ◌∷◌, Bool, true, false, map, cond, refl, ap, ◌∙◌, rules}
use Rattle.std.proofs.lemmas.Fn.{filter_same}
use Rattle.std.specs.List.{filter}
use Rattle.schema_trees.specs.LocatedView.{def_of}
use Rattle.schema_rules.specs.Rules.{has_effect}
use Rattle.schema_trees.specs.declared.located.DefAt.{DefAt}
use Rattle.schema_rules.proofs.first.keep_with_effect.Goals as goal

kept : {A B : Type 0} (view : A → B) (x : A) (b : Bool) (xs : List A) (ys : List B) → map view xs ≡ ys → map view (cond b (x ∷ xs) xs) ≡ cond b (view x ∷ ys) ys
kept {B = B} view x true xs ys e = ap (λ (l : List B). view x ∷ l) e
kept view x false xs ys e = e

map-filter : {A B : Type 0} (view : A → B) (p : B → Bool) (xs : List A) → map view (filter (λ a. p (view a)) xs) ≡ filter p (map view xs)
map-filter view p [] = refl
map-filter view p (x ∷ xs) = kept view x (p (view x)) (filter (λ a. p (view a)) xs) (filter p (map view xs)) (map-filter view p xs)

pub returns : goal.returns
returns c =
    ap (map def_of) (filter_same _ (λ (d : DefAt). has_effect (def_of d)) _ (λ x b f' k. search rules) _ _ c.retain.ensures.filtered)
    ∙ map-filter def_of has_effect c.args.definitions.now.items
