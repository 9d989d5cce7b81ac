-- Faults for either of two reasons.
use Rattle.std.proofs.Common.{◌≡◌, Bool, true, false, ◌&&◌, ◌||◌, List, [], ◌∷◌, refl, sym, ◌∙◌}
use Rattle.std.specs.List.{filter, list_any}
use Rattle.doc_merge.proofs.Anys.{any-append, any_or, any_same, filter_any}
use Rattle.doc_merge.specs.Paths.{faulty}

pub or_and : (c d p : Bool) → ((c || d) && p) ≡ ((c && p) || (d && p))
or_and true d true = refl
or_and true true false = refl
or_and true false false = refl
or_and false d p = refl

pairs : (a b c d : Bool) → ((a || b) || (c || d)) ≡ ((a || c) || (b || d))
pairs true b c d = refl
pairs false true true d = refl
pairs false true false d = refl
pairs false false c d = refl

pub faulty_either : {A : Type 0} (c d : A → A → Bool) (p : A → Bool) (xs : List A) → list_any p (faulty (λ x y. c x y || d x y) xs) ≡ (list_any p (faulty c xs) || list_any p (faulty d xs))
faulty_either c d p [] = refl
faulty_either c d p (x ∷ xs) =
    any-append p (filter (λ y. c x y || d x y) xs) (faulty (λ u v. c u v || d u v) xs)
    ∙ (λ k. (filter_any p (λ y. c x y || d x y) xs ∙ any_same (λ y. (c x y || d x y) && p y) (λ y. (c x y && p y) || (d x y && p y)) (λ y. or_and (c x y) (d x y) (p y)) xs
    ∙ any_or (λ y. c x y && p y) (λ y. d x y && p y) xs ∙ (λ j. sym (filter_any p (c x) xs) j || sym (filter_any p (d x) xs) j)) k || faulty_either c d p xs k)
    ∙ pairs (list_any p (filter (c x) xs)) (list_any p (filter (d x) xs)) (list_any p (faulty c xs)) (list_any p (faulty d xs))
    ∙ (λ k. sym (any-append p (filter (c x) xs) (faulty c xs)) k || sym (any-append p (filter (d x) xs) (faulty d xs)) k)
