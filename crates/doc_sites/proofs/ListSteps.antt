-- Steps of loops over lists: what is noted of their elements, and what is collected of them.
use Rattle.std.proofs.Common.{◌≡◌, ℕ, ◌+◌, ◌<◌, ◌≤◌, List, [], ◌∷◌, ◌++◌, append_assoc, map, drop, length, get_or, add-one, Option, refl, ap, sym, ◌∙◌}
use Rattle.std.proofs.Math.Seq.{drop-cons}
use Rattle.std.proofs.lemmas.List.{append-nil, drop_all}
use Rattle.schema_types.specs.gql_graph.Leasts.{least_from}
use Rattle.schema_types.specs.gql_graph.Rules.{each}

-- all elements of a list are noted
pub noted_end : {X A : Type 0} (view : X → A) (f : A → List ℕ) (xs : List X) (i : ℕ) (o whole : Option ℕ) → length xs ≤ i
    → least_from o (each f (map view (drop i xs))) ≡ whole → o ≡ whole
noted_end {X = X} view f xs i o whole h w = sym (ap (λ (ys : List X). least_from o (each f (map view ys))) (drop_all i xs h)) ∙ w

-- one more element of a list whose parts are put one behind the other, and all of them
pub collect_next : {X A B : Type 0} (view : X → A) (f : A → List B) (xs : List X) (i : ℕ) (x : X) (old new whole : List B) → i < length xs → x ≡ get_or xs i x
    → new ≡ old ++ f (view x) → old ++ each f (map view (drop i xs)) ≡ whole → new ++ each f (map view (drop (i + 1) xs)) ≡ whole
collect_next {X = X} view f xs i x old new whole h is e w =
    let rest : List _ = each f (map view (drop (i + 1) xs)) in
    let same : drop i xs ≡ get_or xs i x ∷ drop (i + 1) xs = rw add-one (drop-cons xs i x h) in
    ap (λ (ys : List _). ys ++ rest) e ∙ append_assoc old (f (view x)) rest
    ∙ ap (λ (y : X). old ++ (f (view y) ++ rest)) is ∙ sym (ap (λ (ys : List X). old ++ each f (map view ys)) same) ∙ w

pub collect_end : {X A B : Type 0} (view : X → A) (f : A → List B) (xs : List X) (i : ℕ) (old whole : List B) → length xs ≤ i
    → old ++ each f (map view (drop i xs)) ≡ whole → old ≡ whole
collect_end {X = X} view f xs i old whole h w = sym (append-nil old) ∙ sym (ap (λ (ys : List X). old ++ each f (map view ys)) (drop_all i xs h)) ∙ w

pub each-map : {X A B : Type 0} (view : X → A) (f : A → List B) (xs : List X) → each (λ x. f (view x)) xs ≡ each f (map view xs)
each-map view f [] = refl
each-map view f (x ∷ xs) = ap (λ (ys : List _). f (view x) ++ ys) (each-map view f xs)
