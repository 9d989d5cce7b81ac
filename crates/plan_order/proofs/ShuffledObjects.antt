-- An object whose fields and pointers stand in another order, over plans that read alike, reads alike.
use Rattle.std.proofs.Common.{◌≡◌, List, [], ◌∷◌, map, Option, refl, sym, ap, subst, ◌∙◌}
use Rattle.std.specs.List.{AllZip}
use Rattle.plan_ir.specs.gql_plain.Tree.{Tree}
use Rattle.plan_ir.specs.ReaderMeaning.{ReaderPart}
use Rattle.plan_order.proofs.AlikeTraces.{AreMet, met-join, met-refl, met-second, met-trans}
use Rattle.plan_order.proofs.Grouping.{fragment_of, fragments_in, keys_in, pointed_of, response_of}
use Rattle.plan_order.proofs.PutTwice.{found_turned}
use Rattle.plan_order.proofs.Shuffles.{DoDiffer, Shuffle, nothing, next, turned, chained, differ-shuffled, shuffle-back, shuffle-map, shuffle-refl}
use Rattle.plan_order.specs.Singles.{IsSameAsked, IsSameItem, IsSamePointed}
use Rattle.plan_ir.specs.store_model.Items.{Item, asked, pointed, asked_of}
use Rattle.plan_ir.specs.store_model.Walks.{Shown, Trace, join_traces, still, with_found}
use Rattle.plan_ir.specs.store_record.Keys.{Text}

-- ---- members and traces of lists

abbrev pub put_pairs : Shown → List (Text × Option Tree) → Shown
put_pairs end [] = end
put_pairs end (p ∷ ps) = with_found p.0 p.1 (put_pairs end ps)

abbrev pub join_all : List Trace → Trace
join_all [] = still
join_all (t ∷ ts) = join_traces t (join_all ts)

pub pairs_shuffled : (end : Shown) {ps qs : List (Text × Option Tree)} → Shuffle ps qs → DoDiffer (map (λ (p : Text × Option Tree). p.0) ps) → put_pairs end ps ≡ put_pairs end qs
pairs_shuffled end nothing all = refl
pairs_shuffled end (next {x = x} s) all = ap (with_found x.0 x.1) (pairs_shuffled end s all.1)
pairs_shuffled end (turned {x = x} {y = y} {xs = xs}) all = found_turned x.0 y.0 x.1 y.1 all.0.0 (put_pairs end xs)
pairs_shuffled end (chained s t) all = pairs_shuffled end s all ∙ pairs_shuffled end t (differ-shuffled (shuffle-map (λ (p : Text × Option Tree). p.0) s) all)

pub join_shuffled : {ts us : List Trace} → Shuffle ts us → AreMet (join_all ts) (join_all us)
join_shuffled nothing = met-refl still
join_shuffled (next {x = x} s) = met-join x x _ _ (met-refl x) (join_shuffled s)
join_shuffled (turned {x = x} {y = y} {xs = xs}) = met-second x y (join_all xs)
join_shuffled (chained s t) = met-trans _ _ _ (join_shuffled s) (join_shuffled t)

pub zip_map : {X Y : Type 0} (R : X → X → Type 0) (f : X → Y) → ((x y : X) → R x y → f x ≡ f y) → (xs ys : List X) → AllZip R xs ys → map f xs ≡ map f ys
zip_map R f same [] [] all = refl
zip_map R f same [] (y ∷ ys) all = absurd all
zip_map R f same (x ∷ xs) [] all = absurd all
zip_map R f same (x ∷ xs) (y ∷ ys) all = λ i. same x y all.0 i ∷ zip_map R f same xs ys all.1 i

pub zip_join : {X : Type 0} (R : X → X → Type 0) (f : X → Trace) → ((x y : X) → R x y → AreMet (f x) (f y)) → (xs ys : List X) → AllZip R xs ys → AreMet (join_all (map f xs)) (join_all (map f ys))
zip_join R f same [] [] all = met-refl still
zip_join R f same [] (y ∷ ys) all = absurd all
zip_join R f same (x ∷ xs) [] all = absurd all
zip_join R f same (x ∷ xs) (y ∷ ys) all = met-join (f x) (f y) _ _ (same x y all.0) (zip_join R f same xs ys all.1)

-- ---- items

pub asked_shuffled : {xs ys : List (Item ReaderPart)} → Shuffle xs ys → Shuffle (asked_of xs) (asked_of ys)
asked_shuffled nothing = nothing
asked_shuffled (next {x = asked a} s) = next (asked_shuffled s)
asked_shuffled (next {x = pointed p} s) = asked_shuffled s
asked_shuffled (turned {x = asked a} {y = asked b}) = turned
asked_shuffled (turned {x = asked a} {y = pointed q} {xs = xs}) = next (shuffle-refl (asked_of xs))
asked_shuffled (turned {x = pointed p} {y = asked b} {xs = xs}) = next (shuffle-refl (asked_of xs))
asked_shuffled (turned {x = pointed p} {y = pointed q} {xs = xs}) = shuffle-refl (asked_of xs)
asked_shuffled (chained s t) = chained (asked_shuffled s) (asked_shuffled t)

pub pointed_shuffled : {xs ys : List (Item ReaderPart)} → Shuffle xs ys → Shuffle (pointed_of xs) (pointed_of ys)
pointed_shuffled nothing = nothing
pointed_shuffled (next {x = asked a} s) = pointed_shuffled s
pointed_shuffled (next {x = pointed p} s) = next (pointed_shuffled s)
pointed_shuffled (turned {x = asked a} {y = asked b} {xs = xs}) = shuffle-refl (pointed_of xs)
pointed_shuffled (turned {x = asked a} {y = pointed q} {xs = xs}) = next (shuffle-refl (pointed_of xs))
pointed_shuffled (turned {x = pointed p} {y = asked b} {xs = xs}) = next (shuffle-refl (pointed_of xs))
pointed_shuffled (turned {x = pointed p} {y = pointed q}) = turned
pointed_shuffled (chained s t) = chained (pointed_shuffled s) (pointed_shuffled t)

pub asked_same : (xs ys : List (Item ReaderPart)) → AllZip IsSameItem xs ys → AllZip IsSameAsked (asked_of xs) (asked_of ys)
asked_same [] [] all = tt
asked_same [] (y ∷ ys) all = absurd all
asked_same (x ∷ xs) [] all = absurd all
asked_same (asked a ∷ xs) (asked b ∷ ys) all = (all.0, asked_same xs ys all.1)
asked_same (asked a ∷ xs) (pointed q ∷ ys) all = absurd all.0
asked_same (pointed p ∷ xs) (asked b ∷ ys) all = absurd all.0
asked_same (pointed p ∷ xs) (pointed q ∷ ys) all = asked_same xs ys all.1

pub pointed_same : (xs ys : List (Item ReaderPart)) → AllZip IsSameItem xs ys → AllZip IsSamePointed (pointed_of xs) (pointed_of ys)
pointed_same [] [] all = tt
pointed_same [] (y ∷ ys) all = absurd all
pointed_same (x ∷ xs) [] all = absurd all
pointed_same (asked a ∷ xs) (asked b ∷ ys) all = pointed_same xs ys all.1
pointed_same (asked a ∷ xs) (pointed q ∷ ys) all = absurd all.0
pointed_same (pointed p ∷ xs) (asked b ∷ ys) all = absurd all.0
pointed_same (pointed p ∷ xs) (pointed q ∷ ys) all = (all.0, pointed_same xs ys all.1)

-- the response keys and the fragments differ in every order
module _ (xs zs ys : List (Item ReaderPart)) (same : AllZip IsSameItem xs zs) (moved : Shuffle zs ys) where
  pub keys_differ : DoDiffer (keys_in ys) → DoDiffer (keys_in xs)
  keys_differ all =
      subst DoDiffer (sym (zip_map IsSameAsked response_of (λ a b s. ap (λ k. k.response) s.ask) (asked_of xs) (asked_of zs) (asked_same xs zs same)))
      (differ-shuffled (shuffle-map response_of (asked_shuffled (shuffle-back moved))) all)

  pub fragments_differ : DoDiffer (fragments_in ys) → DoDiffer (fragments_in xs)
  fragments_differ all =
      subst DoDiffer (sym (zip_map IsSamePointed fragment_of (λ p q s. s.fragment) (pointed_of xs) (pointed_of zs) (pointed_same xs zs same)))
      (differ-shuffled (shuffle-map fragment_of (pointed_shuffled (shuffle-back moved))) all)
