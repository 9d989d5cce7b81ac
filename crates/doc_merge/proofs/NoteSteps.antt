-- Noting one more of the places of a list.
use Rattle.std.proofs.Common.{◌≡◌, ℕ, ◌+◌, ◌<◌, Bool, true, false, cond, ◌||◌, List, ◌∷◌, ◌++◌, Option, map, drop, length, get_or, add-one, refl, ap, sym, ◌∙◌}
use Rattle.std.proofs.Math.Seq.{drop-cons}
use Rattle.plan_ir.specs.gql_ast.declared.place.FilePlace.{FilePlace}
use Rattle.doc_merge.proofs.LeastSteps.{least-append}
use Rattle.doc_merge.specs.Joined.{from_first, row_place}
use Rattle.doc_merge.specs.Paths.{Row}
use Rattle.doc_merge.specs.Places.{least_from, wrong}

pub drop_next : {A : Type 0} (xs : List A) (i : ℕ) (x : A) → i < length xs → x ≡ get_or xs i x → drop i xs ≡ x ∷ drop (i + 1) xs
drop_next {A = A} xs i x h e =
    let same : drop i xs ≡ get_or xs i x ∷ drop (i + 1) xs = rw add-one (drop-cons xs i x h) in
    same ∙ ap (λ (y : A). y ∷ drop (i + 1) xs) (sym e)

first_step : (test : Row → Bool) (b c : Bool) (w : Row) (ws : List Row) → c ≡ (b || test w)
    → map row_place (from_first test b (w ∷ ws)) ≡ wrong c (row_place w) ++ map row_place (from_first test c ws)
first_step test b c w ws e = ap (λ (d : Bool). map row_place (cond d (w ∷ from_first test true ws) (from_first test false ws))) (sym e) ∙ on c where
  on : (d : Bool) → map row_place (cond d (w ∷ from_first test true ws) (from_first test false ws)) ≡ wrong d (row_place w) ++ map row_place (from_first test d ws)
  on true = refl
  on false = refl

pub unlike_next : {X : Type 0} (view : X → Row) (test : Row → Bool) (xs : List X) (i : ℕ) (x : X) (b c : Bool) (o p whole : Option FilePlace) → i < length xs → x ≡ get_or xs i x
    → c ≡ (b || test (view x)) → p ≡ least_from o (wrong c (row_place (view x)))
    → least_from o (map row_place (from_first test b (map view (drop i xs)))) ≡ whole → least_from p (map row_place (from_first test c (map view (drop (i + 1) xs)))) ≡ whole
unlike_next {X = X} view test xs i x b c o p whole h is d e w =
    let rest : List FilePlace = map row_place (from_first test c (map view (drop (i + 1) xs))) in
    ap (λ (q : Option FilePlace). least_from q rest) e
    ∙ sym (least-append o (wrong c (row_place (view x))) rest)
    ∙ sym (ap (least_from o) (first_step test b c (view x) (map view (drop (i + 1) xs)) d))
    ∙ sym (ap (λ (ys : List X). least_from o (map row_place (from_first test b (map view ys)))) (drop_next xs i x h is)) ∙ w
