-- One more fact of a loop over facts in order.
use Rattle.std.proofs.Common.{◌≡◌, ℕ, ◌+◌, ◌<◌, Bool, true, false, cond, List, ◌∷◌, length, map, drop, get_or, Option, Some, None, refl, sym, ap, ◌∙◌}
use Rattle.std.proofs.lemmas.List.{drop_more}
use Rattle.store_model.proofs.Seats.{puts_total}
use Rattle.store_model.specs.Says.{Put}
use Rattle.store_model.specs.Verdicts.{least, put_cmp, where_so}
use Rattle.store_report.proofs.Orders.{some_assoc}
use Rattle.store_report.specs.Gathering.{lesser_some}
use Rattle.store_report.specs.SaidFacts.{put_of, clashes, clash_from}
use Rattle.store_report.specs.declared.said.SaidFact.{SaidFact}

module _ (xs : List SaidFact) (i : ℕ) (x : SaidFact) (lt : i < length xs) (is : x ≡ get_or xs i x) where
  front : drop i xs ≡ x ∷ drop (i + 1) xs
  front = drop_more xs i x lt ∙ ap (λ y. y ∷ drop (i + 1) xs) (sym is)

  pub clash_next : (before whole : Option Put) → clashes before (put_of x) ≡ false → clash_from before (map put_of (drop i xs)) ≡ whole → clash_from (Some (put_of x)) (map put_of (drop (i + 1) xs)) ≡ whole
  clash_next before whole apart h =
      sym (ap (λ b. cond b (Some (put_of x)) (clash_from (Some (put_of x)) (map put_of (drop (i + 1) xs)))) apart)
      ∙ sym (ap (λ ys. clash_from before (map put_of ys)) front) ∙ h

  pub clash_here : (before whole : Option Put) → clashes before (put_of x) ≡ true → clash_from before (map put_of (drop i xs)) ≡ whole → Some (put_of x) ≡ whole
  clash_here before whole met h =
      sym (ap (λ b. cond b (Some (put_of x)) (clash_from (Some (put_of x)) (map put_of (drop (i + 1) xs)))) met)
      ∙ sym (ap (λ ys. clash_from before (map put_of ys)) front) ∙ h

  best_next : (test : Put → Bool) (best : Option Put) (b : Bool)
      → lesser_some put_cmp (cond b (lesser_some put_cmp best (Some (put_of x))) best) (least put_cmp (where_so test (map put_of (drop (i + 1) xs))))
      ≡ lesser_some put_cmp best (least put_cmp (cond b (put_of x ∷ where_so test (map put_of (drop (i + 1) xs))) (where_so test (map put_of (drop (i + 1) xs)))))
  best_next test best true = some_assoc put_cmp puts_total best (Some (put_of x)) (least put_cmp (where_so test (map put_of (drop (i + 1) xs))))
  best_next test best false = refl

  pub least_next : (test : Put → Bool) (best next whole : Option Put) → next ≡ cond (test (put_of x)) (lesser_some put_cmp best (Some (put_of x))) best
      → lesser_some put_cmp best (least put_cmp (where_so test (map put_of (drop i xs)))) ≡ whole
      → lesser_some put_cmp next (least put_cmp (where_so test (map put_of (drop (i + 1) xs)))) ≡ whole
  least_next test best next whole e h =
      ap (λ o. lesser_some put_cmp o (least put_cmp (where_so test (map put_of (drop (i + 1) xs))))) e
      ∙ best_next test best (test (put_of x))
      ∙ sym (ap (λ ys. lesser_some put_cmp best (least put_cmp (where_so test (map put_of ys)))) front) ∙ h

pub least_end : (best : Option Put) → lesser_some put_cmp best None ≡ best
least_end None = refl
least_end (Some p) = refl
