-- Texts of which none stands twice, and what does not depend on the order of texts.
use Rattle.std.proofs.Common.{◌≡◌, Bool, true, false, true≢false, not, ◌&&◌, ◌||◌, bytes_eq, List, [], ◌∷◌, refl, sym, ap, ◌∙◌}
use Rattle.std.proofs.lemmas.Bool.{or_parts}
use Rattle.std.specs.List.{AllByRecursion, list_all}
use Rattle.plan_ir.proofs.gql_plain_laws.Booleans.{both_ways}
use Rattle.plan_ir.specs.gql_plain.Order.{has_text}
use Rattle.plan_order.proofs.Shuffles.{Differ, DoDiffer, Shuffle, nothing, next, turned, chained, differ-back, differ-shuffled, shuffle-back}
use Rattle.plan_order.specs.HasOrder.{distinct}
use Rattle.plan_order.specs.Walk.{is_none}
use Rattle.plan_ir.specs.store_record.Keys.{Text}

-- ---- truth values

pub both : (a b : Bool) → (a && b) ≡ true → (a ≡ true) × (b ≡ true)
both true b e = (refl, e)
both false b e = absurd (true≢false (sym e))

unless : (b : Bool) → not b ≡ true → b ≡ false
unless true e = absurd (true≢false (sym e))
unless false e = refl

and_turn : (a b c : Bool) → (a && (b && c)) ≡ (b && (a && c))
and_turn true true c = refl
and_turn true false c = refl
and_turn false true c = refl
and_turn false false c = refl

-- ---- texts

none_has : (text : Text) (texts : List Text) → AllByRecursion (Differ text) texts → has_text texts text ≡ false
none_has text [] all = refl
none_has text (one ∷ texts) all = λ i. differ-back text one all.0 i || none_has text texts all.1 i

has_none : (text : Text) (texts : List Text) → has_text texts text ≡ false → AllByRecursion (Differ text) texts
has_none text [] e = tt
has_none text (one ∷ texts) e =
    let parts = or_parts (bytes_eq one text) (has_text texts text) e in (differ-back one text parts.0, has_none text texts parts.1)

pub differ_so : (texts : List Text) → distinct texts ≡ true → DoDiffer texts
differ_so [] e = tt
differ_so (text ∷ texts) e =
    let parts = both (not (has_text texts text)) (distinct texts) e in
    (has_none text texts (unless (has_text texts text) parts.0), differ_so texts parts.1)

pub distinct_so : (texts : List Text) → DoDiffer texts → distinct texts ≡ true
distinct_so [] all = refl
distinct_so (text ∷ texts) all = λ i. not (none_has text texts all.0 i) && distinct_so texts all.1 i

-- ---- in another order

pub distinct_shuffled : (xs ys : List Text) → Shuffle xs ys → distinct xs ≡ distinct ys
distinct_shuffled xs ys s =
    both_ways (distinct xs) (distinct ys)
    (λ e. distinct_so ys (differ-shuffled s (differ_so xs e)))
    (λ e. distinct_so xs (differ-shuffled (shuffle-back s) (differ_so ys e)))

pub none_shuffled : {xs ys : List Text} → Shuffle xs ys → is_none xs ≡ is_none ys
none_shuffled nothing = refl
none_shuffled (next s) = refl
none_shuffled turned = refl
none_shuffled (chained s t) = none_shuffled s ∙ none_shuffled t

pub list_all_shuffled : (p : Text → Bool) {xs ys : List Text} → Shuffle xs ys → list_all p xs ≡ list_all p ys
list_all_shuffled p nothing = refl
list_all_shuffled p (next {x = x} s) = ap (λ b. p x && b) (list_all_shuffled p s)
list_all_shuffled p (turned {x = x} {y = y} {xs = xs}) = and_turn (p x) (p y) (list_all p xs)
list_all_shuffled p (chained s t) = list_all_shuffled p s ∙ list_all_shuffled p t
