-- Noting places one after the other.
use Rattle.std.proofs.Common.{◌≡◌, ℕ, Bool, true, false, option_map, ◌+◌, ◌<◌, List, [], ◌∷◌, ◌++◌, Option, Some, None, is_some, true≢false, refl, ap, arith, min, ◌∙◌, append_assoc, add-one, sym, map, drop, length, get_or}
use Rattle.std.proofs.Math.Seq.{drop-cons}
use Rattle.gql_graph.specs.Leasts.{lower, least_from}
use Rattle.gql_graph.specs.Rules.{least, each, wrong, first_broken, first_from}

pub noted-append : (before : Option ℕ) (a b : List ℕ) → least_from before (a ++ b) ≡ least_from (least_from before a) b
noted-append before [] b = refl
noted-append before (n ∷ a) b = noted-append (Some (lower before n)) a b

noted_first : (m : ℕ) (ns : List ℕ) → least_from (Some m) ns ≡ least (m ∷ ns)
noted_first m [] = refl
noted_first m (n ∷ ns) = noted_first (min m n) ns ∙ joined (least ns) refl where
  joined : (o : Option ℕ) → least ns ≡ o → least (min m n ∷ ns) ≡ least (m ∷ n ∷ ns)
  joined None e = rw e refl
  joined (Some k) e = rw e (ap Some (omega arith))

-- the least of all, where none was noted before
pub noted_all : (ns : List ℕ) → least_from None ns ≡ least ns
noted_all [] = refl
noted_all (n ∷ ns) = noted_first n ns

pub each-append : {A B : Type 0} (f : A → List B) → (a b : List A) → each f (a ++ b) ≡ each f a ++ each f b
each-append f [] b = refl
each-append f (x ∷ a) b = ap (λ (l : List _). f x ++ l) (each-append f a b) ∙ sym (append_assoc (f x) (each f a) (each f b))

pub ruleset noting = (noted-append)

pub ruleset each_noting = (noted-append, each-append)

-- one more element of a list whose parts are noted in turn
pub each_next : {X A : Type 0} (view : X → A) (f : A → List ℕ) (xs : List X) (i : ℕ) (x : X) (o p whole : Option ℕ) → i < length xs → x ≡ get_or xs i x
    → p ≡ least_from o (f (view x)) → least_from o (each f (map view (drop i xs))) ≡ whole → least_from p (each f (map view (drop (i + 1) xs))) ≡ whole
each_next {X = X} view f xs i x o p whole h is e w =
    let rest : List _ = map view (drop (i + 1) xs) in
    let same : drop i xs ≡ get_or xs i x ∷ drop (i + 1) xs = rw add-one (drop-cons xs i x h) in
    ap (λ (q : Option ℕ). least_from q (each f rest)) e ∙ sym (noted-append o (f (view x)) (each f rest))
    ∙ ap (λ (y : X). least_from o (f (view y) ++ each f rest)) is ∙ sym (ap (λ (ys : List X). least_from o (each f (map view ys))) same) ∙ w

pub each_next_plain : {X : Type 0} (f : X → List ℕ) (xs : List X) (i : ℕ) (x : X) (o p whole : Option ℕ) → i < length xs → x ≡ get_or xs i x
    → p ≡ least_from o (f x) → least_from o (each f (drop i xs)) ≡ whole → least_from p (each f (drop (i + 1) xs)) ≡ whole
each_next_plain {X = X} f xs i x o p whole h is e w =
    let same : drop i xs ≡ get_or xs i x ∷ drop (i + 1) xs = rw add-one (drop-cons xs i x h) in
    ap (λ (q : Option ℕ). least_from q (each f (drop (i + 1) xs))) e ∙ sym (noted-append o (f x) (each f (drop (i + 1) xs)))
    ∙ ap (λ (y : X). least_from o (f y ++ each f (drop (i + 1) xs))) is ∙ sym (ap (λ (ys : List X). least_from o (each f ys)) same) ∙ w

-- what is not after a noted place changes nothing
pub kept_least : (o : Option ℕ) (b : Bool) (at : ℕ) → least_from o (at ∷ []) ≡ o → o ≡ least_from o (wrong b at)
kept_least o true at e = sym e
kept_least o false at e = refl

no_least : (n : ℕ) (ns : List ℕ) → least_from None (n ∷ ns) ≡ None → ⊥
no_least n ns e = absurd_some (least ns) (noted_all (n ∷ ns)) e where
  absurd_some : (o : Option ℕ) → least_from None (n ∷ ns) ≡ least (n ∷ ns) → least_from None (n ∷ ns) ≡ None → ⊥
  absurd_some o f g = let h : least (n ∷ ns) ≡ None = sym f ∙ g in cc

-- what is noted where none was noted before
noted_is : (o p q : Option ℕ) (ns : List ℕ) → o ≡ None → p ≡ least_from o ns → p ≡ q → least_from None ns ≡ q
noted_is o p q ns e f g = sym (ap (λ (x : Option ℕ). least_from x ns) e) ∙ sym f ∙ g

holds_first : {R : Type 0} (r : R) (ns : List ℕ) (rs : List (R × List ℕ)) → least_from None ns ≡ None → first_broken ((r, ns) ∷ rs) ≡ first_broken rs
holds_first r [] rs e = refl
holds_first r (n ∷ ns) rs e = absurd (no_least n ns e)

-- where nothing is noted, the first rule holds, and the others decide
pub holds : {R : Type 0} (r : R) (ns : List ℕ) (rs : List (R × List ℕ)) (o p : Option ℕ) → o ≡ None → p ≡ least_from o ns → p ≡ None → first_broken ((r, ns) ∷ rs) ≡ first_broken rs
holds r ns rs o p e f g = holds_first r ns rs (noted_is o p None ns e f g)

broken_first : {R : Type 0} (r : R) (ns : List ℕ) (rs : List (R × List ℕ)) (at : ℕ) → least_from None ns ≡ Some at → first_broken ((r, ns) ∷ rs) ≡ Some (r, at)
broken_first r [] rs at e = cc
broken_first {R = R} r (n ∷ ns) rs at e = ap (λ (o : Option ℕ). option_map (λ (k : ℕ). (let pair : R × ℕ = (r, k) in pair)) o) (sym (noted_all (n ∷ ns)) ∙ e)

-- where a place is noted, the first rule does not hold there
pub breaks : {R : Type 0} (r : R) (ns : List ℕ) (rs : List (R × List ℕ)) (o p : Option ℕ) (at : ℕ) → o ≡ None → p ≡ least_from o ns → p ≡ Some at → first_broken ((r, ns) ∷ rs) ≡ Some (r, at)
breaks r ns rs o p at e f g = broken_first r ns rs at (noted_is o p (Some at) ns e f g)

-- some rules, of which one does not hold, and more
pub first_before : {R : Type 0} (some more : List (R × List ℕ)) (found : R × ℕ) → first_broken some ≡ Some found → first_broken (some ++ more) ≡ Some found
first_before [] more found e = cc
first_before ((r, []) ∷ some) more found e = first_before some more found e
first_before ((r, n ∷ ns) ∷ some) more found e = e

-- some rules that hold, and more
pub first_after : {R : Type 0} (some more : List (R × List ℕ)) → first_broken some ≡ None → first_broken (some ++ more) ≡ first_broken more
first_after [] more e = refl
first_after ((r, []) ∷ some) more e = first_after some more e
first_after ((r, n ∷ ns) ∷ some) more e = cc

-- ---- rules that are settled one after the other

-- one was found before
pub found_before : {R : Type 0} (o : Option (R × ℕ)) (rs ss : List (R × List ℕ)) → is_some o ≡ true → first_from o rs ≡ first_from o ss
found_before None rs ss e = absurd (true≢false (sym e))
found_before (Some found) rs ss e = refl

-- none was found before, and this rule holds
pub found_none : {R : Type 0} (r : R) (ns : List ℕ) (rs : List (R × List ℕ)) (o : Option (R × ℕ)) → is_some o ≡ false → least_from None ns ≡ None → first_from o rs ≡ first_from o ((r, ns) ∷ rs)
found_none r ns rs None e f = sym (holds_first r ns rs f)
found_none r ns rs (Some found) e f = absurd (true≢false e)

-- none was found before, and this rule does not hold
pub found_here : {R : Type 0} (r : R) (ns : List ℕ) (rs : List (R × List ℕ)) (o : Option (R × ℕ)) (at : ℕ) → is_some o ≡ false → least_from None ns ≡ Some at → first_from (Some (r, at)) rs ≡ first_from o ((r, ns) ∷ rs)
found_here r ns rs None at e f = sym (broken_first r ns rs at f)
found_here r ns rs (Some found) at e f = absurd (true≢false e)

-- what is found at the end
pub found_last : {R : Type 0} (o : Option (R × ℕ)) → o ≡ first_from o []
found_last None = refl
found_last (Some found) = refl

-- what is noted where none was noted before
pub noted_alone : (ns : List ℕ) (o p : Option ℕ) → o ≡ None → p ≡ least_from o ns → p ≡ least_from None ns
noted_alone ns o p e f = f ∙ ap (λ (x : Option ℕ). least_from x ns) e
