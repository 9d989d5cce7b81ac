-- The least place depends only on which places there are; noting places one after the other.
use Rattle.std.proofs.Common.{◌≡◌, ℕ, Bool, true, false, true≢false, cond, not, ◌&&◌, ◌||◌, nat_eq, nat_lt, List, [], ◌∷◌, ◌++◌, Option, Some, None, refl, ap, sym, ◌∙◌, arith}
use Rattle.std.specs.List.{list_any}
use Rattle.doc_merge.proofs.Anys.{or_assoc, or_false, or_true}
use Rattle.doc_merge.specs.Places.{is_before, least_from, lower}
use Rattle.plan_ir.specs.gql_ast.declared.place.FilePlace.{FilePlace}

-- ---- the order of places

or_cases : {P : Type 0} (a b : Bool) → (a || b) ≡ true → (a ≡ true → P) → (b ≡ true → P) → P
or_cases true b e f g = f refl
or_cases false b e f g = g e

and_first : (a b : Bool) → (a && b) ≡ true → a ≡ true
and_first true b e = refl
and_first false b e = e

and_second : (a b : Bool) → (a && b) ≡ true → b ≡ true
and_second true b e = e
and_second false b e = absurd (true≢false (sym e))

by_less : (l e x : Bool) → l ≡ true → (l || (e && x)) ≡ true
by_less l e x h = ap (λ b. b || (e && x)) h

by_equal : (l e x : Bool) → e ≡ true → x ≡ true → (l || (e && x)) ≡ true
by_equal l e x h i = (λ k. l || (h k && i k)) ∙ or_true l

number_less : (a b c : ℕ) → nat_lt a b ≡ true → nat_lt b c ≡ true → nat_lt a c ≡ true
number_less a b c u v = grind (arith)

number_equal : (a b : ℕ) → nat_eq a b ≡ true → a ≡ b
number_equal a b u = grind (arith)

number_self : (a : ℕ) → nat_eq a a ≡ true
number_self a = grind (arith)

number_not_less : (a : ℕ) → nat_lt a a ≡ false
number_not_less a = grind (arith)

number_between : (a b : ℕ) → nat_lt a b ≡ false → nat_lt b a ≡ false → a ≡ b
number_between a b u v = grind (arith)

-- two steps in one, where the parts behind follow too
two_steps : (a b c : ℕ) (x y z : Bool) → (x ≡ true → y ≡ true → z ≡ true) → (nat_lt a b || (nat_eq a b && x)) ≡ true → (nat_lt b c || (nat_eq b c && y)) ≡ true
    → (nat_lt a c || (nat_eq a c && z)) ≡ true
two_steps a b c x y z h u v =
    or_cases (nat_lt a b) (nat_eq a b && x) u
    (λ l. or_cases (nat_lt b c) (nat_eq b c && y) v
    (λ m. by_less (nat_lt a c) (nat_eq a c) z (number_less a b c l m))
    (λ m. by_less (nat_lt a c) (nat_eq a c) z (ap (λ n. nat_lt a n) (sym (number_equal b c (and_first (nat_eq b c) y m))) ∙ l)))
    (λ l. let same : a ≡ b = number_equal a b (and_first (nat_eq a b) x l) in
    or_cases (nat_lt b c) (nat_eq b c && y) v
    (λ m. by_less (nat_lt a c) (nat_eq a c) z (ap (λ n. nat_lt n c) same ∙ m))
    (λ m. by_equal (nat_lt a c) (nat_eq a c) z (ap (λ n. nat_eq n c) same ∙ and_first (nat_eq b c) y m) (h (and_second (nat_eq a b) x l) (and_second (nat_eq b c) y m))))

pub before_steps : (p q r : FilePlace) → is_before p q ≡ true → is_before q r ≡ true → is_before p r ≡ true
before_steps p q r =
    two_steps p.file q.file r.file _ _ _ (two_steps p.line q.line r.line _ _ _ (λ u v. number_less p.column q.column r.column u v))

not_or : {P : Type 0} (l e x : Bool) → (l || (e && x)) ≡ false → (l ≡ false → (e ≡ true → x ≡ false) → P) → P
not_or true e x h f = absurd (true≢false h)
not_or false true x h f = f refl (λ u. h)
not_or false false x h f = f refl (λ u. absurd (true≢false (sym u)))

pub before_self : (p : FilePlace) → is_before p p ≡ false
before_self p = λ k. number_not_less p.file k || (number_self p.file k && (number_not_less p.line k || (number_self p.line k && number_not_less p.column k)))

-- one of two places is before the other, or they are one
pub one_place : (p q : FilePlace) → is_before p q ≡ false → is_before q p ≡ false → p ≡ q
one_place p q u v =
    not_or (nat_lt p.file q.file) (nat_eq p.file q.file) _ u (λ f1 f2. not_or (nat_lt q.file p.file) (nat_eq q.file p.file) _ v (λ g1 g2.
    let file : p.file ≡ q.file = number_between p.file q.file f1 g1 in
    not_or (nat_lt p.line q.line) (nat_eq p.line q.line) _ (f2 (ap (λ n. nat_eq n q.file) file ∙ number_self q.file)) (λ l1 l2.
    not_or (nat_lt q.line p.line) (nat_eq q.line p.line) _ (g2 (ap (λ n. nat_eq q.file n) file ∙ number_self q.file)) (λ m1 m2.
    let line : p.line ≡ q.line = number_between p.line q.line l1 m1 in
    let column : p.column ≡ q.column = number_between p.column q.column (l2 (ap (λ n. nat_eq n q.line) line ∙ number_self q.line)) (m2 (ap (λ n. nat_eq q.line n) line ∙ number_self q.line)) in
    λ i. record { file = file i; line = line i; column = column i }))))

pub not_before : (k m n : FilePlace) → is_before k m ≡ true → is_before n m ≡ false → is_before k n ≡ true
not_before k m n u v = on (is_before m n) refl where
  on : (b : Bool) → is_before m n ≡ b → is_before k n ≡ true
  on true w = before_steps k m n u w
  on false w = ap (λ (x : FilePlace). is_before k x) (one_place n m v w) ∙ u

-- ---- the least place

abbrev at_most : Option FilePlace → FilePlace → Bool
at_most None k = false
at_most (Some m) k = not (is_before k m)

lower_at_most : (o : Option FilePlace) (n k : FilePlace) → not (is_before k (lower o n)) ≡ (at_most o k || not (is_before k n))
lower_at_most None n k = refl
lower_at_most (Some m) n k = on (is_before n m) (is_before k m) (is_before k n) refl refl refl where
  on : (b c d : Bool) → is_before n m ≡ b → is_before k m ≡ c → is_before k n ≡ d → not (is_before k (cond b n m)) ≡ (not c || not d)
  on true true true e f g = ap not g
  on true true false e f g = ap not g
  on true false true e f g = absurd (true≢false (sym (before_steps k n m g e) ∙ f))
  on true false false e f g = ap not g
  on false true true e f g = ap not f
  on false true false e f g = absurd (true≢false (sym (not_before k m n f e) ∙ g))
  on false false d e f g = ap not f

least_at_most : (ns : List FilePlace) (o : Option FilePlace) (k : FilePlace) → at_most (least_from o ns) k ≡ (at_most o k || list_any (λ n. not (is_before k n)) ns)
least_at_most [] o k = sym (or_false (at_most o k))
least_at_most (n ∷ ns) o k = least_at_most ns (Some (lower o n)) k ∙ ap (λ b. b || list_any (λ m. not (is_before k m)) ns) (lower_at_most o n k)
    ∙ or_assoc (at_most o k) (not (is_before k n)) (list_any (λ m. not (is_before k m)) ns)

not_true : (b : Bool) → not b ≡ true → b ≡ false
not_true true e = absurd (true≢false (sym e))
not_true false e = refl

same_bounds : (o q : Option FilePlace) → ((k : FilePlace) → at_most o k ≡ at_most q k) → o ≡ q
same_bounds None None h = refl
same_bounds None (Some n) h = absurd (true≢false (sym (ap not (before_self n)) ∙ sym (h n)))
same_bounds (Some m) None h = absurd (true≢false (sym (ap not (before_self m)) ∙ h m))
same_bounds (Some m) (Some n) h =
    ap Some (one_place m n (not_true (is_before m n) (sym (h m) ∙ ap not (before_self m))) (not_true (is_before n m) (h n ∙ ap not (before_self n))))

pub least_by_members : (o : Option FilePlace) (xs ys : List FilePlace) → ((p : FilePlace → Bool) → list_any p xs ≡ list_any p ys) → least_from o xs ≡ least_from o ys
least_by_members o xs ys h =
    same_bounds (least_from o xs) (least_from o ys) (λ k. least_at_most xs o k ∙ ap (λ b. at_most o k || b) (h (λ n. not (is_before k n))) ∙ sym (least_at_most ys o k))

pub least-append : (o : Option FilePlace) (a b : List FilePlace) → least_from o (a ++ b) ≡ least_from (least_from o a) b
least-append o [] b = refl
least-append o (n ∷ a) b = least-append (Some (lower o n)) a b

pub ruleset noting = (least-append)
