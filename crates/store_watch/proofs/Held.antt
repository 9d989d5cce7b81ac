-- Numbers in lists, and lists under ids.
use Rattle.std.proofs.Common.{◌≡◌, ℕ, zero, suc, ◌<◌, ◌≤◌, ◌+◌, Bool, true, false, true≢false, cond, ◌||◌, List, [], ◌∷◌, ◌++◌, drop, take, length, get_or, Option, Some, None, String, refl, sym, ap, subst, ◌∙◌, arith, nat_eq, nat_cmp, Equal, bytes_eq, insert}
use Rattle.std.proofs.lemmas.Bool.Decides.{Decides-eqb}
use Rattle.std.proofs.lemmas.Cmp.{ranked}
use Rattle.std.proofs.lemmas.List.{drop_more}
use Rattle.std.proofs.lemmas.Slice.Eq.{bytes_eq-Decides}
use Rattle.std.specs.BTreeMap.{BTreeMap, get_by_text}
use Rattle.std.specs.Option.{option_map_or}
use Rattle.std.specs.declared.vec.Vec.{Vec}
use Rattle.plan_ir.specs.store_record.Keys.{Text}
use Rattle.store_watch.specs.Lists.{under}
use Rattle.store_watch.specs.Numbers.{has, Table, StandsUnder, Grows}

-- ---- numbers

pub same : (x y : ℕ) → nat_eq x y ≡ true → x ≡ y
same x y e = (Decides-eqb x y).0 e

pub itself : (x : ℕ) → nat_eq x x ≡ true
itself x = (Decides-eqb x x).1 refl

pub differ : (x y : ℕ) → x < y → nat_eq x y ≡ false
differ x y h = at (nat_eq x y) refl
  where
    at : (b : Bool) → nat_eq x y ≡ b → b ≡ false
    at true e = absurd (let s = same x y e in omega (arith, h, s))
    at false e = refl

pub differ_up : (x y : ℕ) → x < y → nat_eq y x ≡ false
differ_up x y h = at (nat_eq y x) refl
  where
    at : (b : Bool) → nat_eq y x ≡ b → b ≡ false
    at true e = absurd (let s = same y x e in omega (arith, h, s))
    at false e = refl

-- ---- what a list has

pub or_left : (a b : Bool) → a ≡ true → (a || b) ≡ true
or_left true b h = refl
or_left false b h = absurd (true≢false (sym h))

pub or_right : (a b : Bool) → b ≡ true → (a || b) ≡ true
or_right true b h = refl
or_right false b h = h

pub has_first : (x : ℕ) (xs : List ℕ) → has (x ∷ xs) x ≡ true
has_first x xs = ap (λ b. b || has xs x) (itself x)

pub has_append : (xs ys : List ℕ) (n : ℕ) → has (xs ++ ys) n ≡ (has xs n || has ys n)
has_append [] ys n = refl
has_append (x ∷ xs) ys n = ap (λ b. nat_eq x n || b) (has_append xs ys n) ∙ assoc (nat_eq x n) (has xs n) (has ys n)
  where
    assoc : (a b c : Bool) → (a || (b || c)) ≡ ((a || b) || c)
    assoc true b c = refl
    assoc false b c = refl

has_at : (xs : List ℕ) (k d n : ℕ) → k < length xs → get_or xs k d ≡ n → has xs n ≡ true
has_at [] k d n h e = absurd (omega arith)
has_at (x ∷ xs) zero d n h e = subst (λ m. has (x ∷ xs) m ≡ true) e (has_first x xs)
has_at (x ∷ xs) (suc k) d n h e = or_right (nat_eq x n) (has xs n) (has_at xs k d n (omega arith) e)

-- the default of a place within does not count
pub item_is : (ns : List ℕ) (i d : ℕ) → i < length ns → get_or ns i d ≡ get_or ns i (get_or ns i d)
item_is [] i d h = absurd (omega arith)
item_is (n ∷ ns) zero d h = refl
item_is (n ∷ ns) (suc i) d h = item_is ns i d (omega arith)

-- a number that a search finds
pub has_found : (xs : List ℕ) (k n : ℕ) → k < length xs → ((d : ℕ) → nat_cmp (get_or xs k d) n ≡ Equal) → has xs n ≡ true
has_found xs k n h equal = has_at xs k 0 n h (ranked (get_or xs k 0) n Equal (sym (equal 0)))

-- an insert keeps all others
pub has_insert : (xs : List ℕ) (k x n : ℕ) → has xs n ≡ true → has (insert xs k x) n ≡ true
has_insert xs zero x n h = or_right (nat_eq x n) (has xs n) h
has_insert [] (suc k) x n h = absurd (true≢false (sym h))
has_insert (y ∷ xs) (suc k) x n h =
    elim (nat_eq y n) as (λ b. (b || has xs n) ≡ true → (b || has (insert xs k x) n) ≡ true) [ true ↦ λ _. refl | false ↦ λ later. has_insert xs k x n later ] h

-- ---- lists under ids

module _ {A : Type 0} (old new : BTreeMap (String A) (Vec ℕ A)) (id : Text) (w : Vec ℕ A)
    (put : (cs : Text) → get_by_text new cs ≡ cond (bytes_eq id cs) (Some w) (get_by_text old cs)) where
  abbrev items : Option (Vec ℕ A) → List ℕ
  items o = option_map_or (λ v. v.items) o []

  -- a list in place of one that has no more
  pub put_grows : ((n : ℕ) → has (under old id) n ≡ true → has w.items n ≡ true) → Grows (under old) (under new)
  put_grows more cs n h =
      elim (bytes_eq id cs) as (λ b. bytes_eq id cs ≡ b → get_by_text new cs ≡ cond b (Some w) (get_by_text old cs) → has (under new cs) n ≡ true) [
        | true ↦ λ e is. subst (λ o. has (items o) n ≡ true) (sym is) (more n (subst (λ k. has (under old k) n ≡ true) (sym ((bytes_eq-Decides id cs).0 e)) h))
        | false ↦ λ _ is. subst (λ o. has (items o) n ≡ true) (sym is) h
      ] refl (put cs)

-- ---- a number under ids

-- what is left, one id further
pub stands_step : (t : Table) (n : ℕ) (xs ids : List Text) (i : ℕ) (id text : Text) → xs ≡ ids → i < length xs → id ≡ get_or xs i id → text ≡ id → has (t text) n ≡ true
    → StandsUnder t n (drop (i + 1) ids) → StandsUnder t n (drop i ids)
stands_step t n xs ids i id text same h is shown here rest =
    subst (λ ys. StandsUnder t n (drop (i + 1) ys) → StandsUnder t n (drop i ys)) same
    (λ more. subst (StandsUnder t n) (sym (drop_more xs i id h ∙ ap (λ y. y ∷ drop (i + 1) xs) (sym is))) (subst (λ k. has (t k) n ≡ true) shown here, more)) rest

-- nothing is left
pub stands_end : (t : Table) (n : ℕ) (ids : List Text) (i : ℕ) → length ids ≤ i → StandsUnder t n (drop i ids)
stands_end t n [] zero h = tt
stands_end t n [] (suc i) h = tt
stands_end t n (id ∷ ids) zero h = absurd (omega arith)
stands_end t n (id ∷ ids) (suc i) h = stands_end t n ids i (omega arith)
