-- The first element that passes a test, and its place.
use Rattle.std.proofs.Common.{◌≡◌, ℕ, zero, suc, ◌+◌, ◌<◌, ◌≤◌, Bool, true, false, cond, List, [], ◌∷◌, ◌++◌, length, map, get_or, take, Option, Some, None, option_map, refl, ap, sym, subst, ◌∙◌, length-take, arith}
use Rattle.std.proofs.lemmas.List.{length-map, map-append, take_all, take_more}
use Rattle.schema_tables.specs.Places.{first_at, first_that, first_place}

pub suc_of : (r : Option ℕ) (at : ℕ) → option_map suc r ≡ Some at → (k : ℕ) × (r ≡ Some k) × (suc k ≡ at)
suc_of None at e = cc
suc_of (Some k) at e = (k, refl, cc)

none_of : (r : Option ℕ) → option_map suc r ≡ None → r ≡ None
none_of None e = refl
none_of (Some k) e = cc

pub within : {X : Type 0} (passes : X → Bool) (xs : List X) (at : ℕ) → first_at passes xs ≡ Some at → at < length xs
within passes [] at e = cc
within passes (x ∷ xs) at e = on (λ k. within passes xs k) (passes x) e
  where
    on : ((k : ℕ) → first_at passes xs ≡ Some k → k < length xs) → (b : Bool) → cond b (Some 0) (option_map suc (first_at passes xs)) ≡ Some at → at < length (x ∷ xs)
    on rest true e =
        let here : 0 ≡ at = cc in
        omega arith
    on rest false e =
        let later = suc_of (first_at passes xs) at e in
        let low = rest later.0 later.1 in
        omega (arith, later.2)

pub finds : {X : Type 0} (passes : X → Bool) (xs : List X) (at : ℕ) (d : X) → first_at passes xs ≡ Some at → first_that passes xs ≡ Some (get_or xs at d)
finds passes [] at d e = cc
finds passes (x ∷ xs) at d e = on (λ k. finds passes xs k d) (passes x) e
  where
    on : ((k : ℕ) → first_at passes xs ≡ Some k → first_that passes xs ≡ Some (get_or xs k d))
        → (b : Bool) → cond b (Some 0) (option_map suc (first_at passes xs)) ≡ Some at
        → cond b (Some x) (first_that passes xs) ≡ Some (get_or (x ∷ xs) at d)
    on rest true e =
        let here : 0 ≡ at = cc in
        let P : ℕ → Type 0 = λ a. Some x ≡ Some (get_or (x ∷ xs) a d) in
        subst P here refl
    on rest false e =
        let later = suc_of (first_at passes xs) at e in
        let P : ℕ → Type 0 = λ a. first_that passes xs ≡ Some (get_or (x ∷ xs) a d) in
        subst P later.2 (rest later.0 later.1)

pub missing : {X : Type 0} (passes : X → Bool) (xs : List X) → first_at passes xs ≡ None → first_that passes xs ≡ None
missing passes [] e = refl
missing passes (x ∷ xs) e = on (missing passes xs) (passes x) e
  where
    on : (first_at passes xs ≡ None → first_that passes xs ≡ None) → (b : Bool) → cond b (Some 0) (option_map suc (first_at passes xs)) ≡ None
        → cond b (Some x) (first_that passes xs) ≡ None
    on rest true e = cc
    on rest false e = rest (none_of (first_at passes xs) e)

placed_suc : (r : Option ℕ) (b : Bool) (n : ℕ) → option_map suc (first_place r b n) ≡ first_place (option_map suc r) b (suc n)
placed_suc None true n = refl
placed_suc None false n = refl
placed_suc (Some k) b n = refl

-- one more element at the end counts last
pub first_at-push : {X : Type 0} (passes : X → Bool) (xs : List X) (x : X) → first_at passes (xs ++ x ∷ []) ≡ first_place (first_at passes xs) (passes x) (length xs)
first_at-push passes [] x = refl
first_at-push passes (y ∷ ys) x = on (first_at-push passes ys x) (passes y)
  where
    on : first_at passes (ys ++ x ∷ []) ≡ first_place (first_at passes ys) (passes x) (length ys) → (b : Bool)
        → cond b (Some 0) (option_map suc (first_at passes (ys ++ x ∷ []))) ≡ first_place (cond b (Some 0) (option_map suc (first_at passes ys))) (passes x) (length (y ∷ ys))
    on rest true = refl
    on rest false = ap (option_map suc) rest ∙ placed_suc (first_at passes ys) (passes x) (length ys)

pub first_at-map : {X A : Type 0} (f : X → A) (passes : A → Bool) (xs : List X) → first_at passes (map f xs) ≡ first_at (λ x. passes (f x)) xs
first_at-map f passes [] = refl
first_at-map f passes (x ∷ xs) = ap (λ (r : Option ℕ). cond (passes (f x)) (Some 0) (option_map suc r)) (first_at-map f passes xs)

-- the same, where the elements are kept in another form
pub kept_within : {X Y : Type 0} (form : X → Y) (passes : X → Bool) (xs : List X) (at : ℕ) → first_at passes xs ≡ Some at → at < length (map form xs)
kept_within form passes xs at e = let low = within passes xs at e in omega (arith, length-map xs form)

pub keeps : {X Y : Type 0} (form : X → Y) (passes : X → Bool) (xs : List X) (at : ℕ) (y : Y) → first_at passes xs ≡ Some at → y ≡ get_or (map form xs) at y
    → Some y ≡ option_map form (first_that passes xs)
keeps form passes [] at y e is = cc
keeps form passes (x ∷ xs) at y e is = on (λ k. keeps form passes xs k y) (passes x) e
  where
    on : ((k : ℕ) → first_at passes xs ≡ Some k → y ≡ get_or (map form xs) k y → Some y ≡ option_map form (first_that passes xs))
        → (b : Bool) → cond b (Some 0) (option_map suc (first_at passes xs)) ≡ Some at → Some y ≡ option_map form (cond b (Some x) (first_that passes xs))
    on rest true e =
        let here : at ≡ 0 = cc in
        let P : ℕ → Type 0 = λ a. y ≡ get_or (form x ∷ map form xs) a y in
        ap Some (subst P here is)
    on rest false e =
        let later = suc_of (first_at passes xs) at e in
        let P : ℕ → Type 0 = λ a. y ≡ get_or (form x ∷ map form xs) a y in
        rest later.0 later.1 (subst P (sym later.2) is)

-- what is found passes
pub found_passes : {X : Type 0} (passes : X → Bool) (xs : List X) (found_one : X) → first_that passes xs ≡ Some found_one → passes found_one ≡ true
found_passes passes [] found_one e = cc
found_passes passes (x ∷ xs) found_one e = on (found_passes passes xs found_one) (passes x) refl e
  where
    on : (first_that passes xs ≡ Some found_one → passes found_one ≡ true) → (b : Bool) → passes x ≡ b → cond b (Some x) (first_that passes xs) ≡ Some found_one → passes found_one ≡ true
    on rest true here e = let same : x ≡ found_one = cc in ap passes (sym same) ∙ here
    on rest false here e = rest e

-- the next element counts after those before it
pub first_at-next : {X : Type 0} (passes : X → Bool) (xs : List X) (i : ℕ) (x : X) → i < length xs → x ≡ get_or xs i x
    → first_place (first_at passes (take i xs)) (passes x) i ≡ first_at passes (take (i + 1) xs)
first_at-next passes xs i x low is =
    let size : length (take i xs) ≡ i = omega (arith, length-take i xs) in
    ap (first_place (first_at passes (take i xs)) (passes x)) (sym size) ∙ sym (first_at-push passes (take i xs) x)
    ∙ ap (first_at passes) (ap (λ y. take i xs ++ y ∷ []) is ∙ sym (take_more xs i x low))

pub first_at-all : {X : Type 0} (passes : X → Bool) (xs : List X) (i : ℕ) → length xs ≤ i → first_at passes (take i xs) ≡ first_at passes xs
first_at-all passes xs i all = ap (first_at passes) (take_all i xs all)

-- the first place is the one where no element before it passes
pub first_here : {X : Type 0} (passes : X → Bool) (xs : List X) (i : ℕ) (x : X) → first_at passes (take i xs) ≡ None → i < length xs → x ≡ get_or xs i x → passes x ≡ true
    → first_at passes xs ≡ Some i
first_here passes [] i x none low is pass = absurd (omega arith)
first_here passes (y ∷ ys) zero x none low is pass = ap (λ b. cond b (Some 0) (option_map suc (first_at passes ys))) (ap passes (sym is) ∙ pass)
first_here passes (y ∷ ys) (suc i) x none low is pass = on (λ e. first_here passes ys i x e (omega arith) is pass) (passes y) none
  where
    on : (first_at passes (take i ys) ≡ None → first_at passes ys ≡ Some i) → (b : Bool) → cond b (Some 0) (option_map suc (first_at passes (take i ys))) ≡ None
        → cond b (Some 0) (option_map suc (first_at passes ys)) ≡ Some (suc i)
    on rest true e = cc
    on rest false e = ap (option_map suc) (rest (none_of (first_at passes (take i ys)) e))

-- ---- what is kept, one after another

pub next_kept : {X Y : Type 0} (form : X → Y) (xs : List X) (i : ℕ) (x : X) (ys zs : List Y) (y : Y)
    → ys ≡ map form (take i xs) → zs ≡ ys ++ y ∷ [] → y ≡ form x → i < length xs → x ≡ get_or xs i x → zs ≡ map form (take (i + 1) xs)
next_kept form xs i x ys zs y old new made low is =
    new ∙ (λ k. old k ++ made k ∷ []) ∙ sym (map-append form (take i xs) (x ∷ [])) ∙ ap (map form) (ap (λ z. take i xs ++ z ∷ []) is ∙ sym (take_more xs i x low))

pub kept_length : {X Y : Type 0} (form : X → Y) (xs : List X) (i : ℕ) (ys : List Y) → ys ≡ map form (take i xs) → i < length xs → length ys ≡ i
kept_length form xs i ys old low =
    let size : length ys ≡ length (map form (take i xs)) = ap length old in
    omega (arith, size, length-map (take i xs) form, length-take i xs)

pub placed_next : {Y : Type 0} (passes : Y → Bool) (ys zs : List Y) (y : Y) (at : ℕ) (b : Bool) → length ys ≡ at → passes y ≡ b → zs ≡ ys ++ y ∷ []
    → first_place (first_at passes ys) b at ≡ first_at passes zs
placed_next passes ys zs y at b size pass new =
    (λ k. first_place (first_at passes ys) (sym pass k) (sym size k)) ∙ sym (first_at-push passes ys y) ∙ ap (first_at passes) (sym new)
