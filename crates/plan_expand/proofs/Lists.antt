-- What stands behind the front of a list.
use Rattle.std.proofs.Common.{◌≡◌, ℕ, zero, suc, ◌+◌, ◌<◌, ◌≤◌, Bool, true, false, cond, List, [], ◌∷◌, ◌++◌, drop, length, get_or, refl, ap, sym, ◌∙◌, append_assoc, arith}
use Rattle.std.specs.List.{filter}
use Rattle.std.proofs.Math.Seq.{drop-append_seam, drop-nil}
use Rattle.std.proofs.lemmas.List.{append-nil, drop_all, drop_more, get_or-drop, length-append}

pub drop_then : {X : Type 0} (n m : ℕ) (xs : List X) → drop m (drop n xs) ≡ drop (n + m) xs
drop_then zero m xs = let e : m ≡ 0 + m = omega arith in ap (λ (k : ℕ). drop k xs) e
drop_then (suc n) m [] = drop-nil m ∙ sym (drop-nil (suc n + m))
drop_then (suc n) m (x ∷ xs) = let e : suc (n + m) ≡ suc n + m = omega arith in drop_then n m xs ∙ ap (λ (k : ℕ). drop k (x ∷ xs)) e

-- the first element of what is left
pub first_left : {X : Type 0} (xs : List X) (n : ℕ) (d x : X) (rest : List X) → drop n xs ≡ x ∷ rest → get_or xs n d ≡ x
first_left xs n d x rest e =
    let same : n ≡ n + 0 = omega arith in
    ap (λ (m : ℕ). get_or xs m d) same ∙ sym (get_or-drop n xs 0 d) ∙ ap (λ (ys : List _). get_or ys 0 d) e

-- what is left behind it
pub rest_left : {X : Type 0} (xs : List X) (n : ℕ) (x : X) (rest : List X) → drop n xs ≡ x ∷ rest → drop (n + 1) xs ≡ rest
rest_left xs n x rest e = sym (drop_then n 1 xs) ∙ ap (λ (ys : List _). drop 1 ys) e

-- and behind the elements that follow it
pub end_left : {X : Type 0} (xs : List X) (n c : ℕ) (x : X) (ys rest : List X) → drop n xs ≡ x ∷ (ys ++ rest) → length ys ≡ c → drop (n + (1 + c)) xs ≡ rest
end_left xs n c x ys rest e h =
    let k : (n + 1) + length ys ≡ n + (1 + c) = omega (arith, h) in
    ap (λ (m : ℕ). drop m xs) (sym k) ∙ sym (drop_then (n + 1) (length ys) xs) ∙ ap (λ (zs : List _). drop (length ys) zs) (rest_left xs n x (ys ++ rest) e) ∙ drop-append_seam ys rest

-- ---- loops: what is put so far, and what is left

pub list_next : {X Y : Type 0} (f : List X → List Y) (one : X → List Y) → ((x : X) (xs : List X) → f (x ∷ xs) ≡ one x ++ f xs)
    → (xs : List X) (i : ℕ) (x : X) (old new whole : List Y) → i < length xs → x ≡ get_or xs i x → new ≡ old ++ one x
    → old ++ f (drop i xs) ≡ whole → new ++ f (drop (i + 1) xs) ≡ whole
list_next {X = X} {Y = Y} f one law xs i x old new whole h is put w =
    let rest : List Y = f (drop (i + 1) xs) in
    ap (λ (l : List Y). l ++ rest) put ∙ append_assoc old (one x) rest
    ∙ ap (λ (y : X). old ++ (one y ++ rest)) is
    ∙ sym (ap (λ (l : List Y). old ++ l) (ap f (drop_more xs i x h) ∙ law (get_or xs i x) (drop (i + 1) xs))) ∙ w

pub list_end : {X Y : Type 0} (f : List X → List Y) → f [] ≡ [] → (xs : List X) (i : ℕ) (old whole : List Y) → length xs ≤ i → old ++ f (drop i xs) ≡ whole → old ≡ whole
list_end {X = X} {Y = Y} f none xs i old whole h w = sym (append-nil old) ∙ sym (ap (λ (l : List Y). old ++ l) (ap f (drop_all i xs h) ∙ none)) ∙ w

pub filter_before : {X : Type 0} (p : X → Bool) (x : X) (xs : List X) → filter p (x ∷ xs) ≡ filter p (x ∷ []) ++ filter p xs
filter_before p x xs = on (p x) where
  on : (b : Bool) → cond b (x ∷ filter p xs) (filter p xs) ≡ cond b (x ∷ []) [] ++ filter p xs
  on true = refl
  on false = refl

-- ---- loops that count

pub number_next : {X Y : Type 0} (f : List X → List Y) (one : X → List Y) → ((x : X) (xs : List X) → f (x ∷ xs) ≡ one x ++ f xs)
    → (xs : List X) (i : ℕ) (x : X) (old new whole : ℕ) → i < length xs → x ≡ get_or xs i x → new ≡ old + length (one x)
    → old + length (f (drop i xs)) ≡ whole → new + length (f (drop (i + 1) xs)) ≡ whole
number_next {X = X} {Y = Y} f one law xs i x old new whole h is put w =
    let rest : List Y = f (drop (i + 1) xs) in
    let parts : length (f (drop i xs)) ≡ length (one (get_or xs i x)) + length rest = ap (λ (ys : List X). length (f ys)) (drop_more xs i x h) ∙ ap length (law (get_or xs i x) (drop (i + 1) xs)) ∙ length-append (one (get_or xs i x)) rest in
    let here : length (one x) ≡ length (one (get_or xs i x)) = ap (λ (y : X). length (one y)) is in
    omega arith

pub number_end : {X Y : Type 0} (f : List X → List Y) → f [] ≡ [] → (xs : List X) (i old whole : ℕ) → length xs ≤ i → old + length (f (drop i xs)) ≡ whole → old ≡ whole
number_end {X = X} {Y = Y} f none xs i old whole h w =
    let e : length (f (drop i xs)) ≡ 0 = ap length (ap f (drop_all i xs h) ∙ none) in
    omega arith

-- ---- loops that look for the first element

pub find_next : {X Y : Type 0} (f : List X → Y) (test : X → Bool) (found : X → Y) → ((x : X) (xs : List X) → f (x ∷ xs) ≡ cond (test x) (found x) (f xs))
    → (xs : List X) (i : ℕ) (x : X) → i < length xs → x ≡ get_or xs i x → test x ≡ false → f (drop i xs) ≡ f (drop (i + 1) xs)
find_next {X = X} {Y = Y} f test found law xs i x h is e =
    let rest : List X = drop (i + 1) xs in
    ap f (drop_more xs i x h) ∙ ap (λ (y : X). f (y ∷ rest)) (sym is) ∙ law x rest ∙ ap (λ (b : Bool). cond b (found x) (f rest)) e

pub find_here : {X Y : Type 0} (f : List X → Y) (test : X → Bool) (found : X → Y) → ((x : X) (xs : List X) → f (x ∷ xs) ≡ cond (test x) (found x) (f xs))
    → (xs : List X) (i : ℕ) (x : X) → i < length xs → x ≡ get_or xs i x → test x ≡ true → f (drop i xs) ≡ found x
find_here {X = X} {Y = Y} f test found law xs i x h is e =
    let rest : List X = drop (i + 1) xs in
    ap f (drop_more xs i x h) ∙ ap (λ (y : X). f (y ∷ rest)) (sym is) ∙ law x rest ∙ ap (λ (b : Bool). cond b (found x) (f rest)) e

pub find_end : {X Y : Type 0} (f : List X → Y) (none : Y) → f [] ≡ none → (xs : List X) (i : ℕ) → length xs ≤ i → f (drop i xs) ≡ none
find_end f none e xs i h = ap f (drop_all i xs h) ∙ e
