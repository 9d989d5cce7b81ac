-- Lists in which no two have one name, as one is put to the end, or taken out.
use Rattle.std.proofs.Common.{◌≡◌, ◌+◌, ◌≤◌, Bool, true, false, true≢false, not, cond, ◌||◌, List, [], ◌∷◌, ◌++◌, length, Some, is_some, unwrap_or, bytes_eq, refl, sym, ap, subst, ◌∙◌, arith}
use Rattle.std.proofs.lemmas.Slice.Eq.{bytes_eq-Decides}
use Rattle.std.specs.List.{AllByRecursion}
use Rattle.plan_ir.specs.schema_tables.Types.{Text}
use Rattle.relay_machine.specs.Machine.{Handle, Layer, Watch, handle_named, is_in_use, is_layer, without_handle, without_layer}
use Rattle.sound_states.specs.Named.{AreApart, handle_name, is_named, layer_name}

abbrev pub Each : {X : Type 0} → (X → Type 0) → List X → Type 0
Each P xs = AllByRecursion P xs

pub each_so : {X : Type 0} (P Q : X → Type 0) (xs : List X) → ((x : X) → P x → Q x) → Each P xs → Each Q xs
each_so P Q [] f a = tt
each_so P Q (x ∷ xs) f a = (f x a.0, each_so P Q xs f a.1)

each_any : {X : Type 0} (xs : List X) → Each (λ x. Unit {0}) xs
each_any [] = tt
each_any (x ∷ xs) = (tt, each_any xs)

pub each_push : {X : Type 0} (P : X → Type 0) (xs : List X) (x : X) → Each P xs → P x → Each P (xs ++ x ∷ [])
each_push P [] x all here = (here, tt)
each_push P (y ∷ ys) x all here = (all.0, each_push P ys x all.1 here)

one_more : {X : Type 0} (x : X) (xs : List X) → length xs ≤ length (x ∷ xs)
one_more x xs = omega arith

both_more : {X : Type 0} (x : X) (xs ys : List X) → length xs ≤ length ys → length (x ∷ xs) ≤ length (x ∷ ys)
both_more x xs ys h = omega (arith, h)

less_more : {X : Type 0} (x : X) (xs ys : List X) → length xs ≤ length ys → length xs ≤ length (x ∷ ys)
less_more x xs ys h = omega (arith, h)

pub each_nil : {X : Type 0} (P : X → Type 0) (xs : List X) → Each P xs → Each P (xs ++ [])
each_nil P [] h = tt
each_nil P (x ∷ xs) h = (h.0, each_nil P xs h.1)

pub length_push : {X : Type 0} (xs : List X) (x : X) → length (xs ++ x ∷ []) ≡ length xs + 1
length_push [] x = refl
length_push (y ∷ ys) x = let e = length_push ys x in omega (arith, e)

left_false : (a b : Bool) → (a || b) ≡ false → a ≡ false
left_false true b h = h
left_false false b h = refl

right_false : (a b : Bool) → (a || b) ≡ false → b ≡ false
right_false true b h = absurd (true≢false h)
right_false false b h = h

both_false : (a b : Bool) → a ≡ false → b ≡ false → (a || b) ≡ false
both_false true b h k = h
both_false false b h k = k

pub turned : (x y : Text) → bytes_eq x y ≡ false → bytes_eq y x ≡ false
turned x y h = at (bytes_eq y x) refl
  where
    at : (b : Bool) → bytes_eq y x ≡ b → b ≡ false
    at true e = absurd (true≢false (sym ((bytes_eq-Decides x y).1 (sym ((bytes_eq-Decides y x).0 e))) ∙ h))
    at false e = refl

module _ {X : Type 0} (name : X → Text) where
  named_push : (xs : List X) (x : X) (n : Text) → is_named name xs n ≡ false → bytes_eq (name x) n ≡ false → is_named name (xs ++ x ∷ []) n ≡ false
  named_push [] x n none other = both_false (bytes_eq (name x) n) false other refl
  named_push (y ∷ ys) x n none other =
      both_false (bytes_eq (name y) n) (is_named name (ys ++ x ∷ []) n) (left_false (bytes_eq (name y) n) (is_named name ys n) none)
      (named_push ys x n (right_false (bytes_eq (name y) n) (is_named name ys n) none) other)

  pub apart_push : (xs : List X) (x : X) → AreApart name xs → is_named name xs (name x) ≡ false → AreApart name (xs ++ x ∷ [])
  apart_push [] x apart none = (refl, tt)
  apart_push (y ∷ ys) x apart none = (
    named_push ys x (name y) apart.0 (turned (name y) (name x) (left_false (bytes_eq (name y) (name x)) (is_named name ys (name x)) none)),
    apart_push ys x apart.1 (right_false (bytes_eq (name y) (name x)) (is_named name ys (name x)) none),
  )

  -- ---- the first of a name is taken out

  module _ (n : Text) (left : List X → List X) (nothing : left [] ≡ []) (more : (x : X) (xs : List X) → left (x ∷ xs) ≡ cond (bytes_eq (name x) n) xs (x ∷ left xs)) where
    pub each_left : (P : X → Type 0) (xs : List X) → Each P xs → Each P (left xs)
    each_left P [] all = subst (Each P) (sym nothing) tt
    each_left P (x ∷ xs) all =
        subst (Each P) (sym (more x xs)) (elim (bytes_eq (name x) n) as (λ b. Each P (cond b xs (x ∷ left xs))) [ true ↦ all.1 | false ↦ (all.0, each_left P xs all.1) ])

    named_left : (xs : List X) (m : Text) → is_named name xs m ≡ false → is_named name (left xs) m ≡ false
    named_left [] m none = ap (λ ys. is_named name ys m) nothing
    named_left (x ∷ xs) m none =
        subst (λ ys. is_named name ys m ≡ false) (sym (more x xs))
        (elim (bytes_eq (name x) n) as (λ b. is_named name (cond b xs (x ∷ left xs)) m ≡ false) [
          | true ↦ right_false (bytes_eq (name x) m) (is_named name xs m) none
          | false ↦ both_false (bytes_eq (name x) m) (is_named name (left xs) m) (left_false (bytes_eq (name x) m) (is_named name xs m) none) (named_left xs m (right_false (bytes_eq (name x) m) (is_named name xs m) none))
        ])

    pub apart_left : (xs : List X) → AreApart name xs → AreApart name (left xs)
    apart_left [] apart = subst (AreApart name) (sym nothing) tt
    apart_left (x ∷ xs) apart =
        subst (AreApart name) (sym (more x xs))
        (elim (bytes_eq (name x) n) as (λ b. AreApart name (cond b xs (x ∷ left xs))) [ true ↦ apart.1 | false ↦ (named_left xs (name x) apart.0, apart_left xs apart.1) ])

    pub length_left : (xs : List X) → length (left xs) ≤ length xs
    length_left [] = subst (λ ys. length ys ≤ 0) (sym nothing) (omega arith)
    length_left (x ∷ xs) =
        let rest : length (left xs) ≤ length xs = length_left xs in
        subst (λ ys. length ys ≤ length (x ∷ xs)) (sym (more x xs))
        (elim (bytes_eq (name x) n) as (λ b. length (cond b xs (x ∷ left xs)) ≤ length (x ∷ xs)) [ true ↦ one_more x xs | false ↦ both_more x (left xs) xs rest ])

-- ---- layers

pub layer_is : (ls : List Layer) (n : Text) → is_layer ls n ≡ is_named layer_name ls n
layer_is [] n = refl
layer_is (l ∷ ls) n = ap (λ b. bytes_eq l.name n || b) (layer_is ls n)

module _ (n : Text) where
  pub layers_each : (P : Layer → Type 0) (ls : List Layer) → Each P ls → Each P (without_layer n ls)
  layers_each P [] all = tt
  layers_each P (l ∷ ls) all = elim (bytes_eq l.name n) as (λ b. Each P (cond (not b) (l ∷ without_layer n ls) (without_layer n ls))) [ true ↦ layers_each P ls all.1 | false ↦ (all.0, layers_each P ls all.1) ]

  layers_named : (ls : List Layer) (m : Text) → is_named layer_name ls m ≡ false → is_named layer_name (without_layer n ls) m ≡ false
  layers_named [] m none = refl
  layers_named (l ∷ ls) m none =
      elim (bytes_eq l.name n) as (λ b. is_named layer_name (cond (not b) (l ∷ without_layer n ls) (without_layer n ls)) m ≡ false) [
        | true ↦ layers_named ls m (right_false (bytes_eq l.name m) (is_named layer_name ls m) none)
        | false ↦ both_false (bytes_eq l.name m) (is_named layer_name (without_layer n ls) m) (left_false (bytes_eq l.name m) (is_named layer_name ls m) none)
            (layers_named ls m (right_false (bytes_eq l.name m) (is_named layer_name ls m) none))
      ]

  pub layers_left_apart : (ls : List Layer) → AreApart layer_name ls → AreApart layer_name (without_layer n ls)
  layers_left_apart [] apart = tt
  layers_left_apart (l ∷ ls) apart =
      elim (bytes_eq l.name n) as (λ b. AreApart layer_name (cond (not b) (l ∷ without_layer n ls) (without_layer n ls))) [
        | true ↦ layers_left_apart ls apart.1
        | false ↦ (layers_named ls l.name apart.0, layers_left_apart ls apart.1)
      ]

  pub layers_length : (ls : List Layer) → length (without_layer n ls) ≤ length ls
  layers_length [] = omega arith
  layers_length (l ∷ ls) =
      let rest : length (without_layer n ls) ≤ length ls = layers_length ls in
      elim (bytes_eq l.name n) as (λ b. length (cond (not b) (l ∷ without_layer n ls) (without_layer n ls)) ≤ length (l ∷ ls)) [ true ↦ less_more l (without_layer n ls) ls rest | false ↦ both_more l (without_layer n ls) ls rest ]

-- ---- handles

pub handle_is : (hs : List Handle) (n : Text) → is_some (handle_named hs n) ≡ is_named handle_name hs n
handle_is [] n = refl
handle_is (h ∷ hs) n =
    elim (bytes_eq h.name n) as (λ b. is_some (cond b (Some h) (handle_named hs n)) ≡ (b || is_named handle_name hs n)) [ true ↦ refl | false ↦ handle_is hs n ]

some_is : (a b : Handle) → Some a ≡ Some b → a ≡ b
some_is a b e = ap (λ o. unwrap_or o a) e

-- what holds of each handle holds of one that is found, which has the name
pub found : (P : Handle → Type 0) (hs : List Handle) (n : Text) (h : Handle) → Each P hs → handle_named hs n ≡ Some h → P h × (h.name ≡ n)
found P [] n h all e = absurd (true≢false (sym (ap is_some e)))
found P (x ∷ hs) n h all e = at (bytes_eq x.name n) refl e (found P hs n h all.1)
  where
    at : (b : Bool) → bytes_eq x.name n ≡ b → cond b (Some x) (handle_named hs n) ≡ Some h → (handle_named hs n ≡ Some h → P h × (h.name ≡ n)) → P h × (h.name ≡ n)
    at true is k later = subst (λ (y : Handle). P y × (y.name ≡ n)) (some_is x h k) (all.0, (bytes_eq-Decides x.name n).0 is)
    at false is k later = later k

-- a handle that is found has the name
pub named_so : (hs : List Handle) (n : Text) (h : Handle) → handle_named hs n ≡ Some h → h.name ≡ n
named_so hs n h e = (found (λ x. Unit {0}) hs n h (each_any hs) e).1

-- a handle that is found is found still, when one is put to the end
pub found_push : (hs : List Handle) (x : Handle) (n : Text) (h : Handle) → handle_named hs n ≡ Some h → handle_named (hs ++ x ∷ []) n ≡ Some h
found_push [] x n h e = absurd (true≢false (sym (ap is_some e)))
found_push (y ∷ ys) x n h e =
    elim (bytes_eq y.name n) as (λ b. cond b (Some y) (handle_named ys n) ≡ Some h → cond b (Some y) (handle_named (ys ++ x ∷ []) n) ≡ Some h) [ true ↦ λ k. k | false ↦ found_push ys x n h ] e

-- or when one of another name leaves
pub found_left : (hs : List Handle) (name n : Text) → bytes_eq n name ≡ false → handle_named (without_handle name hs) n ≡ handle_named hs n
found_left [] name n other = refl
found_left (h ∷ hs) name n other = at (bytes_eq h.name name) refl (found_left hs name n other)
  where
    at : (b : Bool) → bytes_eq h.name name ≡ b → handle_named (without_handle name hs) n ≡ handle_named hs n → handle_named (cond b hs (h ∷ without_handle name hs)) n ≡ cond (bytes_eq h.name n) (Some h) (handle_named hs n)
    at true is later =
        ap (λ b. cond b (Some h) (handle_named hs n)) (sym (subst (λ t. bytes_eq t n ≡ false) (sym ((bytes_eq-Decides h.name name).0 is)) (turned n name other)))
    at false is later = ap (λ o. cond (bytes_eq h.name n) (Some h) o) later

-- a watch that was started with a handle of another name
pub not_in_use : (ws : List Watch) (name : Text) → is_in_use ws name ≡ false → Each (λ (w : Watch). bytes_eq w.handle.name name ≡ false) ws
not_in_use [] name h = tt
not_in_use (w ∷ ws) name h =
    (left_false (bytes_eq w.handle.name name) (is_in_use ws name) h, not_in_use ws name (right_false (bytes_eq w.handle.name name) (is_in_use ws name) h))

pub each_both : {X : Type 0} (P Q R : X → Type 0) (xs : List X) → ((x : X) → P x → Q x → R x) → Each P xs → Each Q xs → Each R xs
each_both P Q R [] f a b = tt
each_both P Q R (x ∷ xs) f a b = (f x a.0 b.0, each_both P Q R xs f a.1 b.1)
