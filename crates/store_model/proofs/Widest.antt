-- The widest relation of likeness: it is kept, every kept relation lies in it, and it goes both ways and on.
use Rattle.std.proofs.Common.{◌≡◌, ℕ, zero, suc, true, List, [], ◌∷◌, ◌∙◌, subst}
use Rattle.std.specs.List.{AllByRecursion, AllZip}
use Rattle.store_model.proofs.Flips.{Flip, of_among, keeps_flip}
use Rattle.store_record.specs.Keys.{Text}
use Rattle.store_model.specs.Alike.{Among, Related, AlikeGroup, AlikePointer, AlikeAt, Keeps, Alike}
use Rattle.store_model.specs.Items.{Pointer, Group, asks, parts, Collect}
use Rattle.store_model.specs.Reaches.{types_of}

each_so : {X : Type 0} (P Q : X → Type 0) (xs : List X) → ((x : X) → P x → Q x) → AllByRecursion P xs → AllByRecursion Q xs
each_so P Q [] f h = tt
each_so P Q (x ∷ xs) f h = (f x h.0, each_so P Q xs f h.1)

each_both : {X : Type 0} (P Q R : X → Type 0) (xs : List X) → ((x : X) → P x → Q x → R x) → AllByRecursion P xs → AllByRecursion Q xs → AllByRecursion R xs
each_both P Q R [] f h k = tt
each_both P Q R (x ∷ xs) f h k = (f x h.0 k.0, each_both P Q R xs f h.1 k.1)

zip_so : {X Y : Type 0} (r s : X → Y → Type 0) → ((x : X) (y : Y) → r x y → s x y) → (xs : List X) (ys : List Y) → AllZip r xs ys → AllZip s xs ys
zip_so r s f [] [] h = tt
zip_so r s f [] (y ∷ ys) h = absurd h
zip_so r s f (x ∷ xs) [] h = absurd h
zip_so r s f (x ∷ xs) (y ∷ ys) h = (f x y h.0, zip_so r s f xs ys h.1)

zip_on : {X Y Z : Type 0} (r : X → Y → Type 0) (s : Y → Z → Type 0) (t : X → Z → Type 0) → ((x : X) (y : Y) (z : Z) → r x y → s y z → t x z)
    → (xs : List X) (ys : List Y) (zs : List Z) → AllZip r xs ys → AllZip s ys zs → AllZip t xs zs
zip_on r s t f [] [] [] a b = tt
zip_on r s t f [] [] (z ∷ zs) a b = absurd b
zip_on r s t f [] (y ∷ ys) zs a b = absurd a
zip_on r s t f (x ∷ xs) [] zs a b = absurd a
zip_on r s t f (x ∷ xs) (y ∷ ys) [] a b = absurd b
zip_on r s t f (x ∷ xs) (y ∷ ys) (z ∷ zs) a b = (f x y z a.0 b.0, zip_on r s t f xs ys zs a.1 b.1)

pub alike_keeps : {F G : Type 0} (collect : Collect F) (gather : Collect G) (n : ℕ) → Keeps (Alike collect gather n) (Alike collect gather (suc n)) collect gather
alike_keeps collect gather n T types fs gs here h = h T here

module _ {F G : Type 0} (r s : Related F G) (f : (types : List Text) (fs : List F) (gs : List G) → r types fs gs → s types fs gs) where
  group_so : (g : Group F) (h : Group G) → AlikeGroup r g h → AlikeGroup s g h
  group_so g h e = record { first = e.first; there = e.there; back = e.back; below = each_so (λ a. r (types_of a.form) (parts g) (parts h)) (λ a. s (types_of a.form) (parts g) (parts h)) (asks g) (λ a. f (types_of a.form) (parts g) (parts h)) e.below }

  pointer_so : (T : Text) (p : Pointer F) (q : Pointer G) → AlikePointer r T p q → AlikePointer s T p q
  pointer_so T p q e = record { fragment = e.fragment; scope = e.scope; inline = e.inline; body = λ h. f (T ∷ []) (p.body ∷ []) (q.body ∷ []) (e.body h) }

  at_so : (collect : Collect F) (gather : Collect G) (T : Text) (fs : List F) (gs : List G) → AlikeAt r collect gather T fs gs → AlikeAt s collect gather T fs gs
  at_so collect gather T fs gs a = record {
    groups = zip_so (AlikeGroup r) (AlikeGroup s) group_so _ _ a.groups;
    pointers = zip_so (AlikePointer r T) (AlikePointer s T) (pointer_so T) _ _ a.pointers;
  }

-- every relation that is kept lies in the widest
pub alike_widest : {F G : Type 0} (collect : Collect F) (gather : Collect G) (r : ℕ → Related F G) → ((n : ℕ) → Keeps (r n) (r (suc n)) collect gather)
    → (n : ℕ) (types : List Text) (fs : List F) (gs : List G) → r n types fs gs → Alike collect gather n types fs gs
alike_widest collect gather r keeps zero types fs gs h = tt
alike_widest collect gather r keeps (suc n) types fs gs h =
    λ T here. at_so (r n) (Alike collect gather n) (alike_widest collect gather r keeps n) collect gather T fs gs (keeps n T types fs gs here h)

pub alike_flip : {F G : Type 0} (collect : Collect F) (gather : Collect G) (n : ℕ) (types : List Text) (fs : List F) (gs : List G) → Alike collect gather n types fs gs → Alike gather collect n types gs fs
alike_flip collect gather n types fs gs h =
    alike_widest gather collect (λ k. Flip (Alike collect gather k)) (λ k. keeps_flip (Alike collect gather k) (Alike collect gather (suc k)) collect gather (alike_keeps collect gather k)) n types gs fs h

module _ {F G H : Type 0} (r : Related F G) (s : Related G H) (t : Related F H)
    (on : (types : List Text) (fs : List F) (gs : List G) (hs : List H) → r types fs gs → s types gs hs → t types fs hs) where
  group_on : (g : Group F) (h : Group G) (k : Group H) → AlikeGroup r g h → AlikeGroup s h k → AlikeGroup t g k
  group_on g h k a b = record {
    first = a.first ∙ b.first;
    there = each_so (λ x. Among x (asks h)) (λ x. Among x (asks k)) (asks g) (λ x here. of_among (λ y. Among y (asks k)) x (asks h) b.there here) a.there;
    back = each_so (λ x. Among x (asks h)) (λ x. Among x (asks g)) (asks k) (λ x here. of_among (λ y. Among y (asks g)) x (asks h) a.back here) b.back;
    below = each_both (λ x. r (types_of x.form) (parts g) (parts h)) (λ x. Among x (asks h)) (λ x. t (types_of x.form) (parts g) (parts k)) (asks g)
        (λ x u here. on (types_of x.form) (parts g) (parts h) (parts k) u (of_among (λ y. s (types_of y.form) (parts h) (parts k)) x (asks h) b.below here)) a.below a.there;
  }

  pointer_on : (T : Text) (p : Pointer F) (q : Pointer G) (o : Pointer H) → AlikePointer r T p q → AlikePointer s T q o → AlikePointer t T p o
  pointer_on T p q o a b = record {
    fragment = a.fragment ∙ b.fragment;
    scope = a.scope ∙ b.scope;
    inline = a.inline ∙ b.inline;
    body = λ h. on (T ∷ []) (p.body ∷ []) (q.body ∷ []) (o.body ∷ []) (a.body h) (b.body (subst (λ c. c ≡ true) a.inline h));
  }

pub alike_on : {F G H : Type 0} (collect : Collect F) (gather : Collect G) (take_in : Collect H) (n : ℕ) (types : List Text) (fs : List F) (gs : List G) (hs : List H)
    → Alike collect gather n types fs gs → Alike gather take_in n types gs hs → Alike collect take_in n types fs hs
alike_on collect gather take_in zero types fs gs hs a b = tt
alike_on collect gather take_in (suc n) types fs gs hs a b = λ T here.
    let r = Alike collect gather n in
    let s = Alike gather take_in n in
    let t = Alike collect take_in n in
    record {
      groups = zip_on (AlikeGroup r) (AlikeGroup s) (AlikeGroup t) (group_on r s t (alike_on collect gather take_in n)) _ _ _ (a T here).groups (b T here).groups;
      pointers = zip_on (AlikePointer r T) (AlikePointer s T) (AlikePointer t T) (pointer_on r s t (alike_on collect gather take_in n) T) _ _ _ (a T here).pointers (b T here).pointers;
    }

-- ---- what is alike at every depth is a kept relation

abbrev pub AlikeEver : {F G : Type 0} → Collect F → Collect G → Related F G
AlikeEver collect gather types fs gs = (n : ℕ) → Alike collect gather n types fs gs

zip_ever : {X Y : Type 0} (r : ℕ → X → Y → Type 0) (xs : List X) (ys : List Y) → ((n : ℕ) → AllZip (r n) xs ys) → AllZip (λ x y. (n : ℕ) → r n x y) xs ys
zip_ever r [] [] h = tt
zip_ever r [] (y ∷ ys) h = absurd (h 0)
zip_ever r (x ∷ xs) [] h = absurd (h 0)
zip_ever r (x ∷ xs) (y ∷ ys) h = ((λ n. (h n).0), zip_ever r xs ys (λ n. (h n).1))

each_ever : {X : Type 0} (P : ℕ → X → Type 0) (xs : List X) → ((n : ℕ) → AllByRecursion (P n) xs) → AllByRecursion (λ x. (n : ℕ) → P n x) xs
each_ever P [] h = tt
each_ever P (x ∷ xs) h = ((λ n. (h n).0), each_ever P xs (λ n. (h n).1))

pub ever_keeps : {F G : Type 0} (collect : Collect F) (gather : Collect G) → Keeps (AlikeEver collect gather) (AlikeEver collect gather) collect gather
ever_keeps collect gather T types fs gs here h =
    let groups = zip_ever (λ n. AlikeGroup (Alike collect gather n)) _ _ (λ n. (h (suc n) T here).groups) in
    let pointers = zip_ever (λ n. AlikePointer (Alike collect gather n) T) _ _ (λ n. (h (suc n) T here).pointers) in
    record {
      groups = zip_so _ (AlikeGroup (AlikeEver collect gather)) (λ g k e. record { first = (e 0).first; there = (e 0).there; back = (e 0).back; below = each_ever (λ n a. Alike collect gather n (types_of a.form) (parts g) (parts k)) (asks g) (λ n. (e n).below) }) _ _ groups;
      pointers = zip_so _ (AlikePointer (AlikeEver collect gather) T) (λ p q e. record { fragment = (e 0).fragment; scope = (e 0).scope; inline = (e 0).inline; body = λ yes n. (e n).body yes }) _ _ pointers;
    }
