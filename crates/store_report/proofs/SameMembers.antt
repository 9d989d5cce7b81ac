-- Lists with the same members.
use Rattle.std.proofs.Common.{List, [], ◌∷◌, ◌++◌, append_assoc, inl, inr, subst, sym}
use Rattle.std.specs.Prelude.{◌⊎◌}
use Rattle.store_model.proofs.Seated.{among_left, among_right}
use Rattle.store_model.specs.Alike.{Among}
use Rattle.store_report.specs.ObjectRows.{HoldSame}

pub among_either : {A : Type 0} (x : A) (xs ys : List A) → Among x (xs ++ ys) → Among x xs ⊎ Among x ys
among_either x [] ys h = inr h
among_either x (y ∷ xs) ys (inl e) = inl (inl e)
among_either {A} x (y ∷ xs) ys (inr h) = at (among_either x xs ys h)
  where
    at : Among x xs ⊎ Among x ys → Among x (y ∷ xs) ⊎ Among x ys
    at (inl l) = inl (inr l)
    at (inr r) = inr r

pub same_refl : {A : Type 0} (xs : List A) → HoldSame xs xs
same_refl xs x = (λ h. h, λ h. h)

pub same_sym : {A : Type 0} (xs ys : List A) → HoldSame xs ys → HoldSame ys xs
same_sym xs ys h x = ((h x).1, (h x).0)

pub same_trans : {A : Type 0} (xs ys zs : List A) → HoldSame xs ys → HoldSame ys zs → HoldSame xs zs
same_trans xs ys zs h k x = (λ a. (k x).0 ((h x).0 a), λ a. (h x).1 ((k x).1 a))

among_both : {A : Type 0} (x : A) (xs us ys vs : List A) → (Among x xs → Among x us) → (Among x ys → Among x vs) → Among x (xs ++ ys) → Among x (us ++ vs)
among_both {A} x xs us ys vs f g h = at (among_either x xs ys h)
  where
    at : Among x xs ⊎ Among x ys → Among x (us ++ vs)
    at (inl l) = among_left x us vs (f l)
    at (inr r) = among_right x us vs (g r)

pub same_append : {A : Type 0} (xs us ys vs : List A) → HoldSame xs us → HoldSame ys vs → HoldSame (xs ++ ys) (us ++ vs)
same_append xs us ys vs h k x = (among_both x xs us ys vs (h x).0 (k x).0, among_both x us xs vs ys (h x).1 (k x).1)

among_swap : {A : Type 0} (x : A) (xs ys : List A) → Among x (xs ++ ys) → Among x (ys ++ xs)
among_swap {A} x xs ys h = at (among_either x xs ys h)
  where
    at : Among x xs ⊎ Among x ys → Among x (ys ++ xs)
    at (inl l) = among_right x ys xs l
    at (inr r) = among_left x ys xs r

pub same_swap : {A : Type 0} (xs ys : List A) → HoldSame (xs ++ ys) (ys ++ xs)
same_swap xs ys x = (among_swap x xs ys, among_swap x ys xs)

-- the last two of three lists change places
pub swap_last : {A : Type 0} (xs ys zs : List A) → HoldSame ((xs ++ ys) ++ zs) ((xs ++ zs) ++ ys)
swap_last {A} xs ys zs =
    subst (HoldSame ((xs ++ ys) ++ zs)) (sym (append_assoc xs zs ys))
    (subst (λ (ws : List A). HoldSame ws (xs ++ (zs ++ ys))) (sym (append_assoc xs ys zs)) (same_append xs xs (ys ++ zs) (zs ++ ys) (same_refl xs) (same_swap ys zs)))
