-- Likeness can be turned round.
use Rattle.std.proofs.Common.{◌≡◌, true, List, [], ◌∷◌, sym, subst, inl, inr}
use Rattle.std.specs.List.{AllByRecursion, AllZip}
use Rattle.store_record.specs.Keys.{Text}
use Rattle.store_model.specs.Alike.{Among, Related, AlikeGroup, AlikePointer, Keeps}
use Rattle.store_model.specs.Items.{Pointer, Group, asks, parts, Collect}
use Rattle.store_model.specs.Reaches.{types_of}

abbrev pub Flip : {F G : Type 0} → Related F G → Related G F
Flip r types gs fs = r types fs gs

pub of_among : {X : Type 0} (P : X → Type 0) (x : X) (xs : List X) → AllByRecursion P xs → Among x xs → P x
of_among P x [] h here = absurd here
of_among P x (y ∷ ys) h (inl e) = subst P e h.0
of_among P x (y ∷ ys) h (inr there) = of_among P x ys h.1 there

each_so : {X : Type 0} (P Q : X → Type 0) (xs : List X) → ((x : X) → P x → Q x) → AllByRecursion P xs → AllByRecursion Q xs
each_so P Q [] f h = tt
each_so P Q (x ∷ xs) f h = (f x h.0, each_so P Q xs f h.1)

pub zip_flip : {X Y : Type 0} (r : X → Y → Type 0) (s : Y → X → Type 0) → ((x : X) (y : Y) → r x y → s y x) → (xs : List X) (ys : List Y) → AllZip r xs ys → AllZip s ys xs
zip_flip r s f [] [] h = tt
zip_flip r s f [] (y ∷ ys) h = absurd h
zip_flip r s f (x ∷ xs) [] h = absurd h
zip_flip r s f (x ∷ xs) (y ∷ ys) h = (f x y h.0, zip_flip r s f xs ys h.1)

module _ {F G : Type 0} (r : Related F G) where
  pub group_flip : (g : Group F) (h : Group G) → AlikeGroup r g h → AlikeGroup (Flip r) h g
  group_flip g h e = record {
    first = sym e.first;
    there = e.back;
    back = e.there;
    below = each_so (λ b. Among b (asks g)) (λ b. r (types_of b.form) (parts g) (parts h)) (asks h) (λ b here. of_among (λ a. r (types_of a.form) (parts g) (parts h)) b (asks g) e.below here) e.back;
  }

  pub pointer_flip : (T : Text) (p : Pointer F) (q : Pointer G) → AlikePointer r T p q → AlikePointer (Flip r) T q p
  pointer_flip T p q e = record { fragment = sym e.fragment; scope = sym e.scope; inline = sym e.inline; body = λ h. e.body (subst (λ b. b ≡ true) (sym e.inline) h) }

pub keeps_flip : {F G : Type 0} (below above : Related F G) (collect : Collect F) (gather : Collect G)
    → Keeps below above collect gather → Keeps (Flip below) (Flip above) gather collect
keeps_flip below above collect gather keeps T types gs fs here h =
    let a = keeps T types fs gs here h in
    record {
      groups = zip_flip (AlikeGroup below) (AlikeGroup (Flip below)) (group_flip below) _ _ a.groups;
      pointers = zip_flip (AlikePointer below T) (AlikePointer (Flip below) T) (pointer_flip below T) _ _ a.pointers;
    }
