-- What is valid at types stays so below, where all fields of one response key have one form.
use Rattle.std.proofs.Common.{◌≡◌, Bool, true, false, cond, List, [], ◌∷◌, ◌++◌, map, refl, sym, ◌∙◌, subst, bytes_eq, inl, inr}
use Rattle.std.proofs.lemmas.Slice.Eq.{bytes_eq-Decides}
use Rattle.std.specs.List.{AllByRecursion}
use Rattle.store_model.specs.Alike.{Among}
use Rattle.store_model.specs.Items.{Asked, Group, members, parts, asks, with_asked, grouped_onto}
use Rattle.store_model.specs.Reaches.{types_of}
use Rattle.store_record.specs.Keys.{Text}
use Rattle.store_record.specs.gql_plain.Order.{has_text}

each_so : {X : Type 0} (P Q : X → Type 0) (xs : List X) → ((x : X) → P x → Q x) → AllByRecursion P xs → AllByRecursion Q xs
each_so P Q [] f h = tt
each_so P Q (x ∷ xs) f h = (f x h.0, each_so P Q xs f h.1)

each_push : {X : Type 0} (P : X → Type 0) (xs : List X) (x : X) → AllByRecursion P xs → P x → AllByRecursion P (xs ++ x ∷ [])
each_push P [] x h here = (here, tt)
each_push P (y ∷ ys) x h here = (h.0, each_push P ys x h.1 here)

each_map : {X Y : Type 0} (f : X → Y) (P : Y → Type 0) (xs : List X) → AllByRecursion (λ x. P (f x)) xs → AllByRecursion P (map f xs)
each_map f P [] h = tt
each_map f P (x ∷ xs) h = (h.0, each_map f P xs h.1)

all_there : {X : Type 0} (xs : List X) → AllByRecursion (λ x. Among x xs) xs
all_there [] = tt
all_there (x ∷ xs) = (inl refl, each_so (λ y. Among y xs) (λ y. Among y (x ∷ xs)) xs (λ y there. inr there) (all_there xs))

module _ {F : Type 0} (Q : Asked F → Type 0) where
  -- each field has the property, and the response key of its group
  abbrev pub Fits : Group F → Type 0
  Fits g = AllByRecursion (λ m. Q m × (m.ask.response ≡ g.first.ask.response)) (members g)

  with_fits : (gs : List (Group F)) (a : Asked F) → AllByRecursion Fits gs → Q a → AllByRecursion Fits (with_asked gs a)
  with_fits [] a all q = (((q, refl), tt), tt)
  with_fits (g ∷ gs) a all q = at (with_fits gs a all.1 q) (bytes_eq g.first.ask.response a.ask.response) refl
    where
      at : AllByRecursion Fits (with_asked gs a) → (b : Bool) → bytes_eq g.first.ask.response a.ask.response ≡ b
          → AllByRecursion Fits (cond b (record { first = g.first; others = g.others ++ a ∷ [] } ∷ gs) (g ∷ with_asked gs a))
      at rest true e = (each_push (λ m. Q m × (m.ask.response ≡ g.first.ask.response)) (members g) a all.0 (q, sym ((bytes_eq-Decides g.first.ask.response a.ask.response).0 e)), all.1)
      at rest false e = (all.0, rest)

  pub onto_fits : (us : List (Asked F)) (gs : List (Group F)) → AllByRecursion Fits gs → AllByRecursion Q us → AllByRecursion Fits (grouped_onto gs us)
  onto_fits [] gs all h = all
  onto_fits (u ∷ us) gs all h = onto_fits us (with_asked gs u) (with_fits gs u all h.0) h.1

module _ {F : Type 0} (Valid : Text → F → Type 0) (us : List (Asked F))
    (uniform : (x y : Asked F) → Among x us → Among y us → x.ask.response ≡ y.ask.response → x.ask.form ≡ y.ask.form) where
  abbrev pub ValidAt : List Text → List F → Type 0
  ValidAt types fs = AllByRecursion (λ f. (T : Text) → has_text types T ≡ true → Valid T f) fs

  -- what lies below one field is valid at its possible types
  abbrev pub FieldValid : Asked F → Type 0
  FieldValid a = (T : Text) → has_text (types_of a.ask.form) T ≡ true → Valid T a.part

  abbrev Both : Asked F → Type 0
  Both a = Among a us × FieldValid a

  both_all : (xs : List (Asked F)) → AllByRecursion (λ x. Among x us) xs → AllByRecursion FieldValid xs → AllByRecursion Both xs
  both_all [] h k = tt
  both_all (x ∷ xs) h k = ((h.0, k.0), both_all xs h.1 k.1)

  group_valid : (g : Group F) → Fits Both g → AllByRecursion (λ a. ValidAt (types_of a.form) (parts g)) (asks g)
  group_valid g fits =
      each_map (λ m. m.ask) (λ a. ValidAt (types_of a.form) (parts g)) (members g)
      (each_so (λ m. Both m × (m.ask.response ≡ g.first.ask.response)) (λ m. ValidAt (types_of m.ask.form) (parts g)) (members g)
      (λ x h. each_map (λ m. m.part) (λ f. (T : Text) → has_text (types_of x.ask.form) T ≡ true → Valid T f) (members g)
      (each_so (λ m. Both m × (m.ask.response ≡ g.first.ask.response)) (λ m. (T : Text) → has_text (types_of x.ask.form) T ≡ true → Valid T m.part) (members g)
      (λ y k T here. k.0.1 T (subst (λ form. has_text (types_of form) T ≡ true) (uniform x y h.0.0 k.0.0 (h.1 ∙ sym k.1)) here)) fits))
      fits)

  -- so the joined parts of each group are valid at the types of each of its fields
  pub groups_valid : AllByRecursion FieldValid us → AllByRecursion (λ g. AllByRecursion (λ a. ValidAt (types_of a.form) (parts g)) (asks g)) (grouped_onto [] us)
  groups_valid h =
      each_so (Fits Both) (λ g. AllByRecursion (λ a. ValidAt (types_of a.form) (parts g)) (asks g)) (grouped_onto [] us) group_valid
      (onto_fits Both us [] tt (both_all us (all_there us) h))
