-- Each field of a list stands in the group of its response key.
use Rattle.std.proofs.Common.{◌≡◌, Bool, true, false, cond, List, [], ◌∷◌, ◌++◌, Option, Some, None, map, refl, sym, ap, subst, inl, inr, bytes_eq}
use Rattle.std.proofs.lemmas.Slice.Eq.{bytes_eq-Decides}
use Rattle.store_record.specs.Keys.{Text}
use Rattle.store_model.proofs.Least.{Each, each_append}
use Rattle.store_model.specs.Alike.{Among}
use Rattle.store_model.specs.Items.{Asked, Item, asked, pointed, Group, members, asked_of, with_asked, grouped_onto, groups_of, Collect, collect_all}

-- ---- members of a list

pub among_left : {X : Type 0} (x : X) (xs ys : List X) → Among x xs → Among x (xs ++ ys)
among_left x [] ys h = absurd h
among_left x (y ∷ xs) ys (inl e) = inl e
among_left x (y ∷ xs) ys (inr h) = inr (among_left x xs ys h)

pub among_right : {X : Type 0} (x : X) (xs ys : List X) → Among x ys → Among x (xs ++ ys)
among_right x [] ys h = h
among_right x (y ∷ xs) ys h = inr (among_right x xs ys h)

pub among_map : {X Y : Type 0} (f : X → Y) (x : X) (xs : List X) → Among x xs → Among (f x) (map f xs)
among_map f x [] h = absurd h
among_map f x (y ∷ xs) (inl e) = inl (ap f e)
among_map f x (y ∷ xs) (inr h) = inr (among_map f x xs h)

-- what holds of each member
pub each_among : {X : Type 0} (P : X → Type 0) (xs : List X) → ((x : X) → Among x xs → P x) → Each P xs
each_among P [] f = tt
each_among P (x ∷ xs) f = (f x (inl refl), each_among P xs (λ y h. f y (inr h)))

pub of_among : {X : Type 0} (P : X → Type 0) (x : X) (xs : List X) → Each P xs → Among x xs → P x
of_among P x [] all h = absurd h
of_among P x (y ∷ xs) all (inl e) = subst P e all.0
of_among P x (y ∷ xs) all (inr h) = of_among P x xs all.1 h

-- ---- the group of a response key

module _ {F : Type 0} where
  abbrev pub group_for : Text → List (Group F) → Option (Group F)
  group_for response [] = None
  group_for response (g ∷ gs) = cond (bytes_eq g.first.ask.response response) (Some g) (group_for response gs)

  abbrev pub SeatedIn : Option (Group F) → Asked F → Type 0
  SeatedIn None x = ⊥
  SeatedIn (Some g) x = Among x (members g)

  abbrev pub Seated : List (Group F) → Asked F → Type 0
  Seated gs x = SeatedIn (group_for x.ask.response gs) x

  abbrev with_one : Group F → Asked F → Group F
  with_one g a = record { first = g.first; others = g.others ++ a ∷ [] }

  among_one : (g : Group F) (a x : Asked F) → Among x (members g) → Among x (members (with_one g a))
  among_one g a x h = among_left x (members g) (a ∷ []) h

  -- the field that is added is seated, and the others stay so
  seated_new : (gs : List (Group F)) (a : Asked F) → Seated (with_asked gs a) a
  seated_new [] a =
      subst (λ b. SeatedIn (cond b (Some (record { first = a; others = [] })) None) a) (sym ((bytes_eq-Decides a.ask.response a.ask.response).1 refl)) (inl refl)
  seated_new (g ∷ gs) a =
      elim (bytes_eq g.first.ask.response a.ask.response) as (λ b. bytes_eq g.first.ask.response a.ask.response ≡ b → SeatedIn (group_for a.ask.response (cond b (with_one g a ∷ gs) (g ∷ with_asked gs a))) a) [
        | true ↦ λ e. subst (λ b. SeatedIn (cond b (Some (with_one g a)) (group_for a.ask.response gs)) a) (sym e) (among_right a (members g) (a ∷ []) (inl refl))
        | false ↦ λ e. subst (λ b. SeatedIn (cond b (Some g) (group_for a.ask.response (with_asked gs a))) a) (sym e) (seated_new gs a)
      ] refl

  seated_either : (b : Bool) (g h : Group F) (o p : Option (Group F)) (x : Asked F) → (Among x (members g) → Among x (members h)) → (SeatedIn o x → SeatedIn p x) → SeatedIn (cond b (Some g) o) x → SeatedIn (cond b (Some h) p) x
  seated_either true g h o p x one rest s = one s
  seated_either false g h o p x one rest s = rest s

  seated_still : (gs : List (Group F)) (a x : Asked F) → Seated gs x → Seated (with_asked gs a) x
  seated_still [] a x s = absurd s
  seated_still (g ∷ gs) a x s =
      elim (bytes_eq g.first.ask.response a.ask.response) as (λ b. SeatedIn (group_for x.ask.response (cond b (with_one g a ∷ gs) (g ∷ with_asked gs a))) x) [
        | true ↦ seated_either (bytes_eq g.first.ask.response x.ask.response) g (with_one g a) (group_for x.ask.response gs) (group_for x.ask.response gs) x (among_one g a x) (λ h. h) s
        | false ↦ seated_either (bytes_eq g.first.ask.response x.ask.response) g g (group_for x.ask.response gs) (group_for x.ask.response (with_asked gs a)) x (λ h. h) (seated_still gs a x) s
      ]

  onto_still : (gs : List (Group F)) (us : List (Asked F)) (x : Asked F) → Seated gs x → Seated (grouped_onto gs us) x
  onto_still gs [] x s = s
  onto_still gs (a ∷ us) x s = onto_still (with_asked gs a) us x (seated_still gs a x s)

  onto_seats : (gs : List (Group F)) (us : List (Asked F)) (x : Asked F) → Among x us → Seated (grouped_onto gs us) x
  onto_seats gs [] x h = absurd h
  onto_seats gs (a ∷ us) x (inl e) = subst (λ y. Seated (grouped_onto (with_asked gs a) us) y) e (onto_still (with_asked gs a) us a (seated_new gs a))
  onto_seats gs (a ∷ us) x (inr h) = onto_seats (with_asked gs a) us x h

  pub grouped_seats : (items : List (Item F)) (x : Asked F) → Among x (asked_of items) → Seated (groups_of items) x
  grouped_seats items x h = onto_seats [] (asked_of items) x h

  -- ---- what holds of each field holds of the fields of each group, which have its response key

  abbrev pub Fits : (Asked F → Type 0) → Group F → Type 0
  Fits P g = P g.first × Each (λ a. (g.first.ask.response ≡ a.ask.response) × P a) g.others

  with_asked_fits : (P : Asked F → Type 0) (gs : List (Group F)) (a : Asked F) → Each (Fits P) gs → P a → Each (Fits P) (with_asked gs a)
  with_asked_fits P [] a all h = ((h, tt), tt)
  with_asked_fits P (g ∷ gs) a all h =
      elim (bytes_eq g.first.ask.response a.ask.response) as (λ b. bytes_eq g.first.ask.response a.ask.response ≡ b → Each (Fits P) (cond b (with_one g a ∷ gs) (g ∷ with_asked gs a))) [
        | true ↦ λ e. ((all.0.0, each_append (λ x. (g.first.ask.response ≡ x.ask.response) × P x) g.others (a ∷ []) all.0.1 (((bytes_eq-Decides g.first.ask.response a.ask.response).0 e, h), tt)), all.1)
        | false ↦ λ e. (all.0, with_asked_fits P gs a all.1 h)
      ] refl

  onto_fits : (P : Asked F → Type 0) (gs : List (Group F)) (us : List (Asked F)) → Each (Fits P) gs → Each P us → Each (Fits P) (grouped_onto gs us)
  onto_fits P gs [] all h = all
  onto_fits P gs (a ∷ us) all h = onto_fits P (with_asked gs a) us (with_asked_fits P gs a all h.0) h.1

  pub grouped_fits : (P : Asked F → Type 0) (items : List (Item F)) → Each P (asked_of items) → Each (Fits P) (groups_of items)
  grouped_fits P items h = onto_fits P [] (asked_of items) tt h

  -- ---- what parts give one by one they give together

  pub asked_append : (xs ys : List (Item F)) → asked_of (xs ++ ys) ≡ asked_of xs ++ asked_of ys
  asked_append [] ys = refl
  asked_append (asked a ∷ xs) ys = ap (λ us. a ∷ us) (asked_append xs ys)
  asked_append (pointed p ∷ xs) ys = asked_append xs ys

  pub among_all : (collect : Collect F) (T : Text) (f : F) (fs : List F) (x : Asked F) → Among f fs → Among x (asked_of (collect T f)) → Among x (asked_of (collect_all collect T fs))
  among_all collect T f [] x h here = absurd h
  among_all collect T f (g ∷ fs) x (inl e) here =
      subst (λ us. Among x us) (sym (asked_append (collect T g) (collect_all collect T fs)))
      (among_left x (asked_of (collect T g)) (asked_of (collect_all collect T fs)) (subst (λ k. Among x (asked_of (collect T k))) (sym e) here))
  among_all collect T f (g ∷ fs) x (inr h) here =
      subst (λ us. Among x us) (sym (asked_append (collect T g) (collect_all collect T fs)))
      (among_right x (asked_of (collect T g)) (asked_of (collect_all collect T fs)) (among_all collect T f fs x h here))
