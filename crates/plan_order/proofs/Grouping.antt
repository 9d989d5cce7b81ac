-- The groups of fields that differ, and the pointers to fragments that differ.
use Rattle.std.proofs.Common.{◌≡◌, cond, List, [], ◌∷◌, ◌++◌, map, append_assoc, append-nil, refl, sym, ap, subst, ◌∙◌}
use Rattle.std.proofs.lemmas.List.{map-append}
use Rattle.std.specs.List.{AllByRecursion}
use Rattle.plan_order.proofs.Shuffles.{Differ, DoDiffer, differ-back, differ-before}
use Rattle.plan_ir.specs.store_model.Items.{Asked, Group, Item, asked, pointed, Pointer, asked_of, groups_of, grouped_onto, pointers, with_asked, without}
use Rattle.plan_ir.specs.store_record.Keys.{Text}

module _ {F : Type 0} where
  abbrev pub response_of : Asked F → Text
  response_of a = a.ask.response

  abbrev pub fragment_of : Pointer F → Text
  fragment_of p = p.fragment

  -- the pointers among items
  abbrev pub pointed_of : List (Item F) → List (Pointer F)
  pointed_of [] = []
  pointed_of (asked a ∷ items) = pointed_of items
  pointed_of (pointed p ∷ items) = p ∷ pointed_of items

  abbrev pub keys_in : List (Item F) → List Text
  keys_in items = map response_of (asked_of items)

  abbrev pub fragments_in : List (Item F) → List Text
  fragments_in items = map fragment_of (pointed_of items)

  abbrev pub alone_in : Asked F → Group F
  alone_in a = record { first = a; others = [] }

  -- ---- groups

  group_new : (fs : List (Asked F)) (a : Asked F) → AllByRecursion (λ x. Differ x a.ask.response) (map response_of fs)
      → with_asked (map alone_in fs) a ≡ map alone_in (fs ++ a ∷ [])
  group_new [] a all = refl
  group_new (b ∷ fs) a all =
      ap (λ t. cond t (record { first = b; others = a ∷ [] } ∷ map alone_in fs) (alone_in b ∷ with_asked (map alone_in fs) a)) all.0
      ∙ ap (λ gs. alone_in b ∷ gs) (group_new fs a all.1)

  grouped_alone : (done fs : List (Asked F)) → DoDiffer (map response_of (done ++ fs)) → grouped_onto (map alone_in done) fs ≡ map alone_in (done ++ fs)
  grouped_alone done [] up = ap (map alone_in) (sym (append-nil done))
  grouped_alone done (a ∷ fs) up =
      ap (λ gs. grouped_onto gs fs) (group_new done a (differ-before (map response_of done) a.ask.response (map response_of fs) (subst DoDiffer (map-append response_of done (a ∷ fs)) up)))
      ∙ grouped_alone (done ++ a ∷ []) fs (subst (λ xs. DoDiffer (map response_of xs)) (sym (append_assoc done (a ∷ []) fs)) up)
      ∙ ap (map alone_in) (append_assoc done (a ∷ []) fs)

  pub groups_alone : (items : List (Item F)) → DoDiffer (keys_in items) → groups_of items ≡ map alone_in (asked_of items)
  groups_alone items up = grouped_alone [] (asked_of items) up

  -- ---- pointers

  without_new : (name : Text) (ps : List (Pointer F)) → AllByRecursion (Differ name) (map fragment_of ps) → without name ps ≡ ps
  without_new name [] all = refl
  without_new name (p ∷ ps) all =
      ap (λ t. cond t (without name ps) (p ∷ without name ps)) (differ-back name p.fragment all.0) ∙ ap (λ rest. p ∷ rest) (without_new name ps all.1)

  pub pointers_each : (items : List (Item F)) → DoDiffer (fragments_in items) → pointers items ≡ pointed_of items
  pointers_each [] up = refl
  pointers_each (asked a ∷ items) up = pointers_each items up
  pointers_each (pointed p ∷ items) up =
      ap (λ rest. p ∷ without p.fragment rest) (pointers_each items up.1)
      ∙ ap (λ rest. p ∷ rest) (without_new p.fragment (pointed_of items) up.0)

  -- ---- items one after another

  pub asked-append : (xs ys : List (Item F)) → asked_of (xs ++ ys) ≡ asked_of xs ++ asked_of ys
  asked-append [] ys = refl
  asked-append (asked a ∷ xs) ys = ap (λ rest. a ∷ rest) (asked-append xs ys)
  asked-append (pointed p ∷ xs) ys = asked-append xs ys

  pub pointed-append : (xs ys : List (Item F)) → pointed_of (xs ++ ys) ≡ pointed_of xs ++ pointed_of ys
  pointed-append [] ys = refl
  pointed-append (asked a ∷ xs) ys = pointed-append xs ys
  pointed-append (pointed p ∷ xs) ys = ap (λ rest. p ∷ rest) (pointed-append xs ys)

  pub keys-append : (xs ys : List (Item F)) → keys_in (xs ++ ys) ≡ keys_in xs ++ keys_in ys
  keys-append xs ys = ap (map response_of) (asked-append xs ys) ∙ map-append response_of (asked_of xs) (asked_of ys)

  pub fragments-append : (xs ys : List (Item F)) → fragments_in (xs ++ ys) ≡ fragments_in xs ++ fragments_in ys
  fragments-append xs ys = ap (map fragment_of) (pointed-append xs ys) ∙ map-append fragment_of (pointed_of xs) (pointed_of ys)
