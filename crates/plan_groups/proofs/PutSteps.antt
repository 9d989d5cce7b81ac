-- A field is put behind those of its response key, or as a new group.
use Rattle.std.proofs.Common.{◌≡◌, ℕ, zero, suc, ◌<◌, Bool, true, false, cond, List, [], ◌∷◌, ◌++◌, length, Option, Some, None, option_map, bytes_eq, refl, ap, sym, ◌∙◌, subst, arith}
use Rattle.plan_ir.proofs.gql_graph_laws.TextSteps.{same_text}
use Rattle.plan_ir.proofs.schema_tables_laws.Finding.{suc_of}
use Rattle.plan_ir.specs.store_model.Items.{Asked, Group, Item, asked, pointed, asked_of, with_asked, grouped_onto}
use Rattle.plan_ir.specs.store_record.Keys.{Text}
use Rattle.plan_groups.specs.Putting.{place_of, put_at, with_other}

none_of : (o : Option ℕ) → option_map suc o ≡ None → o ≡ None
none_of None e = refl
none_of (Some k) e = cc

abbrev or_place : Option ℕ → Bool → ℕ → Option ℕ
or_place (Some i) b n = Some i
or_place None b n = cond b (Some n) None

or_place-suc : (o : Option ℕ) (b : Bool) (k : ℕ) → option_map suc (or_place o b k) ≡ or_place (option_map suc o) b (suc k)
or_place-suc None true k = refl
or_place-suc None false k = refl
or_place-suc (Some i) b k = refl

or_place-none : (o : Option ℕ) (k : ℕ) → o ≡ or_place o false k
or_place-none None k = refl
or_place-none (Some i) k = refl

module _ {F : Type 0} where
  abbrev pub alone : Asked F → Group F
  alone a = record { first = a; others = [] }

  -- ---- a key that has a group

  pub put_there : (gs : List (Group F)) (a : Asked F) (i : ℕ) → place_of gs a.ask.response ≡ Some i → with_asked gs a ≡ put_at i gs a
  put_there [] a i e = cc
  put_there (g ∷ gs) a i e = on (λ k. put_there gs a k) (bytes_eq g.first.ask.response a.ask.response) e
    where
      on : ((k : ℕ) → place_of gs a.ask.response ≡ Some k → with_asked gs a ≡ put_at k gs a) → (b : Bool)
          → cond b (Some 0) (option_map suc (place_of gs a.ask.response)) ≡ Some i → cond b (with_other g a ∷ gs) (g ∷ with_asked gs a) ≡ put_at i (g ∷ gs) a
      on rest true e =
          let first : 0 ≡ i = cc in
          subst (λ k. with_other g a ∷ gs ≡ put_at k (g ∷ gs) a) first refl
      on rest false e =
          let later = suc_of (place_of gs a.ask.response) i e in
          subst (λ k. g ∷ with_asked gs a ≡ put_at k (g ∷ gs) a) later.2 (ap (λ hs. g ∷ hs) (rest later.0 later.1))

  pub place_within : (gs : List (Group F)) (n : Text) (i : ℕ) → place_of gs n ≡ Some i → i < length gs
  place_within [] n i e = cc
  place_within (g ∷ gs) n i e = on (λ k. place_within gs n k) (bytes_eq g.first.ask.response n) e
    where
      on : ((k : ℕ) → place_of gs n ≡ Some k → k < length gs) → (b : Bool) → cond b (Some 0) (option_map suc (place_of gs n)) ≡ Some i → i < suc (length gs)
      on rest true e =
          let first : 0 ≡ i = cc in
          omega (arith, first)
      on rest false e =
          let later = suc_of (place_of gs n) i e in
          let below : later.0 < length gs = rest later.0 later.1 in
          omega (arith, below, later.2)

  -- the places stay
  pub place_put : (i : ℕ) (gs : List (Group F)) (a : Asked F) (n : Text) → place_of (put_at i gs a) n ≡ place_of gs n
  place_put i [] a n = refl
  place_put zero (g ∷ gs) a n = refl
  place_put (suc i) (g ∷ gs) a n = ap (λ (o : Option ℕ). cond (bytes_eq g.first.ask.response n) (Some 0) (option_map suc o)) (place_put i gs a n)

  -- ---- a key that has none

  pub put_new : (gs : List (Group F)) (a : Asked F) → place_of gs a.ask.response ≡ None → with_asked gs a ≡ gs ++ alone a ∷ []
  put_new [] a e = refl
  put_new (g ∷ gs) a e = on (put_new gs a) (bytes_eq g.first.ask.response a.ask.response) e
    where
      on : (place_of gs a.ask.response ≡ None → with_asked gs a ≡ gs ++ alone a ∷ []) → (b : Bool)
          → cond b (Some 0) (option_map suc (place_of gs a.ask.response)) ≡ None → cond b (with_other g a ∷ gs) (g ∷ with_asked gs a) ≡ g ∷ gs ++ alone a ∷ []
      on rest true e = cc
      on rest false e = ap (λ hs. g ∷ hs) (rest (none_of (place_of gs a.ask.response) e))

  place_more : (gs : List (Group F)) (a : Asked F) (n : Text) → place_of (gs ++ alone a ∷ []) n ≡ or_place (place_of gs n) (bytes_eq a.ask.response n) (length gs)
  place_more [] a n = refl
  place_more (g ∷ gs) a n = on (place_more gs a n) (bytes_eq g.first.ask.response n)
    where
      on : place_of (gs ++ alone a ∷ []) n ≡ or_place (place_of gs n) (bytes_eq a.ask.response n) (length gs) → (b : Bool)
          → cond b (Some 0) (option_map suc (place_of (gs ++ alone a ∷ []) n)) ≡ or_place (cond b (Some 0) (option_map suc (place_of gs n))) (bytes_eq a.ask.response n) (suc (length gs))
      on rest true = refl
      on rest false = ap (option_map suc) rest ∙ or_place-suc (place_of gs n) (bytes_eq a.ask.response n) (length gs)

  -- the new group has the place behind the others
  pub place_new : (gs : List (Group F)) (a : Asked F) (n : Text) → place_of gs a.ask.response ≡ None
      → cond (bytes_eq a.ask.response n) (Some (length gs)) (place_of gs n) ≡ place_of (gs ++ alone a ∷ []) n
  place_new gs a n e = on (bytes_eq a.ask.response n) refl ∙ sym (place_more gs a n)
    where
      on : (b : Bool) → bytes_eq a.ask.response n ≡ b → cond b (Some (length gs)) (place_of gs n) ≡ or_place (place_of gs n) b (length gs)
      on true h = ap (λ o. or_place o true (length gs)) (sym (ap (place_of gs) (sym (same_text a.ask.response n h)) ∙ e))
      on false h = or_place-none (place_of gs n) (length gs)

  -- ---- one after another

  pub asked-append : (xs ys : List (Item F)) → asked_of (xs ++ ys) ≡ asked_of xs ++ asked_of ys
  asked-append [] ys = refl
  asked-append (asked a ∷ xs) ys = ap (λ more. a ∷ more) (asked-append xs ys)
  asked-append (pointed p ∷ xs) ys = asked-append xs ys

  pub grouped-append : (gs : List (Group F)) (xs ys : List (Asked F)) → grouped_onto gs (xs ++ ys) ≡ grouped_onto (grouped_onto gs xs) ys
  grouped-append gs [] ys = refl
  grouped-append gs (x ∷ xs) ys = grouped-append (with_asked gs x) xs ys

  -- one more item, and then the others
  pub grouped_next : (gs : List (Group F)) (one rest : List (Item F)) → grouped_onto (grouped_onto gs (asked_of one)) (asked_of rest) ≡ grouped_onto gs (asked_of (one ++ rest))
  grouped_next gs one rest = sym (grouped-append gs (asked_of one) (asked_of rest)) ∙ ap (grouped_onto gs) (sym (asked-append one rest))
