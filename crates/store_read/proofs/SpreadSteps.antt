-- The first pointer to each fragment.
use Rattle.std.proofs.Common.{◌≡◌, ℕ, Bool, true, false, ◌||◌, cond, List, [], ◌∷◌, ◌++◌, append_assoc, append-nil, bytes_eq, Option, Some, is_some, refl, sym, ap, ◌∙◌}
use Rattle.std.proofs.lemmas.List.{map-append}
use Rattle.std.proofs.lemmas.Slice.Eq.{bytes_eq-Decides}
use Rattle.std.specs.Bool.{Decides}
use Rattle.plan_ir.specs.gql_plain.Order.{has_text}
use Rattle.plan_ir.specs.store_model.Items.{Item, asked, pointed, Pointer, without, pointers}
use Rattle.store_read.specs.Spreads.{fragments, pointers_onto, with_pointer}
use Rattle.plan_ir.specs.store_record.Keys.{Text}

same_answer : (a b : Text) → bytes_eq a b ≡ bytes_eq b a
same_answer a b = at (bytes_eq a b) (bytes_eq b a) (bytes_eq-Decides a b) (bytes_eq-Decides b a)
  where
    at : (x y : Bool) → Decides x (a ≡ b) → Decides y (b ≡ a) → x ≡ y
    at true true dx dy = refl
    at true false dx dy = sym (dy.1 (sym (dx.0 refl)))
    at false true dx dy = dx.1 (sym (dy.0 refl))
    at false false dx dy = refl

same_text : (a b : Text) → bytes_eq a b ≡ true → a ≡ b
same_text a b e = (bytes_eq-Decides a b).0 e

pub has_more : (ns : List Text) (n t : Text) → has_text (ns ++ n ∷ []) t ≡ (has_text ns t || bytes_eq n t)
has_more [] n t = or_false (bytes_eq n t)
  where
    or_false : (b : Bool) → (b || false) ≡ b
    or_false true = refl
    or_false false = refl
has_more (m ∷ ns) n t = ap (λ b. bytes_eq m t || b) (has_more ns n t) ∙ assoc (bytes_eq m t) (has_text ns t) (bytes_eq n t)
  where
    assoc : (a b c : Bool) → (a || (b || c)) ≡ ((a || b) || c)
    assoc true b c = refl
    assoc false b c = refl

-- one name more is known
pub known_more : (ns : List Text) (k n : Text) (count : ℕ) (old : Option ℕ) → is_some old ≡ has_text ns n → is_some (cond (bytes_eq k n) (Some count) old) ≡ has_text (ns ++ k ∷ []) n
known_more ns k n count old e = on (bytes_eq k n) refl ∙ sym (has_more ns k n)
  where
    or_true : (b : Bool) → true ≡ (b || true)
    or_true true = refl
    or_true false = refl

    or_false : (b : Bool) → b ≡ (b || false)
    or_false true = refl
    or_false false = refl

    on : (b : Bool) → bytes_eq k n ≡ b → is_some (cond b (Some count) old) ≡ (has_text ns n || b)
    on true h = or_true (has_text ns n)
    on false h = e ∙ or_false (has_text ns n)

module _ {F : Type 0} where
  -- those to none of these fragments
  abbrev others : List Text → List (Pointer F) → List (Pointer F)
  others ns [] = []
  others ns (q ∷ qs) = cond (has_text ns q.fragment) (others ns qs) (q ∷ others ns qs)

  others_none : (qs : List (Pointer F)) → others [] qs ≡ qs
  others_none [] = refl
  others_none (q ∷ qs) = ap (λ rest. q ∷ rest) (others_none qs)

  others_more : (ns : List Text) (n : Text) (qs : List (Pointer F)) → others (ns ++ n ∷ []) qs ≡ others ns (without n qs)
  others_more ns n [] = refl
  others_more ns n (q ∷ qs) =
      ap (λ b. cond b (others (ns ++ n ∷ []) qs) (q ∷ others (ns ++ n ∷ []) qs)) (has_more ns n q.fragment ∙ ap (λ b. has_text ns q.fragment || b) (same_answer n q.fragment))
      ∙ on (has_text ns q.fragment) refl (bytes_eq q.fragment n) (others_more ns n qs)
    where
      on : (h : Bool) → has_text ns q.fragment ≡ h → (b : Bool) → others (ns ++ n ∷ []) qs ≡ others ns (without n qs)
          → cond (h || b) (others (ns ++ n ∷ []) qs) (q ∷ others (ns ++ n ∷ []) qs) ≡ others ns (cond b (without n qs) (q ∷ without n qs))
      on true e true rest = rest
      on true e false rest = rest ∙ sym (ap (λ h. cond h (others ns (without n qs)) (q ∷ others ns (without n qs))) e)
      on false e true rest = rest
      on false e false rest = ap (λ more. q ∷ more) rest ∙ sym (ap (λ h. cond h (others ns (without n qs)) (q ∷ others ns (without n qs))) e)

  others_known : (ns : List Text) (n : Text) (qs : List (Pointer F)) → has_text ns n ≡ true → others ns (without n qs) ≡ others ns qs
  others_known ns n [] known = refl
  others_known ns n (q ∷ qs) known = on (bytes_eq q.fragment n) refl (others_known ns n qs known)
    where
      on : (b : Bool) → bytes_eq q.fragment n ≡ b → others ns (without n qs) ≡ others ns qs
          → others ns (cond b (without n qs) (q ∷ without n qs)) ≡ cond (has_text ns q.fragment) (others ns qs) (q ∷ others ns qs)
      on true e rest = rest ∙ sym (ap (λ h. cond h (others ns qs) (q ∷ others ns qs)) (ap (has_text ns) (same_text q.fragment n e) ∙ known))
      on false e rest = ap (λ more. cond (has_text ns q.fragment) more (q ∷ more)) rest

  onto_others : (ps : List (Pointer F)) (items : List (Item F)) → pointers_onto ps items ≡ ps ++ others (fragments ps) (pointers items)
  onto_others ps [] = sym (append-nil ps)
  onto_others ps (asked a ∷ items) = onto_others ps items
  onto_others ps (pointed p ∷ items) = on (has_text (fragments ps) p.fragment) refl (onto_others ps items) (onto_others (ps ++ p ∷ []) items)
    where
      rest : List (Pointer F)
      rest = pointers items

      on : (b : Bool) → has_text (fragments ps) p.fragment ≡ b → pointers_onto ps items ≡ ps ++ others (fragments ps) (pointers items)
          → pointers_onto (ps ++ p ∷ []) items ≡ (ps ++ p ∷ []) ++ others (fragments (ps ++ p ∷ [])) (pointers items)
          → pointers_onto (cond b ps (ps ++ p ∷ [])) items
          ≡ ps ++ cond (has_text (fragments ps) p.fragment) (others (fragments ps) (without p.fragment (pointers items))) (p ∷ others (fragments ps) (without p.fragment (pointers items)))
      on true e here more =
          here ∙ ap (λ qs. ps ++ qs) (sym (others_known (fragments ps) p.fragment (pointers items) e))
          ∙ sym (ap (λ h. ps ++ cond h (others (fragments ps) (without p.fragment (pointers items))) (p ∷ others (fragments ps) (without p.fragment (pointers items)))) e)
      on false e here more =
          more
          ∙ append_assoc ps (p ∷ []) (others (fragments (ps ++ p ∷ [])) (pointers items))
          ∙ ap (λ ns. ps ++ p ∷ others ns (pointers items)) (map-append (λ (q : Pointer F). q.fragment) ps (p ∷ []))
          ∙ ap (λ qs. ps ++ p ∷ qs) (others_more (fragments ps) p.fragment (pointers items))
          ∙ sym (ap (λ h. ps ++ cond h (others (fragments ps) (without p.fragment (pointers items))) (p ∷ others (fragments ps) (without p.fragment (pointers items)))) e)

  -- from none on they are the pointers among the items
  pub onto_none : (items : List (Item F)) → pointers_onto [] items ≡ pointers items
  onto_none items = onto_others [] items ∙ others_none (pointers items)

  pub onto-append : (ps : List (Pointer F)) (xs ys : List (Item F)) → pointers_onto ps (xs ++ ys) ≡ pointers_onto (pointers_onto ps xs) ys
  onto-append ps [] ys = refl
  onto-append ps (asked a ∷ xs) ys = onto-append ps xs ys
  onto-append ps (pointed p ∷ xs) ys = onto-append (with_pointer ps p) xs ys

  -- a pointer to a fragment that is known, and one to another
  pub pointer_known : (ps : List (Pointer F)) (p : Pointer F) → has_text (fragments ps) p.fragment ≡ true → ps ≡ with_pointer ps p
  pointer_known ps p e = sym (ap (λ b. cond b ps (ps ++ p ∷ [])) e)

  pub pointer_new : (ps : List (Pointer F)) (p : Pointer F) → has_text (fragments ps) p.fragment ≡ false → ps ++ p ∷ [] ≡ with_pointer ps p
  pointer_new ps p e = sym (ap (λ b. cond b ps (ps ++ p ∷ [])) e)
