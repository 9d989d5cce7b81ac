-- The places of layers by their names.
use Rattle.std.proofs.Common.{◌≡◌, ℕ, suc, ◌+◌, ◌<◌, Bool, true, false, true≢false, cond, not, ◌||◌, List, [], ◌∷◌, ◌++◌, take, drop, length, Option, Some, None, is_some, String, string_bytes, Global, refl, sym, ap, ◌∙◌, subst, arith, bytes_eq, unwrap_or, nat_lt}
use Rattle.std.proofs.lemmas.List.{length-map}
use Rattle.std.proofs.lemmas.List.Quantifiers.{position-Some}
use Rattle.std.specs.List.{AllZip, position, position_or_len}
use Rattle.std.specs.Map.{keys_of, lookup}
use Rattle.std.specs.declared.rc.Rc.{Rc}
use Rattle.store_update.specs.store_record.Keys.{Text}
use Rattle.store_update.specs.store_model.declared.entry.Entry.{Entry}
use Rattle.store_layers.specs.Layered.{below, from_on, above, without, is_live}
use Rattle.store_layers.specs.Versions.{layer_of, layers_of, IsPlaceOf}

abbrev Named : Type 0
Named = List (String Global × Rc Entry Global)

-- ---- one layer more in front

module _ {X : Type 0} (x : X) (xs : List X) (k : ℕ) where
  take_one : take (1 + k) (x ∷ xs) ≡ x ∷ take k xs
  take_one = let e : 1 + k ≡ suc k = omega arith in ap (λ n. take n (x ∷ xs)) e

  drop_one : drop (1 + k) (x ∷ xs) ≡ drop k xs
  drop_one = let e : 1 + k ≡ suc k = omega arith in ap (λ n. drop n (x ∷ xs)) e

  drop_two : drop (1 + k + 1) (x ∷ xs) ≡ drop (k + 1) xs
  drop_two = let e : 1 + k + 1 ≡ suc (k + 1) = omega arith in ap (λ n. drop n (x ∷ xs)) e

  drop_first : drop (0 + 1) (x ∷ xs) ≡ xs
  drop_first = refl

  taken : (ys : List X) (b : Bool) → ys ≡ take k xs → cond b [] (x ∷ ys) ≡ take (cond (not b) (1 + k) 0) (x ∷ xs)
  taken ys true h = refl
  taken ys false h = ap (λ zs. x ∷ zs) h ∙ sym take_one

  left : (ys : List X) (b : Bool) → ys ≡ drop k xs → cond b (x ∷ xs) ys ≡ drop (cond (not b) (1 + k) 0) (x ∷ xs)
  left ys true h = refl
  left ys false h = h ∙ sym drop_one

  after : (ys : List X) (b : Bool) → ys ≡ drop (k + 1) xs → cond b xs ys ≡ drop (cond (not b) (1 + k) 0 + 1) (x ∷ xs)
  after ys true h = sym drop_first
  after ys false h = h ∙ sym drop_two

  others : (ys : List X) (b : Bool) → ys ≡ take k xs ++ drop (k + 1) xs
      → cond b xs (x ∷ ys) ≡ take (cond (not b) (1 + k) 0) (x ∷ xs) ++ drop (cond (not b) (1 + k) 0 + 1) (x ∷ xs)
  others ys true h = sym drop_first
  others ys false h = ap (λ zs. x ∷ zs) h ∙ (λ i. sym take_one i ++ sym drop_two i)

-- ---- the place of a name

module _ (name : Text) where
  abbrev test : String Global → Bool
  test k = bytes_eq name (string_bytes k)

  abbrev place : Named → ℕ
  place es = position_or_len test (keys_of es)

  below_is : (es : Named) → below name (layers_of es) ≡ take (place es) (layers_of es)
  below_is [] = refl
  below_is (e ∷ es) = taken (layer_of e) (layers_of es) (place es) (below name (layers_of es)) (test e.0) (below_is es)

  from_on_is : (es : Named) → from_on name (layers_of es) ≡ drop (place es) (layers_of es)
  from_on_is [] = refl
  from_on_is (e ∷ es) = left (layer_of e) (layers_of es) (place es) (from_on name (layers_of es)) (test e.0) (from_on_is es)

  above_is : (es : Named) → above name (layers_of es) ≡ drop (place es + 1) (layers_of es)
  above_is [] = refl
  above_is (e ∷ es) = after (layer_of e) (layers_of es) (place es) (above name (layers_of es)) (test e.0) (above_is es)

  without_is : (es : Named) → without name (layers_of es) ≡ take (place es) (layers_of es) ++ drop (place es + 1) (layers_of es)
  without_is [] = refl
  without_is (e ∷ es) = others (layer_of e) (layers_of es) (place es) (without name (layers_of es)) (test e.0) (without_is es)

  place_is : (es : Named) (i : ℕ) → i ≡ place es → i < length es → IsPlaceOf name (layers_of es) i
  place_is es i is within = subst (IsPlaceOf name (layers_of es)) (sym is) (record {
    within = subst (λ n. place es < n) (sym (length-map es layer_of)) (subst (λ n. n < length es) is within);
    below = below_is es;
    from_on = from_on_is es;
    above = above_is es;
    without = without_is es;
  })

  some_is : (b : Bool) (n i : ℕ) → cond b (Some n) None ≡ Some i → n ≡ i
  some_is true n i e = ap (λ (o : Option ℕ). unwrap_or o 0) e
  some_is false n i e = absurd (true≢false (sym (ap is_some e)))

  position_within : (es : Named) (i : ℕ) → position test (keys_of es) ≡ Some i → i < length es
  position_within [] i e = absurd (true≢false (sym (ap is_some e)))
  position_within (x ∷ es) i e =
      subst (λ n. i < n) (length-map (x ∷ es) (λ (p : String Global × Rc Entry Global). p.0)) (position-Some test (keys_of (x ∷ es)) i x.0 e).0

  pub position_is : (es : Named) (i : ℕ) → position test (keys_of es) ≡ Some i → IsPlaceOf name (layers_of es) i
  position_is es i e = place_is es i (sym (some_is (nat_lt (place es) (length (keys_of es))) (place es) i e)) (position_within es i e)

  found : (b : Bool) (x : Rc Entry Global) (o : Option (Rc Entry Global)) → is_some (cond b (Some x) o) ≡ (b || is_some o)
  found true x o = refl
  found false x o = refl

  pub is_some-lookup : (es : Named) → is_some (lookup test es) ≡ is_live (layers_of es) name
  is_some-lookup [] = refl
  is_some-lookup (e ∷ es) = found (test e.0) e.1 (lookup test es) ∙ ap (λ b. test e.0 || b) (is_some-lookup es)

  none_is : (o : Option (Rc Entry Global)) → is_some o ≡ false → o ≡ None
  none_is None h = refl
  none_is (Some x) h = absurd (true≢false h)

  pub absent : (es : Named) → is_live (layers_of es) name ≡ false → lookup test es ≡ None
  absent es h = none_is (lookup test es) (is_some-lookup es ∙ h)

-- ---- copies

pub same_layers : (es fs : Named) → AllZip (λ p q. (string_bytes q.0 ≡ string_bytes p.0) × (q.1.value ≡ p.1.value)) es fs → layers_of fs ≡ layers_of es
same_layers [] [] h = refl
same_layers [] (f ∷ fs) h = absurd h
same_layers (e ∷ es) [] h = absurd h
same_layers (e ∷ es) (f ∷ fs) h = λ i. (h.0.0 i, h.0.1 i) ∷ same_layers es fs h.1 i
