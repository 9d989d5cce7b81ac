-- Pairs in order around a place, and what a look-up, a put and a removal at the place of a key are.
use Rattle.std.proofs.Common.{◌≡◌, ℕ, ◌+◌, ◌<◌, T, List, [], ◌∷◌, ◌++◌, take, drop, length, get_or, set, Some, None, refl, sym, ap, ◌∙◌, subst, add-one}
use Rattle.std.specs.Prelude.{Ok, Err, insert, remove}
use Rattle.std.specs.declared.cmp.Ordering.TheVariants.{Less, Equal, Greater}
use Rattle.std.specs.FinMap.{find, put, is_sorted}
use Rattle.std.specs.FinMap.Entries.{by_order}
use Rattle.std.proofs.lemmas.List.{take-append-drop, drop_more, take_more, get_or_read, set_split}
use Rattle.store_tree.specs.Contents.{without_tied}
use Rattle.store_tree.specs.KeyOrder.{key_cmp}
use Rattle.store_tree.specs.Place.{Passes, Precedes, IsPlace}
use Rattle.store_tree.proofs.KeyOrder.{key_cmp_total, key_cmp-same}
use Rattle.store_tree.proofs.Order as order

passes_push : {V : Type 0} (key : List ℕ) (pairs : List (List ℕ × V)) (e : List ℕ × V) → Passes key_cmp key pairs → key_cmp key e.0 ≡ Greater → Passes key_cmp key (pairs ++ e ∷ [])
passes_push key [] e p g = (g, tt)
passes_push key (x ∷ xs) e p g = (p.0, passes_push key xs e p.1 g)

put-precedes : {V : Type 0} (key : List ℕ) (v : V) (pairs : List (List ℕ × V)) → Precedes key_cmp key pairs → put key_cmp key v pairs ≡ (key, v) ∷ pairs
put-precedes key v [] p = refl
put-precedes key v (x ∷ xs) p = ap (λ o. by_order o ((key, v) ∷ x ∷ xs) ((x.0, v) ∷ xs) (x ∷ put key_cmp key v xs)) p.0

module _ {V : Type 0} (pairs : List (List ℕ × V)) where
  -- the pair at a place, and those on either side of it
  parted : (at : ℕ) (e : List ℕ × V) → at < length pairs → e ≡ get_or pairs at e → take at pairs ++ e ∷ drop (at + 1) pairs ≡ pairs
  parted at e within read =
      ap (λ rest. take at pairs ++ rest) (ap (λ x. x ∷ drop (at + 1) pairs) read ∙ sym (drop_more pairs at e within)) ∙ take-append-drop at pairs

  module _ (key : List ℕ) (in_order : T (is_sorted key_cmp pairs)) where
    module _ (at : ℕ) (e : List ℕ × V) (within : at < length pairs) (read : e ≡ get_or pairs at e) where
      told : T (is_sorted key_cmp (take at pairs ++ e ∷ drop (at + 1) pairs))
      told = subst (λ ps. T (is_sorted key_cmp ps)) (sym (parted at e within read)) in_order

      -- a key below one of the pairs is below those after it too
      pub precedes-from : key_cmp key e.0 ≡ Less → Precedes key_cmp key (drop at pairs)
      precedes-from less =
          let rest = order.precedes_right key_cmp_total key (take at pairs) e (drop (at + 1) pairs) less told in
          subst (Precedes key_cmp key) (ap (λ x. x ∷ drop (at + 1) pairs) read ∙ sym (drop_more pairs at e within)) (less, rest)

      -- a key above one of the pairs is above those before it too
      pub passes-to : key_cmp key e.0 ≡ Greater → Passes key_cmp key (take (at + 1) pairs)
      passes-to greater =
          let front = order.passes_left key_cmp_total key (take at pairs) e (drop (at + 1) pairs) greater told in
          subst (Passes key_cmp key) (ap (λ x. take at pairs ++ x ∷ []) read ∙ sym (take_more pairs at e within)) (passes_push key (take at pairs) e front greater)

      pub ties-at : key_cmp key e.0 ≡ Equal → IsPlace key pairs (Ok at)
      ties-at equal = (within, λ d. subst (λ x. key_cmp key x.0 ≡ Equal) (get_or_read pairs at e within read d) equal)

      pub found-at : IsPlace key pairs (Ok at) → Some e.1 ≡ find key_cmp key pairs
      found-at place =
          let equal = subst (λ x. key_cmp key x.0 ≡ Equal) (sym read) (place.1 e) in
          sym (ap (find key_cmp key) (sym (parted at e within read)) ∙ order.find-middle key_cmp_total key (take at pairs) e (drop (at + 1) pairs) equal told)

      pub set-at : (v : V) → IsPlace key pairs (Ok at) → set pairs at (key, v) ≡ put key_cmp key v pairs
      set-at v place =
          let equal = subst (λ x. key_cmp key x.0 ≡ Equal) (sym read) (place.1 e) in
          let split : set pairs at (key, v) ≡ take at pairs ++ (key, v) ∷ drop (at + 1) pairs = set_split pairs at (key, v) within ∙ ap (λ n. take at pairs ++ (key, v) ∷ drop n pairs) (sym (add-one at)) in
          split
          ∙ ap (λ k. take at pairs ++ (k, v) ∷ drop (at + 1) pairs) (key_cmp-same key e.0 equal)
          ∙ sym (ap (put key_cmp key v) (sym (parted at e within read)) ∙ order.put-middle key_cmp_total key v (take at pairs) e (drop (at + 1) pairs) equal told)

      pub remove-at : IsPlace key pairs (Ok at) → remove pairs at ≡ without_tied key_cmp key pairs
      remove-at place =
          let equal = subst (λ x. key_cmp key x.0 ≡ Equal) (sym read) (place.1 e) in
          ap (λ n. take at pairs ++ drop n pairs) (sym (add-one at))
          ∙ sym (ap (without_tied key_cmp key) (sym (parted at e within read)) ∙ order.without-middle key_cmp_total key (take at pairs) e (drop (at + 1) pairs) equal told)

  module _ (key : List ℕ) (at : ℕ) (place : IsPlace key pairs (Err at)) where
    pub absent : find key_cmp key pairs ≡ None
    absent =
        ap (find key_cmp key) (sym (take-append-drop at pairs))
        ∙ order.find-passes key_cmp_total key (take at pairs) (drop at pairs) place.1
        ∙ order.find-precedes key_cmp_total key (drop at pairs) place.2

    pub insert-at : (v : V) → insert pairs at (key, v) ≡ put key_cmp key v pairs
    insert-at v =
        sym (ap (put key_cmp key v) (sym (take-append-drop at pairs))
        ∙ order.put-passes key_cmp_total key v (take at pairs) (drop at pairs) place.1
        ∙ ap (λ ps. take at pairs ++ ps) (put-precedes key v (drop at pairs) place.2))

    pub without-absent : pairs ≡ without_tied key_cmp key pairs
    without-absent =
        sym (ap (without_tied key_cmp key) (sym (take-append-drop at pairs))
        ∙ order.without-passes key_cmp_total key (take at pairs) (drop at pairs) place.1
        ∙ ap (λ ps. take at pairs ++ ps) (order.without-precedes key_cmp_total key (drop at pairs) place.2)
        ∙ take-append-drop at pairs)
