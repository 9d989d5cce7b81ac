-- What the pairs of a tree are in byte order.
use Rattle.std.proofs.Common.{◌≡◌, ℕ, ◌+◌, cond, T, List, [], ◌∷◌, ◌++◌, ◌||◌, length, Some, None, refl, sym, ap, ◌∙◌, arith}
use Rattle.std.specs.Prelude.{not, is_some, bytes_eq}
use Rattle.std.specs.declared.cmp.Ordering.{Ordering}
use Rattle.std.specs.declared.cmp.Ordering.TheVariants.{Less, Equal, Greater}
use Rattle.std.specs.Ordering.{nat_cmp, is_eq, eq_by_cmp, match_ordering}
use Rattle.std.specs.Cmp.{IsTotalOrder, alike_right}
use Rattle.std.specs.Cmp.Lexicographic.{slice_cmp, nat_list_cmp_total}
use Rattle.std.specs.FinMap.{slice_cmp-IsAntisymmetric, nat_cmp-IsAntisymmetric}
use Rattle.std.specs.FinMap.Entries.{by_order, find, put, is_sorted, is_sorted-put, is_sorted-where_key, find-put, find-where_key, length-put, same_entries}
use Rattle.gql_plain.specs.Order.{AreSortedOf, has_text, with_text, sorted_texts}
use Rattle.gql_plain.proofs.SortedTexts.{AreSortedOf-is, has_text-Decides, has_text-sorted_texts}
use Rattle.store_tree.specs.Contents.{KeysRise, keys_of, without_key, without_tied, by_bytes}
use Rattle.store_tree.specs.KeyOrder.{key_cmp}
use Rattle.store_tree.proofs.KeyOrder.{key_cmp_total, tied_by_bytes}
use Rattle.store_tree.proofs.Order.{find-below, second, first}

abbrev bytes : List ℕ → List ℕ → Ordering
bytes = slice_cmp nat_cmp

alike : {R : List ℕ → List ℕ → Ordering} (o : IsTotalOrder R) (key q x : List ℕ) → R q x ≡ Equal → not (eq_by_cmp R key x) ≡ not (eq_by_cmp R key q)
alike o key q x t = ap (λ r. not (is_eq r)) (sym (alike_right o q x key t))

same_more : (more xs ys : List (List ℕ)) (text : List ℕ) → has_text xs text ≡ has_text ys text → has_text (more ++ xs) text ≡ has_text (more ++ ys) text
same_more [] xs ys text same = same
same_more (one ∷ more) xs ys text same = ap (λ b. bytes_eq one text || b) (same_more more xs ys text same)

module _ {V : Type 0} where
  pub KeysRise-by_bytes : (pairs : List (List ℕ × V)) → KeysRise (by_bytes pairs)
  KeysRise-by_bytes [] = tt
  KeysRise-by_bytes (e ∷ es) = is_sorted-put bytes nat_list_cmp_total e.0 e.1 (by_bytes es) (KeysRise-by_bytes es)

  -- a look-up finds the same in either order
  pub find-by_bytes : (q : List ℕ) (pairs : List (List ℕ × V)) → find key_cmp q pairs ≡ find bytes q (by_bytes pairs)
  find-by_bytes q [] = refl
  find-by_bytes q (e ∷ es) =
      (λ i. cond (tied_by_bytes q e.0 i) (Some e.1) (find-by_bytes q es i)) ∙ sym (find-put bytes nat_list_cmp_total q e.0 e.1 (by_bytes es))

  same_pairs : (ps qs : List (List ℕ × V)) → KeysRise ps → KeysRise qs → ((q : List ℕ) → find bytes q ps ≡ find bytes q qs) → ps ≡ qs
  same_pairs ps qs a b = same_entries bytes nat_list_cmp_total (slice_cmp-IsAntisymmetric nat_cmp-IsAntisymmetric) ps qs a b

  pub by_bytes-put : (key : List ℕ) (v : V) (pairs : List (List ℕ × V)) → by_bytes (put key_cmp key v pairs) ≡ put bytes key v (by_bytes pairs)
  by_bytes-put key v pairs =
      same_pairs _ _ (KeysRise-by_bytes (put key_cmp key v pairs)) (is_sorted-put bytes nat_list_cmp_total key v (by_bytes pairs) (KeysRise-by_bytes pairs))
      (λ q. sym (find-by_bytes q (put key_cmp key v pairs))
      ∙ find-put key_cmp key_cmp_total q key v pairs
      ∙ (λ i. cond (tied_by_bytes q key i) (Some v) (find-by_bytes q pairs i))
      ∙ sym (find-put bytes nat_list_cmp_total q key v (by_bytes pairs)))

  pub by_bytes-without : (key : List ℕ) (pairs : List (List ℕ × V)) → by_bytes (without_tied key_cmp key pairs) ≡ without_key key (by_bytes pairs)
  by_bytes-without key pairs =
      same_pairs _ _ (KeysRise-by_bytes (without_tied key_cmp key pairs)) (is_sorted-where_key bytes (λ x. not (eq_by_cmp bytes key x)) (by_bytes pairs) (KeysRise-by_bytes pairs))
      (λ q. sym (find-by_bytes q (without_tied key_cmp key pairs))
      ∙ find-where_key key_cmp (λ x. not (eq_by_cmp key_cmp key x)) q (λ x t. alike key_cmp_total key q x t) pairs
      ∙ (λ i. cond (not (tied_by_bytes key q i)) (find-by_bytes q pairs i) None)
      ∙ sym (find-where_key bytes (λ x. not (eq_by_cmp bytes key x)) q (λ x t. alike nat_list_cmp_total key q x t) (by_bytes pairs)))

  -- no pair is lost, since no key of the tree stands in it twice
  pub length-by_bytes : (pairs : List (List ℕ × V)) → T (is_sorted key_cmp pairs) → length (by_bytes pairs) ≡ length pairs
  length-by_bytes [] h = refl
  length-by_bytes (e ∷ es) h =
      let absent : find bytes e.0 (by_bytes es) ≡ None = sym (find-by_bytes e.0 es) ∙ find-below key_cmp e.0 es (first _ _ h) in
      let more : length es + 1 ≡ length (e ∷ es) = omega arith in
      length-put bytes nat_list_cmp_total e.0 e.1 (by_bytes es) (KeysRise-by_bytes es)
      ∙ ap (λ r. cond (is_some r) (length (by_bytes es)) (length (by_bytes es) + 1)) absent
      ∙ ap (λ n. n + 1) (length-by_bytes es (second _ _ h))
      ∙ more

  keys-put : (key : List ℕ) (v : V) (pairs : List (List ℕ × V)) → with_text key (keys_of pairs) ≡ keys_of (put bytes key v pairs)
  keys-put key v [] = refl
  keys-put key v (e ∷ es) = at (keys-put key v es) (bytes key e.0)
    where
      at : with_text key (keys_of es) ≡ keys_of (put bytes key v es) → (o : Ordering)
          → match_ordering o (key ∷ e.0 ∷ keys_of es) (e.0 ∷ keys_of es) (e.0 ∷ with_text key (keys_of es)) ≡ keys_of (by_order o ((key, v) ∷ e ∷ es) ((e.0, v) ∷ es) (e ∷ put bytes key v es))
      at rest Less = refl
      at rest Equal = refl
      at rest Greater = ap (λ ks. e.0 ∷ ks) rest

  keys-by_bytes : (pairs : List (List ℕ × V)) → sorted_texts (keys_of pairs) ≡ keys_of (by_bytes pairs)
  keys-by_bytes [] = refl
  keys-by_bytes (e ∷ es) = ap (with_text e.0) (keys-by_bytes es) ∙ keys-put e.0 e.1 (by_bytes es)

  -- the keys sorted
  pub sorted_keys : (pairs : List (List ℕ × V)) (texts sorted : List (List ℕ)) → texts ≡ keys_of pairs → AreSortedOf texts sorted → sorted ≡ keys_of (by_bytes pairs)
  sorted_keys pairs texts sorted is h = AreSortedOf-is texts sorted h ∙ ap sorted_texts is ∙ keys-by_bytes pairs

  -- the keys and further texts, sorted, in whichever order the keys stand
  pub sorted_with : (pairs : List (List ℕ × V)) (more texts sorted : List (List ℕ)) → texts ≡ more ++ keys_of pairs → AreSortedOf texts sorted → AreSortedOf (more ++ keys_of (by_bytes pairs)) sorted
  sorted_with pairs more texts sorted is h = (
    h.0,
    λ text.
        let all = more ++ keys_of (by_bytes pairs) in
        let keys : has_text (keys_of pairs) text ≡ has_text (keys_of (by_bytes pairs)) text = sym (has_text-sorted_texts (keys_of pairs) text) ∙ ap (λ ks. has_text ks text) (keys-by_bytes pairs) in
        let same : has_text texts text ≡ has_text all text = ap (λ ts. has_text ts text) is ∙ same_more more (keys_of pairs) (keys_of (by_bytes pairs)) text keys in (
          λ one. (has_text-Decides all text).0 (sym same ∙ (has_text-Decides texts text).1 ((h.1 text).0 one)),
          λ one. (h.1 text).1 ((has_text-Decides texts text).0 (same ∙ (has_text-Decides all text).1 one)),
        ),
  )
