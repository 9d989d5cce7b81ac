-- The records of a map in memory: what look-ups, changes, copies and keys of the map are there.
use Rattle.std.proofs.Common.{◌≡◌, ℕ, Bool, true, false, cond, List, [], ◌∷◌, ◌++◌, map, Option, Some, None, String, string_bytes, Global, BTreeMap, Less, nat_cmp, refl, sym, ap, ◌∙◌, append-nil, length, arith}
use Rattle.std.proofs.lemmas.Map.Text.{is_eq-slice_cmp}
use Rattle.std.specs.Prelude.{option_map, bytes_eq}
use Rattle.std.specs.BTreeMap.{is_at, get_by_text}
use Rattle.std.specs.Cmp.Lexicographic.{slice_cmp, nat_list_cmp_total, nat_list_eq_equiv}
use Rattle.std.specs.FinMap.{find, put, empty, entries, get, insert, remove, keys, from_entries, entries-insert, len-entries, len-empty, get-insert, get-remove, get-from_entries, same_map, slice_cmp-IsAntisymmetric, nat_cmp-IsAntisymmetric}
use Rattle.std.specs.List.{AllByRecursion, AllZip}
use Rattle.std.specs.List.Sorted.{IsStrictlySortedBy}
use Rattle.std.specs.Map.{lookup, keys_of}
use Rattle.std.specs.Ordering.{eq_by_cmp}
use Rattle.std.specs.String.{string_cmp}
use Rattle.std.specs.declared.rc.Rc.{Rc}
use Rattle.store_tree.specs.gql_plain.Order.{AreInOrder}
use Rattle.store_record.specs.declared.record.Slot.{Slot}
use Rattle.store_tree.proofs.ByBytes.{sorted_keys}
use Rattle.store_tree.specs.Contents.{by_bytes}
use Rattle.store_source.specs.Entries.{pair_of, records_of}

abbrev Rows : Type 0
Rows = List (String Global × Rc Slot Global)

abbrev Held : Type 0
Held = BTreeMap (String Global) (Rc Slot Global)

abbrev pub slots_of : Option (Rc Slot Global) → Option Slot
slots_of = option_map (λ rc. rc.value)

-- ---- look-ups

found_by : (b : Bool) (rc : Rc Slot Global) (r : Option Slot) (s : Option (Rc Slot Global)) → r ≡ slots_of s → cond b (Some rc.value) r ≡ slots_of (cond b (Some rc) s)
found_by true rc r s e = refl
found_by false rc r s e = e

found : (q : List ℕ) (es : Rows) → find (slice_cmp nat_cmp) q (map pair_of es) ≡ slots_of (lookup (is_at (λ (k : String Global). slice_cmp nat_cmp q (string_bytes k))) es)
found q [] = refl
found q (e ∷ es) = found_by (eq_by_cmp (slice_cmp nat_cmp) q (string_bytes e.0)) e.1 _ _ (found q es)

pub slot_found : (m : Held) (q : List ℕ) → get (records_of m.entries) q ≡ slots_of (get_by_text m q)
slot_found m q = get-from_entries nat_list_cmp_total (map pair_of m.entries) q ∙ found q m.entries

-- ---- changes

over : (b : Bool) (w r : Option (Rc Slot Global)) → slots_of (cond b w r) ≡ cond b (slots_of w) (slots_of r)
over true w r = refl
over false w r = refl

pub ties : (id q : List ℕ) → bytes_eq id q ≡ eq_by_cmp (slice_cmp nat_cmp) q id
ties id q = nat_list_eq_equiv.symm id q ∙ sym (is_eq-slice_cmp q id)

module _ (m n : Held) (id : List ℕ) where
  changed : (w : Option (Rc Slot Global)) → ((q : List ℕ) → get_by_text n q ≡ cond (bytes_eq id q) w (get_by_text m q))
      → (q : List ℕ) → get (records_of n.entries) q ≡ cond (eq_by_cmp (slice_cmp nat_cmp) q id) (slots_of w) (get (records_of m.entries) q)
  changed w h q =
      slot_found n q ∙ ap slots_of (h q) ∙ over (bytes_eq id q) w (get_by_text m q)
      ∙ (λ i. cond (ties id q i) (slots_of w) (sym (slot_found m q) i))

  pub set_records : (rc : Rc Slot Global) (slot : Slot) → rc.value ≡ slot → ((q : List ℕ) → get_by_text n q ≡ cond (bytes_eq id q) (Some rc) (get_by_text m q))
      → records_of n.entries ≡ insert (records_of m.entries) id slot
  set_records rc slot same h =
      same_map nat_list_cmp_total (slice_cmp-IsAntisymmetric nat_cmp-IsAntisymmetric) _ _
      (λ q. changed (Some rc) h q
      ∙ ap (λ s. cond (eq_by_cmp (slice_cmp nat_cmp) q id) (Some s) (get (records_of m.entries) q)) same
      ∙ sym (get-insert nat_list_cmp_total (records_of m.entries) id slot q))

  pub unset_records : ((q : List ℕ) → get_by_text n q ≡ cond (bytes_eq id q) None (get_by_text m q)) → records_of n.entries ≡ remove (records_of m.entries) id
  unset_records h =
      same_map nat_list_cmp_total (slice_cmp-IsAntisymmetric nat_cmp-IsAntisymmetric) _ _
      (λ q. changed None h q ∙ sym (get-remove nat_list_cmp_total (records_of m.entries) id q))

-- ---- copies

same_pairs : (es fs : Rows) → AllZip (λ p q. (string_bytes q.0 ≡ string_bytes p.0) × (q.1.value ≡ p.1.value)) es fs → map pair_of fs ≡ map pair_of es
same_pairs [] [] h = refl
same_pairs [] (f ∷ fs) h = absurd h
same_pairs (e ∷ es) [] h = absurd h
same_pairs (e ∷ es) (f ∷ fs) h = λ i. (h.0.0 i, h.0.1 i) ∷ same_pairs es fs h.1 i

pub copied_records : (es fs : Rows) → AllZip (λ p q. (string_bytes q.0 ≡ string_bytes p.0) × (q.1.value ≡ p.1.value)) es fs → records_of fs ≡ records_of es
copied_records es fs h = ap from_entries (same_pairs es fs h)

-- ---- keys

below : (k : String Global) (ks : List (String Global)) → AllByRecursion (λ later. string_cmp k later ≡ Less) ks
    → AllByRecursion (λ later. slice_cmp nat_cmp (string_bytes k) later ≡ Less) (map string_bytes ks)
below k [] h = tt
below k (later ∷ ks) h = (h.0, below k ks h.1)

pub texts_in_order : (ks : List (String Global)) → IsStrictlySortedBy string_cmp ks → AreInOrder (map string_bytes ks)
unfolding IsStrictlySortedBy
texts_in_order [] h = tt
texts_in_order (k ∷ ks) h = (below k ks h.0, texts_in_order ks h.1)

texts_same : (es : Rows) → map string_bytes (keys_of es) ≡ map (λ pair. pair.0) (map pair_of es)
texts_same [] = refl
texts_same (e ∷ es) = ap (λ texts. string_bytes e.0 ∷ texts) (texts_same es)

pub no_length : (pairs : List (List ℕ × Slot)) → length pairs ≡ 0 → pairs ≡ []
no_length [] e = refl
no_length (pair ∷ pairs) e = absurd (omega arith)

none : entries {X = Slot} {R = slice_cmp nat_cmp} empty ≡ []
none = no_length _ (sym (len-entries (empty {X = Slot} {R = slice_cmp nat_cmp})) ∙ len-empty (slice_cmp nat_cmp) Slot)

pub entries_made : (pairs : List (List ℕ × Slot)) → entries (from_entries {R = slice_cmp nat_cmp} pairs) ≡ by_bytes pairs
entries_made [] = none
entries_made (pair ∷ pairs) = entries-insert nat_list_cmp_total (from_entries pairs) pair.0 pair.1 ∙ ap (put (slice_cmp nat_cmp) pair.0 pair.1) (entries_made pairs)

-- the keys of the records are those of the map
pub records_keys : (es : Rows) → IsStrictlySortedBy string_cmp (keys_of es) → map string_bytes (keys_of es) ≡ keys (records_of es)
records_keys es sorted =
    let texts = map string_bytes (keys_of es) in
    sorted_keys (map pair_of es) texts texts (texts_same es) (texts_in_order (keys_of es) sorted, λ text. (λ h. h, λ h. h))
    ∙ ap (map (λ pair. pair.0)) (sym (entries_made (map pair_of es)))

-- ---- going over the keys

pub texts_end : (done : List (List ℕ)) (left : List (String Global)) (all : List (List ℕ)) → left ≡ [] → done ++ map string_bytes left ≡ all → done ≡ all
texts_end done left all next h = sym (append-nil done) ∙ ap (λ ks. done ++ map string_bytes ks) (sym next) ∙ h
