-- Putting facts in order to rows.
use Rattle.std.proofs.Common.{◌≡◌, Bool, true, false, true≢false, cond, List, [], ◌∷◌, ◌++◌, map, Option, Some, None, Ordering, Less, Equal, Greater, is_eq, bytes_eq, refl, sym, ap, ◌∙◌, subst}
use Rattle.std.proofs.lemmas.Cmp.{nat_list_cmp_total, tied_itself}
use Rattle.std.proofs.lemmas.Map.Text.{is_eq-slice_cmp}
use Rattle.std.proofs.lemmas.Slice.Eq.{bytes_eq-Decides}
use Rattle.std.specs.FinMap.Entries.{put as put_entry, by_order}
use Rattle.std.specs.List.{AllByRecursion}
use Rattle.std.specs.Ordering.{ordering_reverse}
use Rattle.gql_order.specs.gql_plain.Order.{member_at}
use Rattle.gql_order.specs.gql_plain.declared.plain.Plain.TheVariants.{Text as Words}
use Rattle.store_model.specs.store_record.Keys.{Text}
use Rattle.store_model.specs.store_record.declared.field.Field.{Field}
use Rattle.store_model.specs.store_record.declared.field.Field.TheVariants.{Leaf}
use Rattle.store_model.specs.FactOrder.{text_cmp}
use Rattle.store_model.specs.FactRows.{fact_at}
use Rattle.store_model.specs.Records.{typename}
use Rattle.store_report.specs.Rows.{with_name, is_filled}

abbrev pub Entries : Type 0
Entries = List (Text × Field)

abbrev pub Below : Text → Entries → Type 0
Below key es = AllByRecursion (λ e. text_cmp e.0 key ≡ Less) es

not_itself : (key : Text) → text_cmp key key ≡ Less → ⊥
not_itself key e = true≢false (sym (ap is_eq (tied_itself nat_list_cmp_total key)) ∙ ap is_eq e)

turned : (a b : Text) → text_cmp a b ≡ Less → text_cmp b a ≡ Greater
turned a b e = nat_list_cmp_total.antisymm b a ∙ ap ordering_reverse e

pub same_text : (a b : Text) → text_cmp a b ≡ Equal → a ≡ b
same_text a b e = (bytes_eq-Decides a b).0 (sym (is_eq-slice_cmp a b) ∙ ap is_eq e)

-- ---- a key behind others

pub put_last : (key : Text) (value : Field) (es : Entries) → Below key es → put_entry text_cmp key value es ≡ es ++ (key, value) ∷ []
put_last key value [] all = refl
put_last key value (e ∷ es) all =
    ap (λ o. by_order o ((key, value) ∷ e ∷ es) ((e.0, value) ∷ es) (e ∷ put_entry text_cmp key value es)) (turned e.0 key all.0)
    ∙ ap (λ fs. e ∷ fs) (put_last key value es all.1)

-- what is below a key and what is put among it
below_parts : (low key : Text) (value : Field) (es : Entries) → Below key (put_entry text_cmp low value es) → (text_cmp low key ≡ Less) × Below key es
below_parts low key value [] all = (all.0, tt)
below_parts low key value (e ∷ es) all = at (text_cmp low e.0) refl all (below_parts low key value es)
  where
    at : (o : Ordering) → text_cmp low e.0 ≡ o → Below key (by_order o ((low, value) ∷ e ∷ es) ((e.0, value) ∷ es) (e ∷ put_entry text_cmp low value es))
        → (Below key (put_entry text_cmp low value es) → (text_cmp low key ≡ Less) × Below key es) → (text_cmp low key ≡ Less) × Below key (e ∷ es)
    at Less f h rest = h
    at Equal f h rest = (subst (λ t. text_cmp t key ≡ Less) (sym (same_text low e.0 f)) h.0, h)
    at Greater f h rest = ((rest h.1).0, (h.0, (rest h.1).1))

put_before : (low key : Text) (value last : Field) (es : Entries) → text_cmp low key ≡ Less
    → put_entry text_cmp low value (es ++ (key, last) ∷ []) ≡ put_entry text_cmp low value es ++ (key, last) ∷ []
put_before low key value last [] lt = ap (λ o. by_order o ((low, value) ∷ (key, last) ∷ []) ((key, value) ∷ []) ((key, last) ∷ (low, value) ∷ [])) lt
put_before low key value last (e ∷ es) lt = at (text_cmp low e.0) (put_before low key value last es lt)
  where
    at : (o : Ordering) → put_entry text_cmp low value (es ++ (key, last) ∷ []) ≡ put_entry text_cmp low value es ++ (key, last) ∷ []
        → by_order o ((low, value) ∷ e ∷ es ++ (key, last) ∷ []) ((e.0, value) ∷ es ++ (key, last) ∷ []) (e ∷ put_entry text_cmp low value (es ++ (key, last) ∷ []))
        ≡ by_order o ((low, value) ∷ e ∷ es) ((e.0, value) ∷ es) (e ∷ put_entry text_cmp low value es) ++ (key, last) ∷ []
    at Less rest = refl
    at Equal rest = refl
    at Greater rest = ap (λ fs. e ∷ fs) rest

pub field_last : (name : Option Text) (fields : Entries) (key : Text) (value : Field) → Below key (with_name name fields)
    → with_name name (put_entry text_cmp key value fields) ≡ with_name name fields ++ (key, value) ∷ []
field_last None fields key value all = put_last key value fields all
field_last (Some n) fields key value all =
    let parts = below_parts typename key (Leaf (Words n)) fields all in
    ap (put_entry text_cmp typename (Leaf (Words n))) (put_last key value fields parts.1)
    ∙ put_before typename key (Leaf (Words n)) value fields parts.0

pub name_last : (name : Option Text) (fields : Entries) (n : Text) → Below typename (with_name name fields)
    → with_name (Some n) fields ≡ with_name name fields ++ (typename, Leaf (Words n)) ∷ []
name_last None fields n all = put_last typename (Leaf (Words n)) fields all
name_last (Some m) fields n all = absurd (not_itself typename (below_parts typename typename (Leaf (Words m)) fields all).0)

-- ---- the name of the type stands for itself alone

pub apart_push : (fields : Entries) (key : Text) (value : Field) → bytes_eq key typename ≡ false → member_at fields typename ≡ None → member_at (fields ++ (key, value) ∷ []) typename ≡ None
apart_push [] key value e none = ap (λ b. cond b (Some value) None) e
apart_push (f ∷ fs) key value e none = at (bytes_eq f.0 typename) none (apart_push fs key value e)
  where
    at : (b : Bool) → cond b (Some f.1) (member_at fs typename) ≡ None → (member_at fs typename ≡ None → member_at (fs ++ (key, value) ∷ []) typename ≡ None)
        → cond b (Some f.1) (member_at (fs ++ (key, value) ∷ []) typename) ≡ None
    at true h rest = absurd (subst IsThere h tt)
      where
        IsThere : Option Field → Type 0
        IsThere None = ⊥
        IsThere (Some x) = Unit {0}
    at false h rest = rest h

-- ---- a fact behind an open row

pub shown_push : (id key : Text) (value : Field) (es : Entries) → map (fact_at id) (es ++ (key, value) ∷ []) ≡ map (fact_at id) es ++ fact_at id (key, value) ∷ []
shown_push id key value [] = refl
shown_push id key value (e ∷ es) = ap (λ fs. fact_at id e ∷ fs) (shown_push id key value es)

pub filled_push : (es : Entries) (e : Text × Field) → is_filled (es ++ e ∷ []) ≡ true
filled_push [] e = refl
filled_push (f ∷ es) e = refl

pub fields_below : (name : Option Text) (fields : Entries) (key : Text) → Below key (with_name name fields) → Below key fields
fields_below None fields key all = all
fields_below (Some n) fields key all = (below_parts typename key (Leaf (Words n)) fields all).1
