-- Facts by rows: a row that stands after the others keeps the order, and putting its facts is putting the row.
use Rattle.std.proofs.Common.{◌≡◌, Bool, true, false, true≢false, cond, List, [], ◌∷◌, ◌++◌, map, Option, Some, None, Ordering, Less, Equal, Greater, refl, sym, ap, ◌∙◌, subst, append_assoc, bytes_eq, nat_cmp, is_eq, unwrap_or}
use Rattle.std.proofs.lemmas.Map.Text.{is_eq-slice_cmp}
use Rattle.std.specs.Cmp.Lexicographic.{slice_cmp, nat_list_cmp_total}
use Rattle.std.specs.FinMap as finmap
use Rattle.std.specs.FinMap.Entries.{by_order, put as put_entry}
use Rattle.std.specs.List.{AllByRecursion}
use Rattle.std.specs.Ordering.{eq_by_cmp}
use Rattle.std.proofs.lemmas.Slice.Eq.{bytes_eq-Decides}
use Rattle.std.specs.Bool.{Decides}
use Rattle.store_record.specs.gql_plain.Order.{member_at}
use Rattle.store_record.specs.gql_plain.declared.plain.Plain.TheVariants.{Text as Words}
use Rattle.store_record.specs.Keys.{Text}
use Rattle.store_record.specs.declared.field.Field.{Field}
use Rattle.store_record.specs.declared.field.Field.TheVariants.{Leaf}
use Rattle.store_record.specs.declared.record.Record.{Record}
use Rattle.store_record.specs.declared.record.Slot.{Slot}
use Rattle.store_record.specs.declared.record.Slot.TheVariants.{Alive}
use Rattle.store_model.proofs.Least.{each_append, each_left, each_right}
use Rattle.store_model.proofs.Sorted.{sorted-none, sorted-push}
use Rattle.store_model.specs.FactOrder.{text_cmp}
use Rattle.store_model.specs.FactRows.{fact_at, fields_of, facts_of_row, facts_of, IsFactRow, AreFactRows, IsRowAfter, with_fields, with_row, put_rows}
use Rattle.store_model.specs.Records.{Records, typename, live, alive, with_record, with_field, with_fact, name_given, record_of, put_fact, put}
use Rattle.store_model.specs.declared.facts.Fact.{Fact}
use Rattle.store_model.specs.declared.facts.FactRow.{FactRow}

-- ---- rows and their facts

pub facts_of-push : (rs : List FactRow) (r : FactRow) → facts_of (rs ++ r ∷ []) ≡ facts_of rs ++ facts_of_row r
facts_of-push [] r = nothing_after (facts_of_row r)
  where
    nothing_after : (fs : List Fact) → fs ++ [] ≡ fs
    nothing_after [] = refl
    nothing_after (f ∷ fs) = ap (λ gs. f ∷ gs) (nothing_after fs)
facts_of-push (s ∷ rs) r = ap (λ fs. facts_of_row s ++ fs) (facts_of-push rs r) ∙ sym (append_assoc (facts_of_row s) (facts_of rs) (facts_of_row r))

-- what holds of the id of each fact of a row holds of the row's
of_row : (P : Text → Type 0) (id key : Text) (value : Field) (fields : List (Text × Field)) → AllByRecursion (λ f. P f.id) (map (fact_at id) (put_entry text_cmp key value fields)) → P id
of_row P id key value [] h = h.0
of_row P id key value (e ∷ es) h = at (text_cmp key e.0) h
  where
    at : (o : Ordering) → AllByRecursion (λ f. P f.id) (map (fact_at id) (by_order o ((key, value) ∷ e ∷ es) ((e.0, value) ∷ es) (e ∷ put_entry text_cmp key value es))) → P id
    at Less h = h.0
    at Equal h = h.0
    at Greater h = h.0

of_rows : (P : Text → Type 0) (rs : List FactRow) → AllByRecursion (λ f. P f.id) (facts_of rs) → AllByRecursion (λ r. P r.id) rs
of_rows P [] h = tt
of_rows P (r ∷ rs) h =
    (of_row P r.id typename (Leaf (Words r.type_name)) r.fields (each_left (λ f. P f.id) (facts_of_row r) (facts_of rs) h), of_rows P rs (each_right (λ f. P f.id) (facts_of_row r) (facts_of rs) h))

pub rows-none : AreFactRows []
rows-none = record { order = sorted-none (λ a b. text_cmp a.id b.id); each = tt }

pub rows-push : (rs : List FactRow) (r : FactRow) → AreFactRows rs → IsFactRow r → IsRowAfter r (facts_of rs) → AreFactRows (rs ++ r ∷ [])
rows-push rs r rows is after = record {
  order = sorted-push (λ a b. text_cmp a.id b.id) rs r rows.order (of_rows (λ id. text_cmp id r.id ≡ Less) rs after);
  each = each_append IsFactRow rs (r ∷ []) rows.each (is, tt);
}

-- ---- facts of one id, put one after another

abbrev with_facts : List (Text × Field) → Text → Record → Record
with_facts [] id old = old
with_facts (f ∷ fs) id old = with_facts fs id (with_fact (fact_at id f) old)

pub inserted_twice : (m : Records) (id : Text) (a b : Slot) → finmap.insert (finmap.insert m id a) id b ≡ finmap.insert m id b
inserted_twice m id a b =
    finmap.same_map nat_list_cmp_total (finmap.slice_cmp-IsAntisymmetric finmap.nat_cmp-IsAntisymmetric) (finmap.insert (finmap.insert m id a) id b) (finmap.insert m id b) (λ q.
    finmap.get-insert nat_list_cmp_total (finmap.insert m id a) id b q
    ∙ ap (λ o. cond (eq_by_cmp (slice_cmp nat_cmp) q id) (Some b) o) (finmap.get-insert nat_list_cmp_total m id a q)
    ∙ once (eq_by_cmp (slice_cmp nat_cmp) q id) (finmap.get m q)
    ∙ sym (finmap.get-insert nat_list_cmp_total m id b q))
  where
    once : (c : Bool) (o : Option Slot) → cond c (Some b) (cond c (Some a) o) ≡ cond c (Some b) o
    once true o = refl
    once false o = refl

live_inserted : (m : Records) (id : Text) (r : Record) → live id (with_record id r m) ≡ Some r
live_inserted m id r =
    ap (λ s. at s) (finmap.get-insert nat_list_cmp_total m id (Alive r) id)
    ∙ ap (λ c. at (cond c (Some (Alive r)) (finmap.get m id))) (is_eq-slice_cmp id id ∙ (bytes_eq-Decides id id).1 refl)
  where
    at : Option Slot → Option Record
    at None = None
    at (Some s) = alive s

put_more : (id : Text) (fs : List (Text × Field)) (old : Record) (m : Records) → put (map (fact_at id) fs) (with_record id old m) ≡ with_record id (with_facts fs id old) m
put_more id [] old m = refl
put_more id (f ∷ fs) old m =
    ap (λ o. put (map (fact_at id) fs) (with_record id (with_fact (fact_at id f) (unwrap_or o (record_of []))) (with_record id old m))) (live_inserted m id old)
    ∙ ap (put (map (fact_at id) fs)) (inserted_twice m id (Alive old) (Alive (with_fact (fact_at id f) old)))
    ∙ put_more id fs (with_fact (fact_at id f) old) m

-- ---- the facts of a row

-- the type's name is under no key of these fields
abbrev Apart : List (Text × Field) → Type 0
Apart fs = member_at fs typename ≡ None

abbrev IsThere : Option Field → Type 0
IsThere None = ⊥
IsThere (Some f) = Unit {0}

apart_first : (b : Bool) (f : Field) (o : Option Field) → cond b (Some f) o ≡ None → b ≡ false
apart_first true f o e = absurd (subst IsThere e tt)
apart_first false f o e = refl

apart_rest : (b : Bool) (f : Field) (o : Option Field) → b ≡ false → cond b (Some f) o ≡ None → o ≡ None
apart_rest true f o e h = absurd (true≢false e)
apart_rest false f o e h = h

fields_only : (id : Text) (fs : List (Text × Field)) (old : Record) → Apart fs → with_facts fs id old ≡ record { type_name = old.type_name; fields = with_fields fs old.fields }
fields_only id [] old apart = refl
fields_only id (f ∷ fs) old apart =
    let other = apart_first (bytes_eq f.0 typename) f.1 (member_at fs typename) apart in
    ap (λ b. with_facts fs id (cond {A = Record} b (record { type_name = name_given f.1; fields = old.fields }) (with_field f.0 f.1 old))) other
    ∙ fields_only id fs (with_field f.0 f.1 old) (apart_rest (bytes_eq f.0 typename) f.1 (member_at fs typename) other apart)

apart_tied : (key : Text) (o : Ordering) → text_cmp typename key ≡ o → bytes_eq key typename ≡ false → is_eq o ≡ false
apart_tied key o e other = sym (ap is_eq e) ∙ is_eq-slice_cmp typename key ∙ turned (bytes_eq key typename) (bytes_eq typename key) (bytes_eq-Decides key typename) (bytes_eq-Decides typename key) other
  where
    turned : (a b : Bool) → Decides a (key ≡ typename) → Decides b (typename ≡ key) → a ≡ false → b ≡ false
    turned a true da db e = absurd (true≢false (sym (da.1 (sym (db.0 refl))) ∙ e))
    turned a false da db e = refl

-- the type's name is put among the fields, and the record has it
with_name : (id name : Text) (fs : List (Text × Field)) (old : Record) → Apart fs
    → with_facts (put_entry text_cmp typename (Leaf (Words name)) fs) id old ≡ record { type_name = name; fields = with_fields fs old.fields }
with_name id name [] old apart = refl
with_name id name (f ∷ fs) old apart =
    let other = apart_first (bytes_eq f.0 typename) f.1 (member_at fs typename) apart in
    at other (with_name id name fs (with_field f.0 f.1 old) (apart_rest (bytes_eq f.0 typename) f.1 (member_at fs typename) other apart)) (text_cmp typename f.0) refl
  where
    at : bytes_eq f.0 typename ≡ false
        → with_facts (put_entry text_cmp typename (Leaf (Words name)) fs) id (with_field f.0 f.1 old) ≡ record { type_name = name; fields = with_fields fs (with_field f.0 f.1 old).fields }
        → (o : Ordering) → text_cmp typename f.0 ≡ o
        → with_facts (by_order o ((typename, Leaf (Words name)) ∷ f ∷ fs) ((f.0, Leaf (Words name)) ∷ fs) (f ∷ put_entry text_cmp typename (Leaf (Words name)) fs)) id old
        ≡ record { type_name = name; fields = with_fields (f ∷ fs) old.fields }
    at other rest Less e = fields_only id (f ∷ fs) (record { type_name = name; fields = old.fields }) apart
    at other rest Equal e = absurd (true≢false (apart_tied f.0 Equal e other))
    at other rest Greater e =
        ap (λ b. with_facts (put_entry text_cmp typename (Leaf (Words name)) fs) id (cond {A = Record} b (record { type_name = name_given f.1; fields = old.fields }) (with_field f.0 f.1 old))) other
        ∙ rest

-- ---- putting a row

put_append : (fs gs : List Fact) (m : Records) → put (fs ++ gs) m ≡ put gs (put fs m)
put_append [] gs m = refl
put_append (f ∷ fs) gs m = put_append fs gs (put_fact f m)

-- facts of one id, the first of them there
put_first : (id : Text) (fs : List (Text × Field)) (m : Records) → (fs ≡ [] → ⊥) → put (map (fact_at id) fs) m ≡ with_record id (with_facts fs id (unwrap_or (live id m) (record_of []))) m
put_first id [] m there = absurd (there refl)
put_first id (f ∷ fs) m there = put_more id fs (with_fact (fact_at id f) (unwrap_or (live id m) (record_of []))) m

abbrev IsCons : List (Text × Field) → Type 0
IsCons [] = ⊥
IsCons (y ∷ ys) = Unit {0}

entry_there : (key : Text) (value : Field) (fs : List (Text × Field)) → put_entry text_cmp key value fs ≡ [] → ⊥
entry_there key value [] e = subst IsCons e tt
entry_there key value (f ∷ fs) e = at (text_cmp key f.0) e
  where
    at : (o : Ordering) → by_order o ((key, value) ∷ f ∷ fs) ((f.0, value) ∷ fs) (f ∷ put_entry text_cmp key value fs) ≡ [] → ⊥
    at Less e = subst IsCons e tt
    at Equal e = subst IsCons e tt
    at Greater e = subst IsCons e tt

put_row : (r : FactRow) (m : Records) → IsFactRow r → put (facts_of_row r) m ≡ with_row r m
put_row r m is =
    put_first r.id (fields_of r) m (entry_there typename (Leaf (Words r.type_name)) r.fields)
    ∙ ap (λ q. with_record r.id q m) (with_name r.id r.type_name r.fields (unwrap_or (live r.id m) (record_of [])) is.apart)

-- putting the facts of rows is putting the first row, and then the facts of the others
pub put_facts_of : (r : FactRow) (rs : List FactRow) (m : Records) → IsFactRow r → put (facts_of (r ∷ rs)) m ≡ put (facts_of rs) (with_row r m)
put_facts_of r rs m is = put_append (facts_of_row r) (facts_of rs) m ∙ ap (put (facts_of rs)) (put_row r m is)

-- so it is putting all rows
pub put_rows_is : (rs : List FactRow) (m : Records) → AllByRecursion IsFactRow rs → put (facts_of rs) m ≡ put_rows rs m
put_rows_is [] m each = refl
put_rows_is (r ∷ rs) m each = put_facts_of r rs m each.0 ∙ put_rows_is rs (with_row r m) each.1
