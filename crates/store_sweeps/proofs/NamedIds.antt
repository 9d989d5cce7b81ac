-- The ids of rows of facts.
use Rattle.std.proofs.Common.{◌≡◌, Bool, true, false, true≢false, cond, ◌||◌, List, [], ◌∷◌, ◌++◌, map, Option, None, Some, Ordering, Less, Equal, Greater, append_assoc, bytes_eq, is_eq, refl, sym, ap, subst, ◌∙◌}
use Rattle.std.proofs.lemmas.Map.Text.{is_eq-slice_cmp}
use Rattle.std.proofs.lemmas.Slice.Eq.{bytes_eq-Decides}
use Rattle.std.specs.FinMap.Entries.{by_order, put as put_entry}
use Rattle.store_model.specs.gql_plain.Order.{has_text, member_at}
use Rattle.store_model.specs.gql_plain.declared.plain.Plain.{Plain}
use Rattle.store_model.specs.gql_plain.declared.plain.Plain.TheVariants.{Text as Words}
use Rattle.store_model.specs.store_record.Keys.{Text}
use Rattle.store_model.specs.store_record.declared.field.Field.{Field}
use Rattle.store_model.specs.store_record.declared.field.Field.TheVariants.{Leaf}
use Rattle.store_model.specs.Entries.{ids_in, named_by_facts, some_id, some_ids}
use Rattle.store_model.specs.FactOrder.{text_cmp}
use Rattle.store_model.specs.FactRows.{IsFactRow, fact_at, facts_of, facts_of_row}
use Rattle.store_model.specs.Leads.{ids_of_fields}
use Rattle.store_model.specs.Records.{typename}
use Rattle.store_model.specs.declared.facts.Fact.{Fact}
use Rattle.store_model.specs.declared.facts.FactRow.{FactRow}
use Rattle.store_sweeps.proofs.Written.{has_append}

abbrev IsThere : Option Field → Type 0
IsThere None = ⊥
IsThere (Some f) = Unit {0}

is_other : (b : Bool) (f : Field) (o : Option Field) → cond b (Some f) o ≡ None → b ≡ false
is_other true f o e = absurd (subst IsThere e tt)
is_other false f o e = refl

is_behind : (b : Bool) (f : Field) (o : Option Field) → b ≡ false → cond b (Some f) o ≡ None → o ≡ None
is_behind true f o e h = absurd (true≢false e)
is_behind false f o e h = h

same_text : (a b : Text) → text_cmp a b ≡ Equal → a ≡ b
same_text a b e = (bytes_eq-Decides a b).0 (sym (is_eq-slice_cmp a b) ∙ ap is_eq e)

pub named_append : (fs gs : List Fact) → named_by_facts (fs ++ gs) ≡ named_by_facts fs ++ named_by_facts gs
named_append [] gs = refl
named_append (f ∷ fs) gs = ap (λ ids. f.id ∷ ids) (ap (λ ids. ids_in f.value ++ ids) (named_append fs gs) ∙ sym (append_assoc (ids_in f.value) (named_by_facts fs) (named_by_facts gs)))

pub rows_cons : (r : FactRow) (rs : List FactRow) → named_by_facts (facts_of (r ∷ rs)) ≡ named_by_facts (facts_of_row r) ++ named_by_facts (facts_of rs)
rows_cons r rs = named_append (facts_of_row r) (facts_of rs)

pub some_cons : (o : Option Text) (os : List (Option Text)) → some_ids (o ∷ os) ≡ some_id o ++ some_ids os
some_cons None os = refl
some_cons (Some id) os = refl

-- ---- the facts of a row

abbrev links_of : List (Text × Field) → Text → Bool
links_of fs j = has_text (ids_of_fields fs) j

module _ (id j : Text) where
  abbrev named_of : List (Text × Field) → Bool
  named_of fs = has_text (named_by_facts (map (fact_at id) fs)) j

  -- beside the id of the row only the links count
  links_alone : bytes_eq id j ≡ false → (fs : List (Text × Field)) → named_of fs ≡ links_of fs j
  links_alone other [] = refl
  links_alone other (f ∷ fs) =
      ap (λ b. b || has_text (ids_in f.1 ++ named_by_facts (map (fact_at id) fs)) j) other
      ∙ has_append (ids_in f.1) (named_by_facts (map (fact_at id) fs)) j
      ∙ ap (λ b. has_text (ids_in f.1) j || b) (links_alone other fs)
      ∙ sym (has_append (ids_in f.1) (ids_of_fields fs) j)

  with_id : (fs : List (Text × Field)) → (bytes_eq id j || named_of fs) ≡ (bytes_eq id j || links_of fs j)
  with_id fs = at (bytes_eq id j) refl
    where
      at : (b : Bool) → bytes_eq id j ≡ b → (b || named_of fs) ≡ (b || links_of fs j)
      at true e = refl
      at false e = links_alone e fs

  -- one field more
  behind_id : (b : Bool) (here : List Text) (n l : Bool) → n ≡ (b || l) → (b || (has_text here j || n)) ≡ (b || (has_text here j || l))
  behind_id true here n l e = refl
  behind_id false here n l e = ap (λ x. has_text here j || x) e

  with_name : (key : Text) (value : Plain) (fs : List (Text × Field)) → member_at fs key ≡ None → named_of (put_entry text_cmp key (Leaf value) fs) ≡ (bytes_eq id j || links_of fs j)
  with_name key value [] apart = refl
  with_name key value (f ∷ fs) apart =
      let other = is_other (bytes_eq f.0 key) f.1 (member_at fs key) apart in
      at other (with_name key value fs (is_behind (bytes_eq f.0 key) f.1 (member_at fs key) other apart)) (text_cmp key f.0) refl
    where
      at : bytes_eq f.0 key ≡ false → named_of (put_entry text_cmp key (Leaf value) fs) ≡ (bytes_eq id j || links_of fs j)
          → (o : Ordering) → text_cmp key f.0 ≡ o
          → named_of (by_order o ((key, Leaf value) ∷ f ∷ fs) ((f.0, Leaf value) ∷ fs) (f ∷ put_entry text_cmp key (Leaf value) fs)) ≡ (bytes_eq id j || links_of (f ∷ fs) j)
      at other rest Less e = with_id (f ∷ fs)
      at other rest Equal e = absurd (true≢false (sym ((bytes_eq-Decides f.0 key).1 (sym (same_text key f.0 e))) ∙ other))
      at other rest Greater e =
          ap (λ b. bytes_eq id j || b) (has_append (ids_in f.1) (named_by_facts (map (fact_at id) (put_entry text_cmp key (Leaf value) fs))) j)
          ∙ behind_id (bytes_eq id j) (ids_in f.1) (named_of (put_entry text_cmp key (Leaf value) fs)) (links_of fs j) rest
          ∙ ap (λ b. bytes_eq id j || b) (sym (has_append (ids_in f.1) (ids_of_fields fs) j))

-- a row names its own id, and what its fields link to
pub row_named : (r : FactRow) (j : Text) → IsFactRow r → has_text (named_by_facts (facts_of_row r)) j ≡ (bytes_eq r.id j || has_text (ids_of_fields r.fields) j)
row_named r j row = with_name r.id j typename (Words r.type_name) r.fields row.apart
