-- The row of an object, whole or torn, and what is held when it is put.
use Rattle.std.proofs.Common.{◌≡◌, Bool, true, false, List, [], ◌∷◌, ◌++◌, Some, None, append_assoc, append-nil, refl, sym, ap, ◌∙◌, subst, inl, inr}
use Rattle.std.specs.Map.{keys_of}
use Rattle.gql_order.specs.gql_plain.Names.{is_name}
use Rattle.gql_order.specs.gql_plain.Order.{AreInOrder, member_at}
use Rattle.gql_order.specs.gql_plain.declared.plain.Plain.TheVariants.{Text as Words}
use Rattle.store_model.specs.store_record.Equal.{entry_eq-Decides}
use Rattle.store_model.specs.store_record.Keys.{Text}
use Rattle.store_model.specs.store_record.declared.field.Field.{Field}
use Rattle.store_model.specs.store_record.declared.field.Field.TheVariants.{Leaf}
use Rattle.store_model.proofs.Seated.{among_map}
use Rattle.store_model.specs.Alike.{Among}
use Rattle.store_model.specs.FactRows.{fact_at, facts_of, facts_of_row}
use Rattle.store_model.specs.Records.{typename}
use Rattle.store_model.specs.declared.facts.Fact.{Fact}
use Rattle.store_model.specs.declared.facts.FactRow.{FactRow}
use Rattle.store_report.proofs.RowMembers.{apart_same, facts_push, same_map, same_object, same_row}
use Rattle.store_report.proofs.SameMembers.{same_append, same_refl, same_trans, swap_last}
use Rattle.store_report.proofs.TornFields.{values_differ}
use Rattle.store_report.specs.Joining.{begun_facts, torn_facts}
use Rattle.store_report.specs.ObjectRows.{HaveClash, HoldSame, IsWhole, object_facts}
use Rattle.store_report.specs.RowFields.{AreOthers, AreTorn, HasTypeKey, says_name}
use Rattle.store_report.specs.declared.object_row.BegunRow.{BegunRow}

abbrev Entries : Type 0
Entries = List (Text × Field)

-- ---- whole rows

pub row_whole : (r : FactRow) (given : Entries) → is_name r.type_name ≡ true → member_at given typename ≡ None → HoldSame r.fields given → AreInOrder (keys_of r.fields) → IsWhole r
row_whole r given named apart same order = record { row = record { named = named; apart = apart_same r.fields given same apart }; order = order }

pub row_same : (r : FactRow) (given : Entries) → IsWhole r → HoldSame r.fields given → HoldSame (facts_of_row r) (object_facts r.id r.type_name given)
row_same r given whole same =
    same_trans (facts_of_row r) (object_facts r.id r.type_name r.fields) (object_facts r.id r.type_name given) (same_row r whole.row) (same_object r.id r.type_name r.fields given same)

-- ---- torn rows

pub torn_clash : (id name : Text) (fields : Entries) → AreTorn fields → HaveClash (object_facts id name fields)
torn_clash id name fields t = record {
  one = fact_at id (t.key, t.one);
  other = fact_at id (t.key, t.other);
  here = inr (among_map (fact_at id) (t.key, t.one) fields t.here);
  there = inr (among_map (fact_at id) (t.key, t.other) fields t.there);
  id = refl;
  key = refl;
  differ = t.differ;
}

-- another type is named than that of the object
pub named_clash : (id name : Text) (left all : Entries) → AreOthers name left all → HasTypeKey left → HaveClash (object_facts id name left)
named_clash id name left all others typed = record {
  one = fact_at id (typename, typed.value);
  other = fact_at id (typename, Leaf (Words name));
  here = inr (among_map (fact_at id) (typename, typed.value) left typed.there);
  there = inl refl;
  id = refl;
  key = refl;
  differ = values_differ (typename, typed.value) (typename, Leaf (Words name)) refl ((others (typename, typed.value)).0 typed.there).1;
}

-- what says the name of the type stands before the fields all the same
pub others_same : (id name : Text) (left all : Entries) → AreOthers name left all → HoldSame (object_facts id name left) (object_facts id name all)
others_same id name left all others = same_map (fact_at id) (first ∷ left) (first ∷ all) (λ e. (there e, back e))
  where
    first : Text × Field
    first = (typename, Leaf (Words name))

    there : (e : Text × Field) → Among e (first ∷ left) → Among e (first ∷ all)
    there e (inl is) = inl is
    there e (inr h) = inr ((others e).0 h).0

    back : (e : Text × Field) → Among e (first ∷ all) → Among e (first ∷ left)
    back e (inl is) = inl is
    back e (inr h) = at (says_name name e) refl
      where
        at : (b : Bool) → says_name name e ≡ b → Among e (first ∷ left)
        at true said = inl (sym ((entry_eq-Decides e first).0 said))
        at false said = inr ((others e).1 h said)

-- ---- a row more

pub torn_push : (rows : List BegunRow) (b : BegunRow) → torn_facts (rows ++ b ∷ []) ≡ torn_facts rows ++ begun_facts (Some b)
torn_push [] b = append-nil (begun_facts (Some b))
torn_push (r ∷ rows) b = ap (λ fs. begun_facts (Some r) ++ fs) (torn_push rows b) ∙ sym (append_assoc (begun_facts (Some r)) (torn_facts rows) (begun_facts (Some b)))

pub whole_put : (rows : List FactRow) (torn : List BegunRow) (r : FactRow) (added : List Fact) → HoldSame (facts_of_row r) added
    → HoldSame (facts_of (rows ++ r ∷ []) ++ torn_facts torn) ((facts_of rows ++ torn_facts torn) ++ added)
whole_put rows torn r added same =
    let held = facts_of rows in
    let beside = torn_facts torn in
    subst (λ fs. HoldSame (fs ++ beside) ((held ++ beside) ++ added)) (sym (facts_push rows r))
    (same_trans ((held ++ facts_of_row r) ++ beside) ((held ++ beside) ++ facts_of_row r) ((held ++ beside) ++ added) (swap_last held (facts_of_row r) beside)
    (same_append (held ++ beside) (held ++ beside) (facts_of_row r) added (same_refl (held ++ beside)) same))

pub torn_put : (rows : List FactRow) (torn : List BegunRow) (b : BegunRow) (added : List Fact) → HoldSame (begun_facts (Some b)) added
    → HoldSame (facts_of rows ++ torn_facts (torn ++ b ∷ [])) ((facts_of rows ++ torn_facts torn) ++ added)
torn_put rows torn b added same =
    let held = facts_of rows in
    let beside = torn_facts torn in
    let more : held ++ torn_facts (torn ++ b ∷ []) ≡ (held ++ beside) ++ begun_facts (Some b)
    = ap (λ fs. held ++ fs) (torn_push torn b) ∙ sym (append_assoc held beside (begun_facts (Some b))) in
    subst (λ fs. HoldSame fs ((held ++ beside) ++ added)) (sym more) (same_append (held ++ beside) (held ++ beside) (begun_facts (Some b)) added (same_refl (held ++ beside)) same)
