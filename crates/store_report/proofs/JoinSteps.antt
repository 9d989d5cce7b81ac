-- Rows of one id are joined to one: what is held at each step.
use Rattle.std.proofs.Common.{◌≡◌, false, List, [], ◌∷◌, ◌++◌, Option, Some, None, bytes_eq, append_assoc, refl, sym, subst, inl}
use Rattle.std.proofs.lemmas.List.{append-nil}
use Rattle.std.specs.List.{dedup}
use Rattle.std.specs.List.Sorted.{IsPermutation, IsSorted, IsStrictlySortedBy}
use Rattle.std.specs.Map.{keys_of}
use Rattle.gql_order.specs.gql_plain.Order.{AreInOrder}
use Rattle.gql_order.specs.gql_plain.declared.plain.Plain.TheVariants.{Text as Words}
use Rattle.store_model.specs.store_record.Keys.{Text}
use Rattle.store_model.specs.store_record.declared.field.Field.{Field}
use Rattle.store_model.specs.store_record.declared.field.Field.TheVariants.{Leaf}
use Rattle.store_model.proofs.Least.{Each}
use Rattle.store_model.proofs.Seated.{among_left, among_right}
use Rattle.store_model.specs.Alike.{Among}
use Rattle.store_model.specs.FactOrder.{text_cmp}
use Rattle.store_model.specs.FactRows.{AreFactRows, HaveFieldsInOrder, IsFactRow, fact_at, facts_of, facts_of_row}
use Rattle.store_model.specs.Records.{typename}
use Rattle.store_model.specs.declared.facts.FactRow.{FactRow}
use Rattle.store_report.proofs.ClashSteps.{clash_more, unjoined_more}
use Rattle.store_report.proofs.JoinOrder.{DoNotFall, IsPlaced, not_falling, placed_at}
use Rattle.store_report.proofs.RowMembers.{apart_same, each_weaker, row_eq-Decides, same_dedup, same_moved, same_object, same_row}
use Rattle.store_report.proofs.SameMembers.{same_append, same_refl, same_trans}
use Rattle.store_report.proofs.TornRows.{torn_clash}
use Rattle.store_report.specs.Joining.{IsApart, IsBegunApart, IsBegunAt, begun_facts, row_eq}
use Rattle.store_report.specs.ObjectRows.{HaveClash, HoldSame, IsUnjoined, IsWhole, object_facts}
use Rattle.store_report.specs.RowFields.{AreTorn}
use Rattle.store_report.specs.declared.object_row.BegunRow.{BegunRow}
use Rattle.store_report.specs.declared.untaken.Untaken.{Untaken}

-- ---- rows that are whole

pub are_rows : (rows : List FactRow) → IsStrictlySortedBy (λ a b. text_cmp a.id b.id) rows → Each IsWhole rows → AreFactRows rows
are_rows rows up all = record { order = up; each = each_weaker IsWhole IsFactRow (λ r whole. whole.row) rows all }

pub fields_rise : (rows : List FactRow) → Each IsWhole rows → HaveFieldsInOrder rows
fields_rise rows all = each_weaker IsWhole (λ r. AreInOrder (keys_of r.fields)) (λ r whole. whole.order) rows all

pub once_same : (given kept : List FactRow) → kept ≡ dedup row_eq given → HoldSame kept given
once_same given kept once = subst (λ rs. HoldSame rs given) (sym once) (same_dedup row_eq row_eq-Decides given)

pub twice_same : (given few moved last : List FactRow) → HoldSame few given → IsPermutation few moved → HoldSame last moved → HoldSame last given
twice_same given few moved last first is second = same_trans last moved given second (same_trans moved few given (same_moved few moved is) first)

-- ---- what clashes

-- two types of one id
pub two_types : (before : BegunRow) (row : FactRow) → before.id ≡ row.id → IsFactRow row → bytes_eq before.type_name row.type_name ≡ false
    → HaveClash (begun_facts (Some before) ++ facts_of_row row)
two_types before row same is differ =
    let one = fact_at before.id (typename, Leaf (Words before.type_name)) in
    let other = fact_at row.id (typename, Leaf (Words row.type_name)) in
    record {
      one = one;
      other = other;
      here = among_left one (begun_facts (Some before)) (facts_of_row row) (inl refl);
      there = among_right other (begun_facts (Some before)) (facts_of_row row) ((same_row row is other).1 (inl refl));
      id = same;
      key = refl;
      differ = differ;
    }

-- two values of one key of a row
pub apart_clash : (row : BegunRow) (torn : List (Text × Field)) → HoldSame torn row.fields.items → AreTorn torn → HaveClash (begun_facts (Some row))
apart_clash row torn same t =
    clash_more (object_facts row.id row.type_name torn) (begun_facts (Some row)) (λ f. (same_object row.id row.type_name torn row.fields.items same f).0)
    (torn_clash row.id row.type_name torn t)

-- the fields of a row do not clash
pub row_done : (row : BegunRow) (fields : List (Text × Field)) → IsApart row → HoldSame fields row.fields.items → AreInOrder (keys_of fields)
    → IsWhole (record { id = row.id; type_name = row.type_name; fields = fields })
row_done row fields apart same order =
    record { row = record { named = apart.name; apart = apart_same fields row.fields.items same apart.fields }; order = order }

-- ---- one row more

-- it is put to the one that is begun
pub put_same : (whole : List FactRow) (begun : Option BegunRow) (before after : BegunRow) (row : FactRow) → begun ≡ Some before
    → HoldSame (begun_facts (Some after)) (begun_facts (Some before) ++ facts_of_row row)
    → HoldSame (facts_of whole ++ begun_facts (Some after)) ((facts_of whole ++ begun_facts begun) ++ facts_of_row row)
put_same whole begun before after row is same =
    let held = facts_of whole in
    let now = begun_facts (Some after) in
    subst (λ b. HoldSame (held ++ now) ((held ++ begun_facts b) ++ facts_of_row row)) (sym is)
    (subst (λ fs. HoldSame (held ++ now) fs) (sym (append_assoc held (begun_facts (Some before)) (facts_of_row row)))
    (same_append held held now (begun_facts (Some before) ++ facts_of_row row) (same_refl held) same))

-- the one that is begun is done, and another one begins
pub next_same : (whole more : List FactRow) (begun : Option BegunRow) (done next : BegunRow) (row : FactRow) → begun ≡ Some done
    → HoldSame (facts_of more) (facts_of whole ++ begun_facts (Some done))
    → HoldSame (begun_facts (Some next)) (facts_of_row row)
    → HoldSame (facts_of more ++ begun_facts (Some next)) ((facts_of whole ++ begun_facts begun) ++ facts_of_row row)
next_same whole more begun done next row is closed same =
    subst (λ b. HoldSame (facts_of more ++ begun_facts (Some next)) ((facts_of whole ++ begun_facts b) ++ facts_of_row row)) (sym is)
    (same_append (facts_of more) (facts_of whole ++ begun_facts (Some done)) (begun_facts (Some next)) (facts_of_row row) closed same)

-- the first one begins
pub first_same : (whole : List FactRow) (begun : Option BegunRow) (next : BegunRow) (row : FactRow) → begun ≡ None
    → HoldSame (begun_facts (Some next)) (facts_of_row row)
    → HoldSame (facts_of whole ++ begun_facts (Some next)) ((facts_of whole ++ begun_facts begun) ++ facts_of_row row)
first_same whole begun next row is same =
    let held = facts_of whole in
    subst (λ b. HoldSame (held ++ begun_facts (Some next)) ((held ++ begun_facts b) ++ facts_of_row row)) (sym is)
    (subst (λ fs. HoldSame (held ++ begun_facts (Some next)) (fs ++ facts_of_row row)) (sym (append-nil held))
    (same_append held held (begun_facts (Some next)) (facts_of_row row) (same_refl held) same))

-- the row clashes with the one that is begun
pub put_clash : (whole : List FactRow) (begun : Option BegunRow) (before : BegunRow) (row : FactRow) (cause : Untaken) → begun ≡ Some before
    → IsUnjoined (begun_facts (Some before) ++ facts_of_row row) cause → IsUnjoined ((facts_of whole ++ begun_facts begun) ++ facts_of_row row) cause
put_clash whole begun before row cause is h =
    let held = facts_of whole in
    let now = begun_facts (Some before) in
    subst (λ b. IsUnjoined ((held ++ begun_facts b) ++ facts_of_row row) cause) (sym is)
    (unjoined_more (now ++ facts_of_row row) ((held ++ now) ++ facts_of_row row)
    (λ f in'. subst (λ fs. Among f fs) (sym (append_assoc held now (facts_of_row row))) (among_right f held (now ++ facts_of_row row) in')) cause h)

-- the one that is begun clashes with itself
pub done_clash : (whole : List FactRow) (begun : Option BegunRow) (done : BegunRow) (row : FactRow) (cause : Untaken) → begun ≡ Some done
    → IsUnjoined (begun_facts (Some done)) cause → IsUnjoined ((facts_of whole ++ begun_facts begun) ++ facts_of_row row) cause
done_clash whole begun done row cause is h =
    let held = facts_of whole in
    let now = begun_facts (Some done) in
    subst (λ b. IsUnjoined ((held ++ begun_facts b) ++ facts_of_row row) cause) (sym is)
    (unjoined_more now ((held ++ now) ++ facts_of_row row) (λ f in'. among_left f (held ++ now) (facts_of_row row) (among_right f held now in')) cause h)

-- ---- all rows

-- rows that are done, one that is begun, and the rows that are left
pub record Merging (all whole : List FactRow) (begun : Option BegunRow) (rest : List FactRow) : Type 0 where
  pub same : HoldSame ((facts_of whole ++ begun_facts begun) ++ facts_of rest) (facts_of all)
  pub whole_rows : Each IsWhole whole
  pub apart : IsBegunApart begun
  pub left : Each IsWhole rest
  pub order : DoNotFall rest
  pub placed : IsPlaced whole begun rest

pub merging_start : (all whole rest : List FactRow) → whole ≡ [] → rest ≡ all → Each IsWhole all → IsSorted (λ a b. text_cmp a.id b.id) all → Merging all whole None rest
merging_start all whole rest none same each up =
    subst (λ w. Merging all w None rest) (sym none)
    (subst (λ rs. Merging all [] None rs) (sym same) (record { same = same_refl (facts_of all); whole_rows = tt; apart = tt; left = each; order = not_falling all up; placed = refl }))

pub merging_next : (all whole more : List FactRow) (begun next : Option BegunRow) (row : FactRow) (rest : List FactRow) → Merging all whole begun (row ∷ rest)
    → Each IsWhole more → IsBegunApart next → IsBegunAt more next row.id → HoldSame (facts_of more ++ begun_facts next) ((facts_of whole ++ begun_facts begun) ++ facts_of_row row) → Merging all more next rest
merging_next all whole more begun next row rest m each apart at step =
    let before = facts_of whole ++ begun_facts begun in
    let after = facts_of more ++ begun_facts next in
    record {
      same =
          same_trans (after ++ facts_of rest) ((before ++ facts_of_row row) ++ facts_of rest) (facts_of all)
          (same_append after (before ++ facts_of_row row) (facts_of rest) (facts_of rest) step (same_refl (facts_of rest)))
          (subst (λ fs. HoldSame fs (facts_of all)) (sym (append_assoc before (facts_of_row row) (facts_of rest))) m.same);
      whole_rows = each;
      apart = apart;
      left = m.left.1;
      order = m.order.1;
      placed = placed_at more next row rest m.order.0 at;
    }

-- no row is left
pub merging_gone : (all whole : List FactRow) (begun last : Option BegunRow) (rest : List FactRow) → rest ≡ [] → begun ≡ last → Merging all whole begun rest → Merging all whole last []
merging_gone all whole begun last rest gone is m = subst (λ b. Merging all whole b []) is (subst (λ rs. Merging all whole begun rs) gone m)

pub merging_end : (all whole : List FactRow) (begun : Option BegunRow) → Merging all whole begun [] → HoldSame (facts_of whole ++ begun_facts begun) (facts_of all)
merging_end all whole begun m = subst (λ fs. HoldSame fs (facts_of all)) (append-nil (facts_of whole ++ begun_facts begun)) m.same

pub merged_none : (all whole : List FactRow) → Merging all whole None [] → HoldSame (facts_of whole) (facts_of all)
merged_none all whole m = subst (λ fs. HoldSame fs (facts_of all)) (append-nil (facts_of whole)) (merging_end all whole None m)

pub merged_last : (all whole more : List FactRow) (last : BegunRow) → Merging all whole (Some last) [] → HoldSame (facts_of more) (facts_of whole ++ begun_facts (Some last))
    → HoldSame (facts_of more) (facts_of all)
merged_last all whole more last m closed = same_trans (facts_of more) (facts_of whole ++ begun_facts (Some last)) (facts_of all) closed (merging_end all whole (Some last) m)

-- what clashes at a row clashes among all
pub merging_clash : (all whole : List FactRow) (begun : Option BegunRow) (row : FactRow) (rest : List FactRow) (cause : Untaken) → Merging all whole begun (row ∷ rest)
    → IsUnjoined ((facts_of whole ++ begun_facts begun) ++ facts_of_row row) cause → IsUnjoined (facts_of all) cause
merging_clash all whole begun row rest cause m h =
    let before = facts_of whole ++ begun_facts begun in
    unjoined_more (before ++ facts_of_row row) (facts_of all)
    (λ f in'. (m.same f).0 (subst (λ fs. Among f fs) (append_assoc before (facts_of_row row) (facts_of rest)) (among_left f (before ++ facts_of_row row) (facts_of rest) in'))) cause h

pub last_clash : (all whole : List FactRow) (last : BegunRow) (cause : Untaken) → Merging all whole (Some last) [] → IsUnjoined (begun_facts (Some last)) cause → IsUnjoined (facts_of all) cause
last_clash all whole last cause m h =
    unjoined_more (begun_facts (Some last)) (facts_of all) (λ f in'. (merging_end all whole (Some last) m f).0 (among_right f (facts_of whole) (begun_facts (Some last)) in')) cause h
