-- What several reports add, one after another, is added by them together.
use Rattle.std.proofs.Common.{◌≡◌, List, [], ◌∷◌, ◌++◌, map, Option, Some, None, append-nil, append_assoc, refl, sym, ap, subst, ◌∙◌}
use Rattle.gql_order.specs.gql_plain.declared.plain.Plain.TheVariants.{Text as Words}
use Rattle.store_model.specs.store_record.Keys.{Text}
use Rattle.store_model.specs.store_record.declared.field.Field.{Field}
use Rattle.store_model.specs.store_record.declared.field.Field.TheVariants.{Leaf}
use Rattle.store_model.specs.FactRows.{fact_at}
use Rattle.store_model.specs.Records.{typename}
use Rattle.store_model.specs.Says.{Path, Put, Report, both, no_report, put_at, report_pages}
use Rattle.store_model.specs.Verdicts.{fault_cmp, least}
use Rattle.store_model.specs.declared.facts.Fact.{Fact}
use Rattle.store_model.specs.declared.facts.HandleFact.{HandleFact}
use Rattle.store_model.specs.declared.payload_fault.PayloadFault.{PayloadFault}
use Rattle.store_report.proofs.Orders.{faults_total, least_append, some_assoc}
use Rattle.store_report.proofs.SameMembers.{same_append, same_refl, same_swap, same_sym, same_trans, swap_last}
use Rattle.store_report.specs.Gathering.{lesser_some}
use Rattle.store_report.specs.ObjectRows.{Adds, Held, HoldSame, facts_said, object_facts, with_open}

map_append : {A B : Type 0} (f : A → B) (xs ys : List A) → map f (xs ++ ys) ≡ map f xs ++ map f ys
map_append f [] ys = refl
map_append f (x ∷ xs) ys = ap (λ zs. f x ∷ zs) (map_append f xs ys)

facts_both : (a b : Report) → facts_said (both a b) ≡ facts_said a ++ facts_said b
facts_both a b = map_append (λ (p : Put). p.fact) a.puts b.puts

-- a report without faults leaves the least one
none_more : (fault : Option PayloadFault) → fault ≡ lesser_some fault_cmp fault None
none_more None = refl
none_more (Some f) = refl

pub adds_none : (s : Held) → Adds s s no_report
adds_none s = record {
  fault = none_more s.fault;
  pages = sym (append-nil s.handles);
  facts = subst (HoldSame s.facts) (sym (append-nil s.facts)) (same_refl s.facts);
}

pub adds_both : (s t u : Held) (a b : Report) → Adds s t a → Adds t u b → Adds s u (both a b)
adds_both s t u a b first second = record {
  fault =
      second.fault ∙ ap (λ f. lesser_some fault_cmp f (least fault_cmp b.faults)) first.fault
      ∙ some_assoc fault_cmp faults_total s.fault (least fault_cmp a.faults) (least fault_cmp b.faults)
      ∙ ap (lesser_some fault_cmp s.fault) (sym (least_append fault_cmp faults_total a.faults b.faults));
  pages = second.pages ∙ ap (λ hs. hs ++ b.pages) first.pages ∙ append_assoc s.handles a.pages b.pages;
  facts = subst (HoldSame u.facts) (append_assoc s.facts (facts_said a) (facts_said b) ∙ ap (λ fs. s.facts ++ fs) (sym (facts_both a b)))
      (same_trans u.facts (t.facts ++ facts_said b) ((s.facts ++ facts_said a) ++ facts_said b) second.facts
      (same_append t.facts (s.facts ++ facts_said a) (facts_said b) (facts_said b) first.facts (same_refl (facts_said b))));
}

-- the fields of an object whose row is not whole yet stand beside
pub adds_open : (s t : Held) (r : Report) (id : Text) (fields : List (Text × Field)) → Adds s t r → Adds (with_open id fields s) (with_open id fields t) r
adds_open s t r id fields added =
    let begun = map (fact_at id) fields in
    record {
      fault = added.fault;
      pages = added.pages;
      facts = same_trans (t.facts ++ begun) ((s.facts ++ facts_said r) ++ begun) ((s.facts ++ begun) ++ facts_said r)
          (same_append t.facts (s.facts ++ facts_said r) begun begun added.facts (same_refl begun)) (swap_last s.facts (facts_said r) begun);
    }

-- one field more of such an object
pub adds_field : (s : Held) (id key : Text) (value : Field) (path : Path) (fields : List (Text × Field))
    → Adds (with_open id fields s) (with_open id (fields ++ (key, value) ∷ []) s) (put_at id key value path)
adds_field s id key value path fields =
    let e : Text × Field = (key, value) in
    let more : s.facts ++ map (fact_at id) (fields ++ e ∷ []) ≡ (s.facts ++ map (fact_at id) fields) ++ fact_at id e ∷ []
    = ap (λ fs. s.facts ++ fs) (map_append (fact_at id) fields (e ∷ [])) ∙ sym (append_assoc s.facts (map (fact_at id) fields) (fact_at id e ∷ [])) in
    record {
      fault = none_more s.fault;
      pages = sym (append-nil s.handles);
      facts = subst (HoldSame (s.facts ++ map (fact_at id) (fields ++ e ∷ []))) more (same_refl (s.facts ++ map (fact_at id) (fields ++ e ∷ [])));
    }

-- a field whose pages, and whose value's report, came before it
pub field_added : (s t u : Held) (id key : Text) (value : Field) (path : Path) (fields : List (Text × Field)) (pages rest : Report) → Adds s t pages → Adds t u rest
    → Adds (with_open id fields s) (with_open id (fields ++ (key, value) ∷ []) u) (both (put_at id key value path) (both pages rest))
field_added s t u id key value path fields pages rest first second =
    let more = fields ++ (key, value) ∷ [] in
    adds_both (with_open id fields s) (with_open id more s) (with_open id more u) (put_at id key value path) (both pages rest) (adds_field s id key value path fields)
    (adds_open s u (both pages rest) id more (adds_both s t u pages rest first second))

-- an object whose row is whole
middle_first : (x : Fact) (xs ys : List Fact) → HoldSame (xs ++ x ∷ ys) (x ∷ (xs ++ ys))
middle_first x xs ys =
    subst (HoldSame (xs ++ x ∷ ys)) (λ i. x ∷ (xs ++ ys))
    (subst (λ (fs : List Fact). HoldSame fs ((x ∷ xs) ++ ys)) (append_assoc xs (x ∷ []) ys) (same_append (xs ++ x ∷ []) (x ∷ xs) ys ys (same_swap xs (x ∷ [])) (same_refl ys)))

pub object_added : (s t u : Held) (id name : Text) (path : Path) (fields : List (Text × Field)) (r : Report)
    → Adds (with_open id [] s) (with_open id fields t) r → HoldSame u.facts (t.facts ++ object_facts id name fields) → u.handles ≡ t.handles → u.fault ≡ t.fault
    → Adds s u (both (put_at id typename (Leaf (Words name)) path) r)
object_added s t u id name path fields r added facts handles fault =
    let first = fact_at id (typename, Leaf (Words name)) in
    let begun = map (fact_at id) fields in
    let below : HoldSame (t.facts ++ begun) (s.facts ++ facts_said r) = subst (λ (fs : List Fact). HoldSame (t.facts ++ begun) (fs ++ facts_said r)) (append-nil s.facts) added.facts in
    record {
      fault = fault ∙ added.fault;
      pages = handles ∙ added.pages;
      facts = same_trans u.facts (t.facts ++ first ∷ begun) (s.facts ++ first ∷ facts_said r) facts
          (same_trans (t.facts ++ first ∷ begun) (first ∷ (t.facts ++ begun)) (s.facts ++ first ∷ facts_said r) (middle_first first t.facts begun)
          (same_trans (first ∷ (t.facts ++ begun)) (first ∷ (s.facts ++ facts_said r)) (s.facts ++ first ∷ facts_said r)
          (same_append (first ∷ []) (first ∷ []) (t.facts ++ begun) (s.facts ++ facts_said r) (same_refl (first ∷ [])) below)
          (same_sym (s.facts ++ first ∷ facts_said r) (first ∷ (s.facts ++ facts_said r)) (middle_first first s.facts (facts_said r)))));
    }

pub page_put : (s : Held) (page : HandleFact) → Adds s (record { facts = s.facts; handles = s.handles ++ page ∷ []; fault = s.fault }) (report_pages (page ∷ []))
page_put s page = record { fault = none_more s.fault; pages = refl; facts = subst (HoldSame s.facts) (sym (append-nil s.facts)) (same_refl s.facts) }
