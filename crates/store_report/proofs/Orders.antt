-- Faults, facts and pages are in total orders; and the lesser of two, and the least of a list.
use Rattle.std.proofs.Common.{◌≡◌, Bool, true, false, true≢false, cond, List, [], ◌∷◌, ◌++◌, Option, Some, None, Ordering, Less, Equal, Greater, refl, sym, ap, ◌∙◌}
use Rattle.std.proofs.lemmas.Cmp.{nat_cmp_total, nat_list_cmp_total, on_total, then_total}
use Rattle.std.proofs.lemmas.List.MinMax.{ranks_by}
use Rattle.std.specs.Cmp.{IsTotalOrder}
use Rattle.std.specs.Ordering.{is_lt}
use Rattle.store_model.proofs.Seats.{paths_total}
use Rattle.store_model.specs.FactOrder.{fact_cmp, handle_cmp}
use Rattle.store_model.specs.Verdicts.{number_of, fault_cmp, lesser, least}
use Rattle.store_model.specs.declared.facts.Fact.{Fact}
use Rattle.store_model.specs.declared.facts.HandleFact.{HandleFact}
use Rattle.store_model.specs.declared.payload_fault.PayloadFault.{PayloadFault}
use Rattle.store_report.specs.Gathering.{lesser_some}

-- ---- orders

pub faults_total : IsTotalOrder fault_cmp
faults_total = then_total (on_total (λ (f : PayloadFault). f.path) paths_total) (on_total (λ (f : PayloadFault). number_of f.cause) nat_cmp_total)

pub facts_total : IsTotalOrder fact_cmp
facts_total = then_total (on_total (λ (f : Fact). f.id) nat_list_cmp_total) (on_total (λ (f : Fact). f.key) nat_list_cmp_total)

pub handles_total : IsTotalOrder handle_cmp
handles_total =
    then_total (on_total (λ (h : HandleFact). h.parent) nat_list_cmp_total)
    (then_total (on_total (λ (h : HandleFact). h.handle_key) nat_list_cmp_total) (on_total (λ (h : HandleFact). h.field_key) nat_list_cmp_total))

-- ---- the lesser of two

module _ {A : Type 0} (cmp : A → A → Ordering) (o : IsTotalOrder cmp) where
  is_less : (r : Ordering) → is_lt r ≡ true → r ≡ Less
  is_less Less e = refl
  is_less Equal e = absurd (true≢false (sym e))
  is_less Greater e = absurd (true≢false (sym e))

  lesser_assoc : (a b c : A) → lesser cmp (lesser cmp a b) c ≡ lesser cmp a (lesser cmp b c)
  lesser_assoc a b c = at (is_lt (cmp b a)) refl (is_lt (cmp c b)) refl
    where
      at : (x : Bool) → is_lt (cmp b a) ≡ x → (y : Bool) → is_lt (cmp c b) ≡ y → lesser cmp (cond x b a) c ≡ lesser cmp a (cond y c b)
      at true e true f =
          let lt : is_lt (cmp c a) ≡ true = ap is_lt (o.trans c b a (is_less (cmp c b) f) (is_less (cmp b a) e)) in
          ap (λ t. cond t c b) f ∙ sym (ap (λ t. cond t c a) lt)
      at true e false f = ap (λ t. cond t c b) f ∙ sym (ap (λ t. cond t b a) e)
      at false e true f = refl
      at false e false f =
          let not_lt : is_lt (cmp c a) ≡ false = (ranks_by o (λ (x : A). x)).chain c b a f e in
          ap (λ t. cond t c a) not_lt ∙ sym (ap (λ t. cond t b a) e)

  pub some_assoc : (a b c : Option A) → lesser_some cmp (lesser_some cmp a b) c ≡ lesser_some cmp a (lesser_some cmp b c)
  some_assoc None b c = refl
  some_assoc (Some a) None c = refl
  some_assoc (Some a) (Some b) None = refl
  some_assoc (Some a) (Some b) (Some c) = ap Some (lesser_assoc a b c)

  pub least_append : (xs ys : List A) → least cmp (xs ++ ys) ≡ lesser_some cmp (least cmp xs) (least cmp ys)
  least_append [] ys = refl
  least_append (x ∷ xs) ys = ap (lesser_some cmp (Some x)) (least_append xs ys) ∙ sym (some_assoc (Some x) (least cmp xs) (least cmp ys))
