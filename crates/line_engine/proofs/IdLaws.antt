-- Lists of ids by which they have: what two have together, and what they lead to.
use Rattle.std.proofs.Common.{◌≡◌, true, ◌||◌, ◌==◌, List, [], ◌∷◌, ◌++◌, length, refl, sym, ap, ◌∙◌, arith}
use Rattle.std.proofs.lemmas.Bool.{eqb-true}
use Rattle.plan_ir.proofs.gql_plain_laws.Booleans.{both_ways, or_false}
use Rattle.plan_ir.proofs.store_model_laws.Led.{leads-least}
use Rattle.plan_ir.specs.gql_plain.Order.{AreSortedOf, has_text}
use Rattle.plan_ir.specs.store_model.Leads.{leads}
use Rattle.plan_ir.specs.store_model.Records.{Records}
use Rattle.plan_ir.specs.store_record.Keys.{Text}
use Rattle.store_layers.proofs.store_sweeps_laws.Written.{has_append, sorted_has}

-- ---- two lists

none_of : (ids : List Text) → (length ids == 0) ≡ true → ids ≡ []
none_of [] e = refl
none_of (id ∷ ids) e = absurd (omega (arith, eqb-true (length (id ∷ ids)) 0 e))

module _ (some more : List Text) (j : Text) where
  pub has_first : (length more == 0) ≡ true → has_text some j ≡ (has_text some j || has_text more j)
  has_first e = sym (or_false (has_text some j)) ∙ ap (λ ids. has_text some j || has_text ids j) (sym (none_of more e))

  pub has_second : (length some == 0) ≡ true → has_text more j ≡ (has_text some j || has_text more j)
  has_second e = ap (λ ids. has_text ids j || has_text more j) (sym (none_of some e))

  pub has_both : (words sorted : List Text) → words ≡ some ++ more → AreSortedOf words sorted → has_text sorted j ≡ (has_text some j || has_text more j)
  has_both words sorted is ordered = sorted_has words sorted j ordered ∙ ap (λ ids. has_text ids j) is ∙ has_append some more j

-- ---- the same ids lead to the same

module _ (m : Records) where
  led_within : (xs ys : List Text) → ((j : Text) → has_text xs j ≡ has_text ys j) → (j : Text) → has_text (leads m xs) j ≡ true → has_text (leads m ys) j ≡ true
  led_within xs ys same =
      let led = (leads-least m ys).0 in
      (leads-least m xs).1 (has_text (leads m ys))
      (record {
        given = λ id h. led.given id (sym (same id) ∙ h);
        info_of_given = λ id h. led.info_of_given id (sym (same id) ∙ h);
        info_of_live = led.info_of_live;
        linked = led.linked;
        info_of_linked = led.info_of_linked;
      })

  pub same_led : (xs ys : List Text) → ((j : Text) → has_text xs j ≡ has_text ys j) → (j : Text) → has_text (leads m xs) j ≡ has_text (leads m ys) j
  same_led xs ys same j =
      both_ways (has_text (leads m xs) j) (has_text (leads m ys) j) (led_within xs ys same j) (led_within ys xs (λ id. sym (same id)) j)
