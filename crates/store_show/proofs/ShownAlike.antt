-- The walk that writes tells what the read by the plan tells.
use Rattle.std.proofs.Common.{◌≡◌, ℕ, ◌+◌, ◌≤◌, false, List, [], ◌++◌, length, subst, sym, ap, ◌∙◌, arith}
use Rattle.std.proofs.lemmas.List.Sorted.{IsPermutation-sym, length_permutation}
use Rattle.store_read.proofs.gql_order_laws.Moved.{sorted_of_moved}
use Rattle.plan_ir.proofs.gql_plain_laws.SortedTexts.{AreSortedOf-is}
use Rattle.plan_ir.specs.gql_plain.Order.{AreSortedOf}
use Rattle.plan_ir.specs.gql_plain.ToJson.{tree_tokens}
use Rattle.json.specs.Token.{Token}
use Rattle.plan_ir.specs.Reader.{Reader}
use Rattle.plan_ir.specs.ReaderMeaning.{plan_reads, records_below}
use Rattle.plan_order.proofs.OrderedReads.{ordered_walks_read_alike}
use Rattle.plan_order.specs.Alike.{AreAlike}
use Rattle.plan_order.specs.Ordered.{IsOrdered}
use Rattle.plan_ir.specs.schema_types.Environments.{Values}
use Rattle.plan_ir.specs.store_model.Walks.{Found, or_null, reading, standings, type_of_record}
use Rattle.store_read.specs.Meeting.{Meeting}
use Rattle.store_read.specs.Reading.{slots}
use Rattle.store_show.proofs.ShowTokens.{led_alone}
use Rattle.store_show.proofs.StoodSteps.{stood_sorted}
use Rattle.store_show.specs.Showing.{led, walks}
use Rattle.store_show.specs.declared.lead.Lead.TheVariants.{Alone}
use Rattle.plan_ir.specs.store_record.Keys.{Text}
use Rattle.store_show.specs.Stood.{stood_all, stood_onto}
use Rattle.store_read.specs.store_source.Records.{Records}

module _ (w r : Found) (alike : AreAlike w r) where
  pub alike_tokens : (a b : List Token) → b ≡ a ++ led Alone w.0 → b ≡ a ++ tree_tokens (reading r).value
  alike_tokens a b e = e ∙ ap (λ ts. a ++ ts) (led_alone w.0 ∙ ap (λ o. tree_tokens (or_null o)) alike.shown)

  pub alike_missing : (start met : Meeting) → start ≡ record { missing = false; seen = [] } → met ≡ stood_onto start w.1 → met.missing ≡ (reading r).missing
  alike_missing start met none e = ap (λ (m : Meeting). m.missing) (e ∙ ap (λ m. stood_onto m w.1) none) ∙ alike.missing

  pub alike_seen : (start met : Meeting) (ids : List Text) → start ≡ record { missing = false; seen = [] } → met ≡ stood_onto start w.1 → AreSortedOf met.seen ids → ids ≡ (reading r).seen
  alike_seen start met ids none e are =
      let same : met.seen ≡ stood_all [] w.1.seen = ap (λ (m : Meeting). m.seen) (e ∙ ap (λ m. stood_onto m w.1) none) in
      AreSortedOf-is r.1.seen ids (sorted_of_moved r.1.seen w.1.seen ids (IsPermutation-sym w.1.seen r.1.seen alike.seen) (stood_sorted w.1.seen ids (subst (λ xs. AreSortedOf xs ids) same are)))

  pub alike_looks : (old new : ℕ) → new ≤ old + length w.1.seen → new ≤ old + standings r
  alike_looks old new e = omega (arith, e, length_permutation w.1.seen r.1.seen alike.seen)

-- the walk as deep as the plan
module _ (m : Records) (root owner : Text) (env : Values) (types : List Text) (steps : Reader) (id : Text) (order : IsOrdered steps) (levels : ℕ) (deep : levels ≡ records_below steps + 1) where
  pub shown_alike : AreAlike (walks m root owner env levels types steps id) (plan_reads (type_of_record root) owner (slots m) env steps types id)
  shown_alike = subst (λ n. AreAlike (walks m root owner env n types steps id) (plan_reads (type_of_record root) owner (slots m) env steps types id)) (sym deep)
      (ordered_walks_read_alike steps order (type_of_record root) owner (slots m) env (records_below steps + 1) types id)
