-- What the walk that writes gives at an id, by what stands there.
use Rattle.std.proofs.Common.{◌≡◌, ℕ, suc, List, Option, Some, None, sym, ap, ◌∙◌}
use Rattle.plan_ir.specs.gql_plain.Order.{has_text}
use Rattle.plan_ir.specs.Reader.{Reader}
use Rattle.plan_order.specs.Walk.{object_in_order, stand_in_order}
use Rattle.plan_ir.specs.schema_types.Environments.{Values}
use Rattle.plan_ir.specs.store_model.Walks.{Found, field_of, standing_of, stood_lost, type_of_record}
use Rattle.store_read.proofs.ReadSteps.{possible_stood, stood_and}
use Rattle.store_read.specs.Reading.{slots}
use Rattle.store_show.specs.Showing.{below, walks}
use Rattle.store_read.specs.Walked.{if_possible}
use Rattle.plan_ir.specs.store_record.Keys.{Text}
use Rattle.plan_ir.specs.store_record.declared.record.Record.{Record}
use Rattle.plan_ir.specs.store_record.declared.record.Slot.{Slot}
use Rattle.plan_ir.specs.store_record.declared.record.Slot.TheVariants.{Alive}
use Rattle.store_read.specs.store_source.Records.{Records}

module _ (m : Records) (root owner : Text) (env : Values) (types : List Text) (steps : Reader) (id : Text) where
  abbrev stands : ℕ → Option Slot → Found
  stands n s = stand_in_order (type_of_record root) owner (below m root owner n) types env steps id (standing_of s) (field_of s)

  one_more : (n k : ℕ) → n ≡ suc k → walks m root owner env n types steps id ≡ stands k (slots m id)
  one_more n k e = ap (λ j. walks m root owner env j types steps id) e

  -- where no record may be stood at
  pub walks_nothing : (n : ℕ) → n ≡ 0 → walks m root owner env n types steps id ≡ (None, stood_lost id)
  walks_nothing n e = ap (λ j. walks m root owner env j types steps id) e

  pub walks_live : (n k : ℕ) (r : Record) (T : Text) → n ≡ suc k → slots m id ≡ Some (Alive r) → T ≡ type_of_record root r.type_name → walks m root owner env n types steps id
      ≡ stood_and id (if_possible (has_text types T) (object_in_order owner (below m root owner k) T env steps id (field_of (Some (Alive r)))))
  walks_live n k r T e lives named =
      one_more n k e ∙ ap (stands k) lives
      ∙ possible_stood (has_text types (type_of_record root r.type_name)) id (object_in_order owner (below m root owner k) (type_of_record root r.type_name) env steps id (field_of (Some (Alive r))))
      ∙ ap (λ U. stood_and id (if_possible (has_text types U) (object_in_order owner (below m root owner k) U env steps id (field_of (Some (Alive r)))))) (sym named)
