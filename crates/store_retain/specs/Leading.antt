-- Ids that were noted, those that are still to be opened, and how much there is left.
use Rattle.std.specs.Prelude.{◌≡◌, ℕ, ◌+◌, ◌*◌, Bool, true, ◌||◌, ◌&&◌, not, List, [], ◌∷◌, length, Some, option_map, unwrap_or, is_some}
use Rattle.std.specs.FinMap.{entries}
use Rattle.std.specs.List.{count_by, list_all}
use Rattle.plan_ir.specs.gql_plain.Order.{has_text}
use Rattle.plan_ir.specs.store_record.Keys.{Text}
use Rattle.plan_ir.specs.store_record.declared.record.Record.{Record}
use Rattle.plan_ir.specs.store_record.declared.record.Slot.{Slot}
use Rattle.plan_ir.specs.store_model.Leads.{ids_of_fields, with_infos}
use Rattle.plan_ir.specs.store_model.Merge.{info_id}
use Rattle.plan_ir.specs.store_model.Records.{Records, alive, live}

-- what a record leads to from its id
abbrev pub out : Text → Record → List Text
out id row = info_id id ∷ with_infos (ids_of_fields row.fields)

-- what stands at an id leads to that, where it is live
abbrev pub out_of : Records → Text → List Text
out_of m id = unwrap_or (option_map (out id) (live id m)) []

-- each id that is to be opened was noted; and each live id that was noted is to be opened, or all that it leads to was noted, some ids excepted
pub record IsOpened (m : Records) (noted pending : List Text) (except : Text → Bool) : Type 0 where
  pub pended : (id : Text) → has_text pending id ≡ true → has_text noted id ≡ true
  pub opened : (id : Text) (row : Record) → live id m ≡ Some row → has_text noted id ≡ true
      → ((has_text pending id || list_all (has_text noted) (out id row)) || except id) ≡ true

abbrev pub is_unnoted : List Text → Text × Slot → Bool
is_unnoted noted e = not (has_text noted e.0) && is_some (alive e.1)

-- two for each live id that was not noted yet, and one for each that is to be opened
abbrev pub left : Records → (noted pending : List Text) → ℕ
left m noted pending = 2 * count_by (is_unnoted noted) (entries m) + length pending
