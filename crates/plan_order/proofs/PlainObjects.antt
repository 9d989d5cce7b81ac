-- An object of a plan whose response keys differ, and whose fragments differ: each field is a group, each pointer is read.
use Rattle.std.proofs.Common.{◌≡◌, Bool, true, false, List, [], ◌∷◌, map, append-nil, Some, ap, ◌∙◌}
use Rattle.plan_ir.specs.Reader.{Reader}
use Rattle.plan_ir.specs.ReaderMeaning.{ReaderPart, collect_reader, collect_reading}
use Rattle.plan_order.proofs.AlikeTraces.{AreMet, met-join, met-refl}
use Rattle.plan_order.proofs.AlikeValues.{AreFound, found-refl}
use Rattle.plan_order.proofs.Grouping.{alone_in, fragments_in, groups_alone, keys_in, pointed_of, pointers_each}
use Rattle.plan_order.proofs.Shuffles.{DoDiffer}
use Rattle.plan_order.specs.Alike.{part_of}
use Rattle.plan_ir.specs.schema_types.Environments.{Values}
use Rattle.plan_ir.specs.store_model.Items.{Item, asked_of, groups_of, pointers}
use Rattle.plan_ir.specs.store_model.Walks.{Fields, Next, Shown, Trace, fields_at, marks, object_at, pointers_at, shown_object, trace_at, where_possible}
use Rattle.plan_ir.specs.store_record.Keys.{Text}

-- equal members, and the same met
pub record AreShown (a b : Shown × Trace) : Type 0 where
  pub shown : a.0 ≡ b.0
  pub met : AreMet a.1 b.1

pub possible_alike : (b : Bool) (id : Text) (r s : Shown × Trace) → AreShown r s → AreFound (where_possible b id r) (where_possible b id s)
possible_alike true id r s alike = record {
  shown = ap (λ (ms : Shown). Some (shown_object ms)) alike.shown;
  met = met-join (trace_at id) (trace_at id) r.1 s.1 (met-refl (trace_at id)) alike.met;
}
possible_alike false id r s alike = found-refl _

-- the fields each by itself, and the pointers
abbrev pub object_of : Text → Next ReaderPart → Text → Text → Fields → List (Item ReaderPart) → Shown × Trace
object_of owner next T id fields items = fields_at next T id fields (marks owner id (pointers_at next T id (pointed_of items))) (map alone_in (asked_of items))

module _ (next : Next ReaderPart) (owner T : Text) (env : Values) (steps : Reader) (id : Text) (fields : Fields) where
  pub object_each : DoDiffer (keys_in (collect_reading env T steps)) → DoDiffer (fragments_in (collect_reading env T steps))
      → object_at collect_reader owner next T (part_of env steps ∷ []) id fields ≡ object_of owner next T id fields (collect_reading env T steps)
  object_each keys spread =
      ap (λ (items : List (Item ReaderPart)). fields_at next T id fields (marks owner id (pointers_at next T id (pointers items))) (groups_of items)) (append-nil (collect_reading env T steps))
      ∙ (λ i. fields_at next T id fields (marks owner id (pointers_at next T id (pointers_each (collect_reading env T steps) spread i))) (groups_alone (collect_reading env T steps) keys i))
