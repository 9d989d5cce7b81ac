-- Single steps that are put in order read what the steps read that they were taken from.
use Rattle.std.proofs.Common.{ℕ, zero, suc, List, [], ◌∷◌, refl, sym, subst, ◌∙◌}
use Rattle.std.specs.List.Sorted.{IsPermutation}
use Rattle.plan_ir.specs.gql_plain.Order.{has_text}
use Rattle.plan_ir.specs.Reader.{Reader}
use Rattle.plan_ir.specs.ReaderMeaning.{ReaderPart, collect_reader, collect_reading}
use Rattle.plan_ir.specs.ReaderView.{steps_of}
use Rattle.plan_ir.specs.declared.reader.ReaderStep.{ReaderStep}
use Rattle.plan_order.proofs.AlikeValues.{AreAlikeBelow, AreFound, found-back, found-refl}
use Rattle.plan_order.proofs.Grouping.{fragments_in, keys_in}
use Rattle.plan_order.proofs.ItemsOrdered.{fragments_within, keys_within}
use Rattle.plan_order.proofs.PlainObjects.{AreShown, object_each, object_of, possible_alike}
use Rattle.plan_order.proofs.Rising.{rising-within}
use Rattle.plan_order.proofs.ShuffledObjects.{fragments_differ, keys_differ}
use Rattle.plan_order.proofs.ShuffledReads.{object_moved}
use Rattle.plan_order.proofs.Shuffles.{DoDiffer, Shuffle, differ-rising, shuffle-of}
use Rattle.plan_order.proofs.SingleSteps.{below_shuffled, deep_shuffled, items_shuffled}
use Rattle.plan_order.specs.Alike.{ReadAlike, part_of}
use Rattle.plan_order.specs.Ordered.{IsInOrder}
use Rattle.plan_order.specs.Singles.{AreTaken, IsOrderedCopy, IsSamePart}
use Rattle.plan_ir.specs.schema_types.Environments.{Values}
use Rattle.plan_ir.specs.store_model.Walks.{Fields, Slots, Standing, absent, gone, lives, field_of, object_at, read_at, stand_at, standing_of}
use Rattle.plan_ir.specs.store_record.Keys.{Text}

pub alike-refl : (s : Reader) → ReadAlike s s
alike-refl s = record {
  deep = refl;
  reads = λ typed owner m env n types id.
      let a = found-refl (read_at collect_reader typed owner m n types (part_of env s ∷ []) id) in record { shown = a.shown; missing = a.met.missing; seen = a.met.seen };
}

-- a plan, single steps that were taken from it, and these in order
module _ (plan taken sorted : Reader) (is : AreTaken plan taken) (moved : (env : Values) (T : Text) → Shuffle (collect_reading env T taken) (collect_reading env T sorted)) (order : IsInOrder sorted) where
  keys : (env : Values) (T : Text) → DoDiffer (keys_in (collect_reading env T sorted))
  keys env T = differ-rising (keys_in (collect_reading env T sorted)) (rising-within (keys_within env T sorted) order.fields)

  spread : (env : Values) (T : Text) → DoDiffer (fragments_in (collect_reading env T sorted))
  spread env T = differ-rising (fragments_in (collect_reading env T sorted)) (rising-within (fragments_within env T sorted) order.pointers)

  module _ (typed : Text → Text) (owner : Text) (m : Slots) where
    parts_read : (n : ℕ) (p q : ReaderPart) → IsSamePart p q → AreAlikeBelow (read_at collect_reader typed owner m n) (read_at collect_reader typed owner m n) p q
    parts_read n p q same types id =
        let a = same.reads.reads typed owner m p.environment n types id in
        subst (λ (env : Values). AreFound (read_at collect_reader typed owner m n types (p ∷ []) id) (read_at collect_reader typed owner m n types (part_of env q.steps ∷ []) id)) same.environment
        (found-back _ _ (record { shown = a.shown; met = record { missing = a.missing; seen = a.seen } }))

    stand_moved : (n : ℕ) (env : Values) (types : List Text) (id : Text) (standing : Standing) (fields : Fields)
        → AreFound (stand_at collect_reader typed owner (read_at collect_reader typed owner m n) types (part_of env sorted ∷ []) id standing fields)
        (stand_at collect_reader typed owner (read_at collect_reader typed owner m n) types (part_of env plan ∷ []) id standing fields)
    stand_moved n env types id absent fields = found-refl _
    stand_moved n env types id gone fields = found-refl _
    stand_moved n env types id (lives name) fields =
        let T = typed name in
        let next = read_at collect_reader typed owner m n in
        let xs = collect_reading env T plan in
        let zs = collect_reading env T taken in
        let ys = collect_reading env T sorted in
        let here : AreShown (object_of owner next T id fields ys) (object_of owner next T id fields xs) =
        object_moved next T id fields (parts_read n) owner xs zs ys (is.items env T) (moved env T) (keys env T) (spread env T) in
        let left = object_each next owner T env sorted id fields (keys env T) (spread env T) in
        let right = object_each next owner T env plan id fields (keys_differ xs zs ys (is.items env T) (moved env T) (keys env T)) (fragments_differ xs zs ys (is.items env T) (moved env T) (spread env T)) in
        possible_alike (has_text types T) id _ _
        (subst (λ o. AreShown o (object_at collect_reader owner next T (part_of env plan ∷ []) id fields)) (sym left) (subst (AreShown (object_of owner next T id fields ys)) (sym right) here))

    reads_moved : (n : ℕ) (env : Values) (types : List Text) (id : Text)
        → AreFound (read_at collect_reader typed owner m n types (part_of env sorted ∷ []) id) (read_at collect_reader typed owner m n types (part_of env plan ∷ []) id)
    reads_moved zero env types id = found-refl _
    reads_moved (suc n) env types id = stand_moved n env types id (standing_of (m id)) (field_of (m id))

-- the singles of a plan, put in another order that is in order
pub copy_ordered : (plan : Reader) (xs ys : List ReaderStep) → AreTaken plan (steps_of xs) → IsPermutation xs ys → IsInOrder (steps_of ys) → IsOrderedCopy plan (steps_of ys)
copy_ordered plan xs ys is moved order =
    let s = shuffle-of xs ys moved in
    record {
      order = (order, below_shuffled s is.below);
      alike = record {
        deep = sym (deep_shuffled s) ∙ is.deep;
        reads = λ typed owner m env n types id.
            let a = reads_moved plan (steps_of xs) (steps_of ys) is (λ env T. items_shuffled env T s) order typed owner m n env types id in
            record { shown = a.shown; missing = a.met.missing; seen = a.met.seen };
      };
    }
