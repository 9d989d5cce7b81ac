-- The walk of a plan that is in order shows what the plan shows, and meets the same.
use Rattle.std.proofs.Common.{ℕ, zero, suc, List, [], ◌∷◌}
use Rattle.plan_ir.specs.gql_plain.Order.{has_text}
use Rattle.plan_ir.specs.Reader.{Reader}
use Rattle.plan_ir.specs.ReaderMeaning.{ReaderPart, collect_reader, collect_reading}
use Rattle.plan_order.proofs.AlikeValues.{AreFound, found-refl}
use Rattle.plan_order.proofs.FieldsMet.{AreAlikeParts}
use Rattle.plan_order.proofs.ItemsOrdered.{AreOrderedParts, parts_ordered}
use Rattle.plan_order.proofs.OrderedObjects.{object_shown}
use Rattle.plan_order.proofs.PlainObjects.{possible_alike}
use Rattle.plan_order.specs.Alike.{OrderedWalksReadAlike, part_of}
use Rattle.plan_order.specs.Ordered.{IsOrdered}
use Rattle.plan_order.specs.Walk.{first_part, object_in_order, ordered_at, stand_in_order}
use Rattle.plan_ir.specs.schema_types.Environments.{Values}
use Rattle.plan_ir.specs.store_model.Items.{Item, asked, pointed}
use Rattle.plan_ir.specs.store_model.Walks.{Fields, Next, Slots, Standing, absent, gone, lives, field_of, object_at, read_at, stand_at, standing_of}
use Rattle.plan_ir.specs.store_record.Keys.{Text}

module _ (typed : Text → Text) (owner : Text) (m : Slots) where
  abbrev below : ℕ → Next ReaderPart
  below n = first_part (λ values. ordered_at typed owner m values n)

  abbrev plain : ℕ → Next ReaderPart
  plain n = read_at collect_reader typed owner m n

  -- the walk is alike at every plan in order
  abbrev AreReadAt : ℕ → Type 0
  AreReadAt n = (env : Values) (types : List Text) (steps : Reader) (id : Text) → IsOrdered steps
      → AreFound (ordered_at typed owner m env n types steps id) (read_at collect_reader typed owner m n types (part_of env steps ∷ []) id)

  module _ (n : ℕ) (read : AreReadAt n) where
    parts_alike : (items : List (Item ReaderPart)) → AreOrderedParts items → AreAlikeParts (below n) (plain n) items
    parts_alike [] parts = tt
    parts_alike (asked a ∷ items) parts = (λ types id. read a.part.environment types a.part.steps id parts.0, parts_alike items parts.1)
    parts_alike (pointed p ∷ items) parts = (λ types id. read p.body.environment types p.body.steps id parts.0, parts_alike items parts.1)

    stand_alike : (env : Values) (types : List Text) (steps : Reader) (id : Text) → IsOrdered steps → (standing : Standing) (fields : Fields)
        → AreFound (stand_in_order typed owner (below n) types env steps id standing fields) (stand_at collect_reader typed owner (plain n) types (part_of env steps ∷ []) id standing fields)
    stand_alike env types steps id order absent fields = found-refl _
    stand_alike env types steps id order gone fields = found-refl _
    stand_alike env types steps id order (lives name) fields =
        possible_alike (has_text types (typed name)) id (object_in_order owner (below n) (typed name) env steps id fields) (object_at collect_reader owner (plain n) (typed name) (part_of env steps ∷ []) id fields)
        (object_shown (below n) (plain n) owner (typed name) env steps id fields order.0 (parts_alike (collect_reading env (typed name) steps) (parts_ordered env (typed name) steps order.1)))

  reads_alike : (n : ℕ) → AreReadAt n
  reads_alike zero env types steps id order = found-refl _
  reads_alike (suc n) env types steps id order = stand_alike n (reads_alike n) env types steps id order (standing_of (m id)) (field_of (m id))

pub ordered_walks_read_alike : OrderedWalksReadAlike
ordered_walks_read_alike steps order typed owner m env n types id =
    let found = reads_alike typed owner m n env types steps id order in
    record { shown = found.shown; missing = found.met.missing; seen = found.met.seen }
