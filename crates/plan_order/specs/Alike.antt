-- Reads that show the same and meet the same, in whatever order.
use Rattle.std.specs.Prelude.{◌≡◌, ℕ, List, [], ◌∷◌}
use Rattle.std.specs.List.Sorted.{IsPermutation}
use Rattle.plan_ir.specs.Reader.{Reader}
use Rattle.plan_ir.specs.ReaderMeaning.{ReaderPart, collect_reader, records_below}
use Rattle.plan_order.specs.Ordered.{IsOrdered}
use Rattle.plan_order.specs.Walk.{ordered_at}
use Rattle.plan_ir.specs.schema_types.Environments.{Values}
use Rattle.plan_ir.specs.store_model.Walks.{Found, Slots, read_at}
use Rattle.plan_ir.specs.store_record.Keys.{Text}

-- equal data, and the same ids stood at, each as often
pub record AreAlike (a b : Found) : Type 0 where
  pub shown : a.0 ≡ b.0
  pub missing : a.1.missing ≡ b.1.missing
  pub seen : IsPermutation a.1.seen b.1.seen

abbrev pub part_of : Values → Reader → ReaderPart
part_of env steps = record { environment = env; steps = steps }

-- plans by which every record reads alike in every environment, and which stand at records equally deep
pub record ReadAlike (plan other : Reader) : Type 0 where
  pub deep : records_below other ≡ records_below plan
  pub reads : (typed : Text → Text) (owner : Text) (m : Slots) (env : Values) (n : ℕ) (types : List Text) (id : Text)
      → AreAlike (read_at collect_reader typed owner m n types (part_of env other ∷ []) id) (read_at collect_reader typed owner m n types (part_of env plan ∷ []) id)

-- the walk of a plan that is in order shows what the plan shows
abbrev pub OrderedWalksReadAlike : Type 0
OrderedWalksReadAlike = (steps : Reader) → IsOrdered steps → (typed : Text → Text) (owner : Text) (m : Slots) (env : Values) (n : ℕ) (types : List Text) (id : Text)
    → AreAlike (ordered_at typed owner m env n types steps id) (read_at collect_reader typed owner m n types (part_of env steps ∷ []) id)
