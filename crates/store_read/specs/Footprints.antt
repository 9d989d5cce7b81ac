-- A read by a plan depends on nothing but what it met.
use Rattle.std.specs.Prelude.{◌≡◌, ℕ, List}
use Rattle.std.specs.List.{AllByRecursion}
use Rattle.plan_ir.specs.Reader.{Reader}
use Rattle.plan_ir.specs.ReaderMeaning.{ReaderPart, collect_reader, plan_reads}
use Rattle.plan_ir.specs.schema_types.Environments.{Values}
use Rattle.plan_ir.specs.store_model.Agree.{Agrees}
use Rattle.plan_ir.specs.store_model.Walks.{Slots, read_at}
use Rattle.plan_ir.specs.store_record.Keys.{Text}

-- parts that are read at most so many records deep
abbrev pub PartsDependOnTheirFootprint : Type 0
PartsDependOnTheirFootprint = (typed : Text → Text) (owner : Text) (m n : Slots) (depth : ℕ) (types : List Text) (parts : List ReaderPart) (id : Text)
    → Agrees m n (read_at collect_reader typed owner m depth types parts id).1
    → read_at collect_reader typed owner n depth types parts id ≡ read_at collect_reader typed owner m depth types parts id

-- a plan, where the maps agree on the ids stood at and the fields looked at
abbrev pub PlansDependOnTheirFootprint : Type 0
PlansDependOnTheirFootprint = (typed : Text → Text) (owner : Text) (m n : Slots) (env : Values) (steps : Reader) (types : List Text) (id : Text)
    → Agrees m n (plan_reads typed owner m env steps types id).1 → plan_reads typed owner n env steps types id ≡ plan_reads typed owner m env steps types id

-- a plan, where the maps have equal slots at the ids stood at
abbrev pub PlansDependOnSeenSlots : Type 0
PlansDependOnSeenSlots = (typed : Text → Text) (owner : Text) (m n : Slots) (env : Values) (steps : Reader) (types : List Text) (id : Text)
    → AllByRecursion (λ seen. m seen ≡ n seen) (plan_reads typed owner m env steps types id).1.seen
    → plan_reads typed owner n env steps types id ≡ plan_reads typed owner m env steps types id

pub record ReadsDependOnTheirFootprint : Type 0 where
  pub parts : PartsDependOnTheirFootprint
  pub plans : PlansDependOnTheirFootprint
  pub slots : PlansDependOnSeenSlots
