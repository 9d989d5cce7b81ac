-- Steps taken apart, and what single steps keep of the steps that they were taken from.
use denote.Ref.{Bor}
use Rattle.std.specs.Prelude.{◌≡◌, List, [], ◌∷◌, ◌++◌, map}
use Rattle.std.specs.List.{AllByRecursion, AllZip}
use Rattle.plan_ir.specs.Reader as r
use Rattle.plan_ir.specs.Reader.{Reader}
use Rattle.plan_ir.specs.ReaderMeaning.{ReaderPart, collect_reading, records_below}
use Rattle.plan_ir.specs.ReaderView.{step_of, steps_of}
use Rattle.plan_ir.specs.declared.guard.Guard.{Guard}
use Rattle.plan_ir.specs.declared.reader.ReaderStep.{ReaderStep}
use Rattle.plan_order.specs.Alike.{ReadAlike}
use Rattle.plan_order.specs.Ordered.{AreInOrderBelow, IsOrdered}
use Rattle.plan_order.specs.Responses.{fragments, responses}
use Rattle.plan_order.specs.declared.single.Single.{Single}
use Rattle.plan_ir.specs.schema_tables.Types.{Text}
use Rattle.plan_ir.specs.schema_types.Environments.{Values}
use Rattle.plan_ir.specs.store_model.Items.{Asked, Item, asked, pointed, Pointer}

-- ---- what is kept of each item

-- one environment, and plans that read alike
pub record IsSamePart (p q : ReaderPart) : Type 0 where
  pub environment : p.environment ≡ q.environment
  pub reads : ReadAlike p.steps q.steps

pub record IsSameAsked (a b : Asked ReaderPart) : Type 0 where
  pub ask : a.ask ≡ b.ask
  pub part : IsSamePart a.part b.part

pub record IsSamePointed (p q : Pointer ReaderPart) : Type 0 where
  pub fragment : p.fragment ≡ q.fragment
  pub scope : p.scope ≡ q.scope
  pub inline : p.inline ≡ q.inline
  pub body : IsSamePart p.body q.body

abbrev pub IsSameItem : Item ReaderPart → Item ReaderPart → Type 0
IsSameItem (asked a) (asked b) = IsSameAsked a b
IsSameItem (asked a) (pointed q) = ⊥
IsSameItem (pointed p) (asked b) = ⊥
IsSameItem (pointed p) (pointed q) = IsSamePointed p q

-- ---- steps

-- the same items one by one, with plans below that are in order
pub record AreTaken (plan other : Reader) : Type 0 where
  pub deep : records_below other ≡ records_below plan
  pub below : AreInOrderBelow other
  pub items : (env : Values) (T : Text) → AllZip IsSameItem (collect_reading env T plan) (collect_reading env T other)

abbrev pub step_in : Single → ReaderStep
step_in s = s.step

abbrev pub steps_in : List Single → Reader
steps_in singles = steps_of (map step_in singles)

abbrev pub single_of : Bor Text → ReaderStep → Single
single_of key step = record { key = key; step = step }

abbrev pub key_in : Single → Text
key_in s = s.key.now

-- one field whose response key is the key, or one pointer whose fragment it is
abbrev pub IsKeyed : Single → Type 0
IsKeyed s = responses (step_of s.step) ++ fragments (step_of s.step) ≡ key_in s ∷ []

-- single steps that say in turn what the steps say that they were taken from, each with its key
pub record AreSingles (plan : Reader) (singles : List Single) : Type 0 where
  pub taken : AreTaken plan (steps_in singles)
  pub told : responses (steps_in singles) ≡ responses plan
  pub spread : fragments (steps_in singles) ≡ fragments plan
  pub keyed : AllByRecursion IsKeyed singles

-- the step with another plan below its field, where it is a field of objects
abbrev pub over_child : Reader → Reader → Reader
over_child r.done other = r.done
over_child (r.typename n rest) other = r.typename n rest
over_child (r.leaf n name xs rest) other = r.leaf n name xs rest
over_child (r.object n name xs m ts is o c child rest) other = r.object n name xs m ts is o c other rest
over_child (r.guarded g child rest) other = r.guarded g child rest
over_child (r.pointer f xs rest) other = r.pointer f xs rest
over_child (r.pointer_inline f xs child rest) other = r.pointer_inline f xs child rest

-- each step behind a guard of its own
abbrev pub guard_each : Guard → List ReaderStep → Reader
guard_each g [] = r.done
guard_each g (x ∷ xs) = r.guarded g (step_of x) (guard_each g xs)

-- a plan in order that reads what another reads
pub record IsOrderedCopy (plan copy : Reader) : Type 0 where
  pub order : IsOrdered copy
  pub alike : ReadAlike plan copy
