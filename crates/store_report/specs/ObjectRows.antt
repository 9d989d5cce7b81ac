-- Rows of objects as they are met, and whether they hold what a report says, in whatever order.
use Rattle.std.specs.Prelude.{◌≡◌, true, false, List, [], ◌∷◌, ◌++◌, map, bytes_eq, Option, Some, None}
use Rattle.std.specs.List.{AllByRecursion}
use Rattle.std.specs.Map.{keys_of}
use Rattle.gql_order.specs.gql_plain.Order.{AreInOrder}
use Rattle.gql_order.specs.gql_plain.declared.plain.Plain.TheVariants.{Text as Words}
use Rattle.store_model.specs.store_record.Equal.{field_eq}
use Rattle.store_model.specs.store_record.Keys.{Text}
use Rattle.store_model.specs.store_record.declared.field.Field.{Field}
use Rattle.store_model.specs.store_record.declared.field.Field.TheVariants.{Leaf}
use Rattle.store_model.specs.Alike.{Among}
use Rattle.store_model.specs.FactRows.{fact_at, IsFactRow}
use Rattle.store_model.specs.Records.{typename}
use Rattle.store_model.specs.Says.{Path, Report, both, no_report}
use Rattle.store_model.specs.Verdicts.{Verdict, fault_cmp, least, refusal, verdict}
use Rattle.store_model.specs.declared.facts.Fact.{Fact}
use Rattle.store_model.specs.declared.facts.FactRow.{FactRow}
use Rattle.store_model.specs.declared.facts.HandleFact.{HandleFact}
use Rattle.store_model.specs.declared.payload_fault.Cause.TheVariants.{Conflict}
use Rattle.store_model.specs.declared.payload_fault.PayloadFault.{PayloadFault}
use Rattle.store_report.specs.Gathering.{IsTypeName, lesser_some}
use Rattle.store_report.specs.declared.untaken.Untaken.{Untaken}
use Rattle.store_report.specs.declared.untaken.Untaken.TheVariants.{Fault, Clash, NoMemory}

-- lists with the same members
abbrev pub HoldSame : {A : Type 0} → List A → List A → Type 0
HoldSame {A} xs ys = (x : A) → (Among x xs → Among x ys) × (Among x ys → Among x xs)

abbrev pub facts_said : Report → List Fact
facts_said r = map (λ p. p.fact) r.puts

-- facts, pages, and the least fault so far
pub record Held : Type 0 where
  pub facts : List Fact
  pub handles : List HandleFact
  pub fault : Option PayloadFault

-- what is held before, and what a report says, are held after it
pub record Adds (before after : Held) (r : Report) : Type 0 where
  pub fault : after.fault ≡ lesser_some fault_cmp before.fault (least fault_cmp r.faults)
  pub pages : after.handles ≡ before.handles ++ r.pages
  pub facts : HoldSame after.facts (before.facts ++ facts_said r)

abbrev pub nothing_held : Held
nothing_held = record { facts = []; handles = []; fault = None }

-- what is held, with the fields of an object whose row is not whole yet
abbrev pub with_open : Text → List (Text × Field) → Held → Held
with_open id fields s = record { facts = s.facts ++ map (fact_at id) fields; handles = s.handles; fault = s.fault }

-- what is held, with a page behind the others
abbrev pub with_page : HandleFact → Held → Held
with_page page s = record { facts = s.facts; handles = s.handles ++ page ∷ []; fault = s.fault }

-- what is held, with the lesser of its fault and another one
abbrev pub with_fault : PayloadFault → Held → Held
with_fault f s = record { facts = s.facts; handles = s.handles; fault = lesser_some fault_cmp s.fault (Some f) }

-- the facts of an object: the name of its type, and its fields
abbrev pub object_facts : Text → Text → List (Text × Field) → List Fact
object_facts id name fields = map (fact_at id) ((typename, Leaf (Words name)) ∷ fields)

-- what stands under `__typename` is a Name
abbrev pub HaveTypeNames : List Fact → Type 0
HaveTypeNames facts = AllByRecursion (λ f. bytes_eq f.key typename ≡ true → IsTypeName f.value) facts

-- a row whose fields are in byte order of their keys
pub record IsWhole (r : FactRow) : Type 0 where
  pub row : IsFactRow r
  pub order : AreInOrder (keys_of r.fields)

-- one field of one record has two values
pub record HaveClash (facts : List Fact) : Type 0 where
  pub one : Fact
  pub other : Fact
  pub here : Among one facts
  pub there : Among other facts
  pub id : one.id ≡ other.id
  pub key : one.key ≡ other.key
  pub differ : field_eq one.value other.value ≡ false

-- where facts are not joined to rows, two of them clash
abbrev pub IsUnjoined : List Fact → Untaken → Type 0
IsUnjoined facts (Fault f) = ⊥
IsUnjoined facts Clash = HaveClash facts
IsUnjoined facts NoMemory = Unit {0}

-- the verdict refuses because one field of one record has two values
pub record IsConflict (v : Verdict) : Type 0 where
  pub path : Path
  pub id : Text
  pub key : Text
  pub first : Field
  pub second : Field
  pub refused : v ≡ refusal (record { path = path; cause = Conflict id key first second })

-- no fault is reported, so that the verdict refuses for a conflict
pub record IsClash (r : Report) : Type 0 where
  pub faultless : least fault_cmp r.faults ≡ None
  pub conflict : IsConflict (verdict r)

-- what is told of a report: the fault that the verdict refuses for, or a clash; that memory is lacking says nothing of it
abbrev pub IsUntaken : Report → Untaken → Type 0
IsUntaken r (Fault f) = verdict r ≡ refusal f
IsUntaken r Clash = IsClash r
IsUntaken r NoMemory = Unit {0}

-- ---- laws

-- what reports add one after another, they add together
pub record AddingIsRight : Type 0 where
  pub none : (s : Held) → Adds s s no_report
  pub joins : (s t u : Held) (a b : Report) → Adds s t a → Adds t u b → Adds s u (both a b)
