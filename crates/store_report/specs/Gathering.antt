-- What is gathered of a response while it is walked (this project's own): the puts, the pages, and the least of the faults.
use Rattle.std.specs.Prelude.{◌≡◌, true, List, [], ◌∷◌, ◌++◌, bytes_eq, ◌&&◌, Option, Some, None, ℕ, zero, suc, length}
use Rattle.std.specs.List.{AllByRecursion, list_any}
use Rattle.std.specs.declared.cmp.Ordering.{Ordering}
use Rattle.gql_order.specs.gql_plain.Names.{is_name}
use Rattle.gql_order.specs.gql_plain.declared.plain.Plain.TheVariants.{Text as Words}
use Rattle.store_model.specs.store_record.Keys.{Text}
use Rattle.store_model.specs.store_record.declared.field.Field.{Field}
use Rattle.store_model.specs.store_record.declared.field.Field.TheVariants.{Leaf}
use Rattle.store_model.specs.Records.{typename}
use Rattle.store_model.specs.Says.{Put, Report, both, put_at, Path}
use Rattle.store_model.specs.Verdicts.{fault_cmp, lesser_of, least, Verdict, unless_fault, verdict}
use Rattle.store_model.specs.declared.facts.HandleFact.{HandleFact}
use Rattle.store_model.specs.declared.payload_fault.PayloadFault.{PayloadFault}

pub record Gathering : Type 0 where
  pub puts : List Put
  pub pages : List HandleFact
  pub fault : Option PayloadFault

abbrev pub nothing : Gathering
nothing = record { puts = []; pages = []; fault = None }

-- the lesser of those that are there, the first of two that tie
abbrev pub lesser_some : {A : Type 0} → (A → A → Ordering) → Option A → Option A → Option A
lesser_some cmp None b = b
lesser_some cmp (Some a) b = Some (lesser_of cmp a b)

-- with what a report says behind it
abbrev pub gathered_onto : Gathering → Report → Gathering
gathered_onto g r = record { puts = g.puts ++ r.puts; pages = g.pages ++ r.pages; fault = lesser_some fault_cmp g.fault (least fault_cmp r.faults) }

-- a put whose fact has another value
abbrev pub put_with : Field → Put → Put
put_with value p = record { fact = record { id = p.fact.id; key = p.fact.key; value = value }; path = p.path }

-- the puts, the one at a place with another value
abbrev pub puts_with : ℕ → Field → List Put → List Put
puts_with at value [] = []
puts_with zero value (p ∷ ps) = put_with value p ∷ ps
puts_with (suc at) value (p ∷ ps) = p ∷ puts_with at value ps

abbrev pub with_value : ℕ → Field → Gathering → Gathering
with_value at value g = record { puts = puts_with at value g.puts; pages = g.pages; fault = g.fault }

-- what is gathered is taken for its fault, or for its puts and pages
abbrev pub verdict_of : Gathering → Verdict
verdict_of g = unless_fault g.fault (record { puts = g.puts; pages = g.pages; faults = [] })

-- ---- what puts are like, where each object has the name of its type

abbrev pub IsTypeName : Field → Type 0
IsTypeName value = (name : Text) × (value ≡ Leaf (Words name)) × (is_name name ≡ true)

-- a put under `__typename` holds a Name, and each id has such a put
pub record IsNamed (puts : List Put) (p : Put) : Type 0 where
  pub name : bytes_eq p.fact.key typename ≡ true → IsTypeName p.fact.value
  pub there : list_any (λ q. bytes_eq q.fact.id p.fact.id && bytes_eq q.fact.key typename) puts ≡ true

abbrev pub AreNamed : List Put → Type 0
AreNamed puts = AllByRecursion (IsNamed puts) puts

-- ---- laws

-- one report behind another is gathered as both together; a field's value may be set when what stands below it is said;
-- and what is gathered of a report alone is taken for what the report is
pub record GatheringIsRight : Type 0 where
  pub joins : (g : Gathering) (a b : Report) → gathered_onto (gathered_onto g a) b ≡ gathered_onto g (both a b)
  pub set : (g : Gathering) (id key : Text) (old value : Field) (path : Path) (r : Report)
      → with_value (length g.puts) value (gathered_onto (gathered_onto g (put_at id key old path)) r) ≡ gathered_onto g (both (put_at id key value path) r)
  pub verdict : (r : Report) → verdict_of (gathered_onto nothing r) ≡ verdict r
