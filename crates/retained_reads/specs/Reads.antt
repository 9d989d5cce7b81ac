-- The reads of a retained operation, and of the pointers that it gives (this project's own).
use Rattle.std.specs.Prelude.{◌≡◌, ℕ, List, Option, Some, None}
use Rattle.std.specs.List.{AllByRecursion}
use Rattle.plan_ir.specs.Expansion.{name_or, operation_named}
use Rattle.relay_machine.specs.Machine.{Project, Retained, definitions_in, documents_of, slots_of}
use Rattle.relay_machine.specs.relay_model.Readings.{fragment_reads, operation_reads}
use Rattle.plan_ir.specs.schema_tables.Types.{Text, root}
use Rattle.plan_ir.specs.schema_types.NameRules.{fragment_named, fragments, operations}
use Rattle.plan_ir.specs.schema_types.Sites.{FragmentAt}
use Rattle.plan_ir.specs.store_model.Records.{Records}
use Rattle.plan_ir.specs.store_model.Walks.{Found, Issued, pointers_in_turn, still}
use Rattle.plan_ir.specs.store_record.Keys as keys

-- what the operation shows in records, the pointers that it gives being of this owner
abbrev pub operation_found : Project → (owner : Text) → Retained → Records → Found
operation_found p owner r m = operation_reads (documents_of p) r.operation r.values owner (slots_of m) keys.root

-- what a fragment shows at an id, under the operation, with these values of its local variables
abbrev pub fragment_found : Project → (owner : Text) → Retained → Records → Issued → Option FragmentAt → Found
fragment_found p owner r m i None = (None, still)
fragment_found p owner r m i (Some f) = fragment_reads (documents_of p) f (name_or (root p.defs r.operation.kind)) r.values i.scope owner (slots_of m) i.id

-- what the fragment of a pointer shows
abbrev pub pointer_found : Project → (owner : Text) → Retained → Records → Issued → Found
pointer_found p owner r m i = fragment_found p owner r m i (fragment_named (fragments (definitions_in p)) i.fragment)

-- the pointers that the operation gives, those that their reads give, and so on, so many turns
abbrev pub pointers_given : Project → (owner : Text) → Retained → Records → (turns : ℕ) → List Issued
pointers_given p owner r m turns = pointers_in_turn (pointer_found p owner r m) turns (operation_found p owner r m).1.issued

-- the operation, and each pointer that it gives however many turns on, shows in the later records what it showed in the earlier ones: the
-- same data, missing, ids stood at, fields looked at and pointers
pub record StaysRead (p : Project) (owner : Text) (earlier later : Records) (r : Retained) : Type 0 where
  pub operation : operation_found p owner r later ≡ operation_found p owner r earlier
  pub pointers : (turns : ℕ) → AllByRecursion (λ i. pointer_found p owner r later i ≡ pointer_found p owner r earlier i) (pointers_given p owner r earlier turns)

-- an operation of the documents, by its name
abbrev pub IsOfDocuments : Project → Retained → Type 0
IsOfDocuments p r = (name : Text) × (operation_named (operations (definitions_in p)) name ≡ Some r.operation)
