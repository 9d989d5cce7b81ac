-- Reading along the syntax trees of documents, by the masked form of collection: what an operation shows at an id, and what a fragment does.
use Rattle.std.specs.Prelude.{ℕ, zero, suc, ◌+◌, false, List, [], ◌∷◌, ◌++◌, codes, Option, Some, None, max}
use Rattle.plan_ir.specs.gql_ast.Sels as sels
use Rattle.plan_ir.specs.gql_ast.Sels.{Sels}
use Rattle.plan_ir.specs.gql_ast.declared.place.FilePlace.{FilePlace}
use Rattle.plan_ir.specs.Expansion.{Project, name_or, spreads_in}
use Rattle.plan_collect.specs.Collection.{Part, Setting, collect, part_of}
use Rattle.plan_ir.specs.schema_tables.Types.{Text, possible, root}
use Rattle.plan_ir.specs.schema_types.Environments.{Values, with_pair}
use Rattle.plan_ir.specs.schema_types.NameRules.{fragment_named}
use Rattle.plan_ir.specs.schema_types.Sites.{FragmentAt, OperationAt}
use Rattle.plan_ir.specs.store_model.Walks.{Found, Slots, read_at, type_of_record}

-- a place for what is added; by the masked form nothing is
abbrev pub no_place : FilePlace
no_place = record { file = 0; line = 0; column = 0 }

-- by the masked form
abbrev pub masked_setting : Project → Values → Setting
masked_setting p own = record { project = p; place = no_place; own = own; whole = false }

-- ---- how many records a read stands at one below another, the first one not counted: at most as many as sets stand in one another

abbrev pub depth_inside : (FragmentAt → ℕ) → Option FragmentAt → ℕ
depth_inside deep None = 0
depth_inside deep (Some f) = deep f

abbrev pub depth_with : (enter : Text → ℕ) → Sels → ℕ
depth_with enter sels.end = 0
depth_with enter (sels.field a n xs ds s rest) = max (depth_with enter s + 1) (depth_with enter rest)
depth_with enter (sels.spread n ds rest) = max (enter n) (depth_with enter rest)
depth_with enter (sels.inline o ds s rest) = max (depth_with enter s) (depth_with enter rest)

-- so many spreads may still be entered, one in another
abbrev pub depth_of : (spreads : ℕ) → Project → Sels → ℕ
depth_of zero p s = depth_with (λ n. 0) s
depth_of (suc k) p s = depth_with (λ n. depth_inside (λ f. depth_of k p f.selections + 1) (fragment_named p.fragments n)) s

-- ---- reading

-- what selections show at an id, for an operation of this root type
abbrev pub part_reads : Project → (own : Values) → (operation_type owner : Text) → Slots → Part → (types : List Text) → (id : Text) → Found
part_reads p own T owner m part types id =
    read_at (collect (masked_setting p own)) (type_of_record T) owner m (depth_of part.spreads p part.selections + 1) types (part ∷ []) id

-- an operation, in its own environment
abbrev pub operation_reads : Project → OperationAt → (own : Values) → (owner : Text) → Slots → (id : Text) → Found
operation_reads p o own owner m id =
    part_reads p own (name_or (root p.defs o.kind)) owner m (part_of (masked_setting p own) o) (name_or (root p.defs o.kind) ∷ []) id

-- the values of a fragment's local variables stand beside the operation's own under marked names, which no document has
abbrev pub with_marked : (own : Values) → (scope : Values) → Values
with_marked own [] = own
with_marked own (x ∷ xs) = with_pair (codes ":" ++ x.0) x.1 (with_marked own xs)

-- and shadow the operation's own
abbrev pub shadowed_by : (own : Values) → (scope : Values) → Values
shadowed_by own [] = own
shadowed_by own (x ∷ xs) = with_pair x.0 x.1 (shadowed_by own xs)

abbrev pub fragment_part : Project → FragmentAt → (own : Values) → (scope : Values) → Part
fragment_part p f own scope = record { spreads = spreads_in p; environment = shadowed_by (with_marked own scope) scope; selections = f.selections }

-- a fragment under an operation of this root type, whose own environment this is, with these values of its local variables
abbrev pub fragment_reads : Project → FragmentAt → (operation_type : Text) → (own : Values) → (scope : Values) → (owner : Text) → Slots → (id : Text) → Found
fragment_reads p f T own scope owner m id =
    part_reads p (with_marked own scope) T owner m (fragment_part p f own scope) (possible p.defs f.on.name) id
