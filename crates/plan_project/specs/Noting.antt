-- What is noted of operations and fragments, one after another: of each of the rules E1, E2, V23 and V24 the least place. Of one definition
-- the first of these rules that it breaks is noted.
use Rattle.std.specs.Prelude.{◌≡◌, ℕ, cond, List, [], ◌∷◌, Option, Some, None}
use Rattle.plan_read.specs.doc_merge.Faults.{first_fault, fault_of}
use Rattle.plan_read.specs.doc_merge.Places as places
use Rattle.plan_read.specs.doc_merge.declared.fault.PlaceFault.{PlaceFault}
use Rattle.plan_ir.specs.gql_ast.declared.document.Document.{Document}
use Rattle.plan_ir.specs.gql_ast.declared.place.FilePlace.{FilePlace}
use Rattle.plan_ir.specs.gql_ast.declared.place.Placed.{Placed}
use Rattle.plan_ir.specs.gql_graph.Leasts.{least_from}
use Rattle.plan_ir.specs.gql_graph.Rules.{each, first_broken}
use Rattle.plan_read.specs.plan_expand.Answers.{whole_is}
use Rattle.plan_ir.specs.Projects.{definitions_in}
use Rattle.plan_ir.specs.Expansion.{Whole}
use Rattle.plan_ir.specs.Sizes.{has_too_many_nodes, is_too_deep}
use Rattle.plan_project.specs.Expansions.{merge_fault, name_node, size_rules, whole_at}
use Rattle.plan_project.specs.Projects.{node_rules}
use Rattle.plan_project.specs.declared.fault.DocumentsFault.{DocumentsFault}
use Rattle.plan_project.specs.declared.fault.DocumentsFault.TheVariants as D
use Rattle.plan_project.specs.declared.least_faults.LeastFaults.{LeastFaults}
use Rattle.plan_ir.specs.schema_rules.declared.fault.Rule.{Rule}
use Rattle.plan_ir.specs.schema_rules.declared.fault.Rule.TheVariants as R
use Rattle.plan_ir.specs.schema_tables.Types.{Defs}
use Rattle.plan_ir.specs.schema_types.Sites.{DefinitionAt}

-- ---- of what a definition becomes, and the nodes of its name

abbrev pub nodes_of_size : Option Whole → List ℕ → List ℕ
nodes_of_size w ns = cond (whole_is has_too_many_nodes w) ns []

abbrev pub nodes_of_depth : Option Whole → List ℕ → List ℕ
nodes_of_depth w ns = cond (whole_is has_too_many_nodes w) [] (cond (whole_is is_too_deep w) ns [])

-- what a check of the expansion says, where it is within the limits
abbrev pub first_fault_of : Defs → Option Whole → Option PlaceFault
first_fault_of defs None = None
first_fault_of defs (Some w) = cond (has_too_many_nodes w) None (cond (is_too_deep w) None (first_fault defs w.expanded))

-- the place of a fault, of V23 and of V24
abbrev pub place_of_values : Rule → FilePlace → List FilePlace
place_of_values R.V23 p = p ∷ []
place_of_values r p = []

abbrev pub place_of_fields : Rule → FilePlace → List FilePlace
place_of_fields R.V23 p = []
place_of_fields r p = p ∷ []

abbrev pub values_in : Option PlaceFault → List FilePlace
values_in None = []
values_in (Some f) = place_of_values f.rule f.place

abbrev pub fields_in : Option PlaceFault → List FilePlace
fields_in None = []
fields_in (Some f) = place_of_fields f.rule f.place

-- ---- of one definition, by itself

abbrev pub size_at : Defs → List (Placed Document) → DefinitionAt → List ℕ
size_at defs ps d = nodes_of_size (whole_at defs ps d) (name_node d)

abbrev pub depth_at : Defs → List (Placed Document) → DefinitionAt → List ℕ
depth_at defs ps d = nodes_of_depth (whole_at defs ps d) (name_node d)

abbrev pub values_at : Defs → List (Placed Document) → DefinitionAt → List FilePlace
values_at defs ps d = values_in (first_fault_of defs (whole_at defs ps d))

abbrev pub fields_at : Defs → List (Placed Document) → DefinitionAt → List FilePlace
fields_at defs ps d = fields_in (first_fault_of defs (whole_at defs ps d))

-- ---- steps

-- what a check said is noted
pub record HasNotedFault (old new : LeastFaults) (said : Option PlaceFault) : Type 0 where
  pub size : new.size.at ≡ old.size.at
  pub depth : new.depth.at ≡ old.depth.at
  pub values : new.values.at ≡ places.least_from old.values.at (values_in said)
  pub fields : new.fields.at ≡ places.least_from old.fields.at (fields_in said)

-- what becomes of a definition is noted
pub record HasNoted (defs : Defs) (old new : LeastFaults) (w : Option Whole) (nodes : List ℕ) : Type 0 where
  pub size : new.size.at ≡ least_from old.size.at (nodes_of_size w nodes)
  pub depth : new.depth.at ≡ least_from old.depth.at (nodes_of_depth w nodes)
  pub values : new.values.at ≡ places.least_from old.values.at (values_in (first_fault_of defs w))
  pub fields : new.fields.at ≡ places.least_from old.fields.at (fields_in (first_fault_of defs w))

abbrev pub HasNotedAt : Defs → List (Placed Document) → (old new : LeastFaults) → DefinitionAt → Type 0
HasNotedAt defs ps old new d = HasNoted defs old new (whole_at defs ps d) (name_node d)

-- all is noted
pub record HasNotedAll (defs : Defs) (ps : List (Placed Document)) (noted : LeastFaults) : Type 0 where
  pub size : noted.size.at ≡ least_from None (each (size_at defs ps) (definitions_in defs ps))
  pub depth : noted.depth.at ≡ least_from None (each (depth_at defs ps) (definitions_in defs ps))
  pub values : noted.values.at ≡ places.least (each (values_at defs ps) (definitions_in defs ps))
  pub fields : noted.fields.at ≡ places.least (each (fields_at defs ps) (definitions_in defs ps))

-- ---- what is found

abbrev pub node_fault : Rule → ℕ → DocumentsFault
node_fault r n = D.Node (record { rule = r; node = n })

abbrev pub place_fault : Rule → FilePlace → DocumentsFault
place_fault r p = D.Place (fault_of r p)

-- the first rule of which a place is noted
abbrev pub first_noted : (size depth : Option ℕ) → (values fields : Option FilePlace) → Option DocumentsFault
first_noted (Some n) depth values fields = Some (node_fault R.E1 n)
first_noted None (Some n) values fields = Some (node_fault R.E2 n)
first_noted None None (Some p) fields = Some (place_fault R.V23 p)
first_noted None None None (Some p) = Some (place_fault R.V24 p)
first_noted None None None None = None

-- the fault of what operations and fragments become
abbrev pub IsFaultOfExpansions : Defs → List (Placed Document) → DocumentsFault → Type 0
IsFaultOfExpansions defs ps (D.Node f) = first_broken (size_rules defs ps) ≡ Some (f.rule, f.node)
IsFaultOfExpansions defs ps (D.Place f) = (first_broken (size_rules defs ps) ≡ None) × (merge_fault defs ps ≡ Some f)
IsFaultOfExpansions defs ps D.NoMemory = Unit {0}

-- the fault of documents
abbrev pub IsFaultOfDocuments : Defs → List (Placed Document) → DocumentsFault → Type 0
IsFaultOfDocuments defs ps (D.Node f) = first_broken (node_rules defs ps) ≡ Some (f.rule, f.node)
IsFaultOfDocuments defs ps (D.Place f) = (first_broken (node_rules defs ps) ≡ None) × (merge_fault defs ps ≡ Some f)
IsFaultOfDocuments defs ps D.NoMemory = Unit {0}
