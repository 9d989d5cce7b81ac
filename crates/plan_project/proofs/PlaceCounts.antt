-- The node of a fault is one of those that have a place.
use Rattle.std.proofs.Common.{◌≡◌, ℕ, suc, ◌<◌, Bool, cond, List, [], ◌∷◌, ◌++◌, length, Option, Some, None, IfSome, refl, sym, subst, ◌∙◌, length-append, arith}
use Rattle.std.specs.List.{AllByRecursion}
use Rattle.plan_ir.specs.gql_ast.declared.document.Document.{Document}
use Rattle.plan_ir.specs.gql_ast.declared.place.Placed.{Placed}
use Rattle.plan_ir.specs.gql_ast.declared.schema.SchemaTree.{SchemaTree}
use Rattle.plan_ir.specs.gql_graph.Rules.{each, first_broken}
use Rattle.text_places.specs.gql_sdl.Trees.{IsSchema}
use Rattle.plan_read.specs.plan_expand.Answers.{whole_is}
use Rattle.plan_ir.specs.Projects.{definitions_in}
use Rattle.plan_ir.specs.Expansion.{Whole}
use Rattle.plan_ir.specs.Sizes.{has_too_many_nodes, is_too_deep}
use Rattle.plan_project.specs.Expansions.{name_node, node_of, size_rules, whole_at}
use Rattle.plan_project.specs.Projects.{AreDocuments, node_rules}
use Rattle.relay_dirs.proofs.relay_rules_laws.RulePlaces.{relay_rules_below}
use Rattle.relay_dirs.specs.relay_rules.RelayRules.{document_rules, relay_rules}
use Rattle.plan_ir.proofs.schema_rules_laws.RulePlaces.{fault_below}
use Rattle.plan_ir.specs.schema_rules.Checked.{first_fault}
use Rattle.plan_ir.specs.schema_rules.declared.fault.NodeFault.{NodeFault}
use Rattle.plan_ir.specs.schema_rules.declared.fault.Rule.{Rule}
use Rattle.plan_ir.specs.schema_tables.Types.{Text, Defs}
use Rattle.plan_ir.proofs.schema_trees_laws.BelowSteps.{all_append, below_cond, below_each, below_first}
use Rattle.plan_ir.specs.schema_trees.Located.{Located}
use Rattle.plan_ir.specs.schema_trees.Numbers.{Below, HoldsName}
use Rattle.plan_ir.proofs.schema_types_laws.RulePlaces.{name_rules_below, field_rules_below, argument_rules_below}
use Rattle.plan_ir.proofs.schema_types_laws.SiteNumberLaws.{all_below}
use Rattle.plan_ir.specs.schema_types.DocumentRules.{name_rules, field_rules, argument_rules, trees_of, places_of}
use Rattle.plan_ir.specs.schema_types.SiteNumbers.{DefinitionBelow, DefinitionsBelow, documents_nodes}
use Rattle.plan_ir.specs.schema_types.Sites.{DefinitionAt, all_definitions, fragment, operation}
use Rattle.text_places.proofs.PlaceCounts.{schema_places, document_places}

-- of a schema that was read
pub schema_fault_placed : (text : Text) (tree : Placed SchemaTree) (f : NodeFault) → IsSchema 0 text tree → first_fault tree.tree.definitions ≡ Some (f.rule, f.node)
    → f.node < length tree.places
schema_fault_placed text tree f s e =
    subst (λ (n : ℕ). f.node < n) (sym (schema_places 0 text tree s)) (fault_below tree.tree.definitions f.rule f.node e)

-- ---- documents

-- documents that were read have as many places as rules count nodes
places_count : (n : ℕ) (texts : List Text) (ps : List (Placed Document)) → AreDocuments n texts ps → length (places_of ps) ≡ documents_nodes (trees_of ps)
places_count n texts [] d = refl
places_count n [] (p ∷ ps) d = absurd d
places_count n (text ∷ texts) (p ∷ ps) d =
    let first = document_places n text p d.0 in
    let rest = places_count (suc n) texts ps d.1 in
    length-append p.places (places_of ps) ∙ omega (arith, first, rest)

-- the node of a name is one of these, and so are those of the names of what is too large
name_below : (m : ℕ) (n : Option Located) → IfSome n (HoldsName (λ t k. k < m)) → Below m (node_of n)
name_below m None h = tt
name_below m (Some n) h = (h, tt)

definition_below : (m : ℕ) (d : DefinitionAt) → DefinitionBelow m d → Below m (name_node d)
definition_below m (operation o) h = name_below m o.name h.1
definition_below m (fragment f) h = (h.0, tt)

sizes_below : (m : ℕ) (defs : Defs) (ps : List (Placed Document)) (test : Whole → Bool) (ds : List DefinitionAt) → DefinitionsBelow m ds
    → Below m (each (λ d. cond (whole_is test (whole_at defs ps d)) (name_node d) []) ds)
sizes_below m defs ps test ds h =
    below_each m (DefinitionBelow m) (λ d. cond (whole_is test (whole_at defs ps d)) (name_node d) [])
    (λ d g. below_cond m (whole_is test (whole_at defs ps d)) (name_node d) [] (definition_below m d g) tt) ds h

size_rules_below : (m : ℕ) (defs : Defs) (ps : List (Placed Document)) → DefinitionsBelow m (definitions_in defs ps)
    → AllByRecursion (λ (r : Rule × List ℕ). Below m r.1) (size_rules defs ps)
size_rules_below m defs ps h =
    (sizes_below m defs ps has_too_many_nodes (definitions_in defs ps) h, (sizes_below m defs ps is_too_deep (definitions_in defs ps) h, tt))

-- the first rule that is broken at a node is broken at one of the nodes of the documents
node_below : (defs : Defs) (ps : List (Placed Document)) (found : Rule × ℕ) → first_broken (node_rules defs ps) ≡ Some found → found.1 < documents_nodes (trees_of ps)
node_below defs ps found e =
    let ds = trees_of ps in
    let m = documents_nodes ds in
    let here = all_definitions defs ds in
    let below = all_below defs ds in
    let last = all_append (λ (r : Rule × List ℕ). Below m r.1) (argument_rules defs here) (relay_rules defs here) (argument_rules_below m defs here below) (relay_rules_below m defs here below) in
    let later = all_append (λ (r : Rule × List ℕ). Below m r.1) (field_rules defs here) (argument_rules defs here ++ relay_rules defs here) (field_rules_below m defs here below) last in
    let all =
    all_append (λ (r : Rule × List ℕ). Below m r.1) (name_rules defs here) (field_rules defs here ++ (argument_rules defs here ++ relay_rules defs here)) (name_rules_below m defs here below) later in
    below_first m (node_rules defs ps) (all_append (λ (r : Rule × List ℕ). Below m r.1) (document_rules defs here) (size_rules defs ps) all (size_rules_below m defs ps below)) found e

-- of documents that were read
pub documents_fault_placed : (defs : Defs) (texts : List Text) (ps : List (Placed Document)) (f : NodeFault) → AreDocuments 1 texts ps
    → first_broken (node_rules defs ps) ≡ Some (f.rule, f.node) → f.node < length (places_of ps)
documents_fault_placed defs texts ps f d e =
    subst (λ (n : ℕ). f.node < n) (sym (places_count 1 texts ps d)) (node_below defs ps (f.rule, f.node) e)
