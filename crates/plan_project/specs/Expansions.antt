-- What the operations and the fragments of documents become, and the rules on that: E1 and E2, and then V23 and V24 (this project's own).
-- They are stated of documents that meet V1 to V22.
use Rattle.std.specs.Prelude.{◌≡◌, ℕ, false, cond, List, [], ◌∷◌, map, Option, None, Some, option_map}
use Rattle.plan_read.specs.doc_merge.Faults.{field_differences, fault_or, values_unfit}
use Rattle.plan_read.specs.doc_merge.Places.{least}
use Rattle.plan_read.specs.doc_merge.declared.fault.PlaceFault.{PlaceFault}
use Rattle.plan_ir.specs.gql_ast.declared.document.Document.{Document}
use Rattle.plan_ir.specs.gql_ast.declared.document.Kind.{Kind}
use Rattle.plan_ir.specs.gql_ast.declared.place.FilePlace.{FilePlace}
use Rattle.plan_ir.specs.gql_ast.declared.place.Placed.{Placed}
use Rattle.plan_ir.specs.gql_graph.Rules.{each}
use Rattle.plan_read.specs.plan_expand.Answers.{whole_in, whole_is}
use Rattle.plan_ir.specs.Projects.{definitions_in}
use Rattle.plan_ir.specs.Expansion.{Whole}
use Rattle.plan_ir.specs.OperationText.{operation_text}
use Rattle.plan_ir.specs.Sizes.{has_too_many_nodes, is_too_deep}
use Rattle.plan_ir.specs.declared.form.Form.TheVariants as F
use Rattle.plan_text.specs.Lines.{line_of}
use Rattle.plan_text.specs.declared.artifact.Artifact.TheVariants as A
use Rattle.plan_ir.specs.schema_rules.declared.fault.Rule.TheVariants as R
use Rattle.plan_ir.specs.schema_tables.Types.{Text, Defs}
use Rattle.plan_ir.specs.schema_trees.Located.{Located}
use Rattle.plan_ir.specs.schema_types.DocumentRules.{Rules}
use Rattle.plan_ir.specs.schema_types.Sites.{DefinitionAt, operation, fragment}

-- ---- what definitions become

-- by its name; an operation that has none, which V1 refuses, becomes nothing
abbrev pub whole_of_operation : Defs → List (Placed Document) → Option Located → Option Whole
whole_of_operation defs ps None = None
whole_of_operation defs ps (Some n) = whole_in defs ps F.Operation n.name

abbrev pub whole_at : Defs → List (Placed Document) → DefinitionAt → Option Whole
whole_at defs ps (operation o) = whole_of_operation defs ps o.name
whole_at defs ps (fragment f) = whole_in defs ps F.Fragment f.name.name

-- ---- E1 and E2: rules like those before, at the node of the name

abbrev pub node_of : Option Located → List ℕ
node_of None = []
node_of (Some n) = n.at ∷ []

abbrev pub name_node : DefinitionAt → List ℕ
name_node (operation o) = node_of o.name
name_node (fragment f) = f.name.at ∷ []

abbrev pub too_many : Defs → List (Placed Document) → List DefinitionAt → List ℕ
too_many defs ps ds = each (λ d. cond (whole_is has_too_many_nodes (whole_at defs ps d)) (name_node d) []) ds

-- what has too many nodes is not asked for its depth: E1 counts before E2
abbrev pub too_deep : Defs → List (Placed Document) → List DefinitionAt → List ℕ
too_deep defs ps ds = each (λ d. cond (whole_is is_too_deep (whole_at defs ps d)) (name_node d) []) ds

abbrev pub size_rules : Defs → List (Placed Document) → Rules
size_rules defs ps = (R.E1, too_many defs ps (definitions_in defs ps)) ∷ (R.E2, too_deep defs ps (definitions_in defs ps)) ∷ []

-- one definition breaks neither
abbrev pub IsWithinLimits : Defs → List (Placed Document) → DefinitionAt → Type 0
IsWithinLimits defs ps d = (whole_is has_too_many_nodes (whole_at defs ps d) ≡ false) × (whole_is is_too_deep (whole_at defs ps d) ≡ false)

-- ---- V23 and V24: at places, since the nodes of one expansion come from several fragments

abbrev pub values_unfit_at : Defs → Option Whole → List FilePlace
values_unfit_at defs None = []
values_unfit_at defs (Some w) = values_unfit defs w.expanded.kind w.expanded

abbrev pub differences_at : Defs → Option Whole → List FilePlace
differences_at defs None = []
differences_at defs (Some w) = field_differences defs w.expanded

-- V23 of all definitions, and then V24 of all, each at the least of its places
abbrev pub merge_fault : Defs → List (Placed Document) → Option PlaceFault
merge_fault defs ps =
    fault_or (least (each (λ d. values_unfit_at defs (whole_at defs ps d)) (definitions_in defs ps)))
    (least (each (λ d. differences_at defs (whole_at defs ps d)) (definitions_in defs ps)))

-- ---- texts

-- the text of the operation of a name, where there is one
abbrev pub text_named : Defs → List (Placed Document) → Text → Option Text
text_named defs ps n = option_map (λ (w : Whole). operation_text w.expanded) (whole_in defs ps F.Operation n)

-- ---- artifacts: a line for each operation and each fragment, in the order of the files and of their texts

abbrev pub operation_lines : Kind → Option Whole → List Text
operation_lines k None = []
operation_lines k (Some w) = line_of (A.Operation k w.expanded.name (operation_text w.expanded)) ∷ []

abbrev pub fragment_lines : (name on : Text) → List Text
fragment_lines n on = line_of (A.Fragment n on) ∷ []

abbrev pub lines_at : Defs → List (Placed Document) → DefinitionAt → List Text
lines_at defs ps (operation o) = operation_lines o.kind (whole_of_operation defs ps o.name)
lines_at defs ps (fragment f) = fragment_lines f.name.name f.on.name

-- of each definition its line, where it has one
abbrev pub line_lists : Defs → List (Placed Document) → List (List Text)
line_lists defs ps = map (lines_at defs ps) (definitions_in defs ps)

abbrev pub artifact_lines : Defs → List (Placed Document) → List Text
artifact_lines defs ps = each (lines_at defs ps) (definitions_in defs ps)

-- a line, where there is one
abbrev pub list_of : Option Text → List Text
list_of None = []
list_of (Some line) = line ∷ []
