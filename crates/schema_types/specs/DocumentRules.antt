-- The rules on documents in their order, in three groups; the first that does not hold, and the number of the least node where it does not.
use Rattle.std.specs.Prelude.{◌≡◌, ℕ, List, [], ◌∷◌, Some, None}
use Rattle.schema_rules.specs.gql_ast.declared.document.Document.{Document}
use Rattle.schema_rules.specs.gql_ast.declared.place.FilePlace.{FilePlace}
use Rattle.schema_rules.specs.gql_ast.declared.place.Placed.{Placed}
use Rattle.schema_rules.specs.declared.fault.NodeFault.{NodeFault}
use Rattle.schema_rules.specs.declared.fault.Rule.{Rule}
use Rattle.schema_rules.specs.declared.fault.Rule.TheVariants as R
use Rattle.schema_rules.specs.declared.fault.RuleFault.{RuleFault}
use Rattle.schema_rules.specs.declared.fault.RuleFault.TheVariants as F
use Rattle.schema_types.specs.ArgumentRules.{arguments_wrong, arguments_missing, literals_unfit, directives_wrong, variables_wrong}
use Rattle.schema_types.specs.FieldRules.{fields_undefined, sets_wrong, floats_selected, conditions_never_apply, subscriptions_wrong}
use Rattle.schema_types.specs.NameRules.{operations_not_named, fragments_not_unique, conditions_wrong, fragments_not_there, spreads_on_cycles, roots_missing}
use Rattle.schema_rules.specs.gql_graph.Rules.{each, first_broken}
use Rattle.schema_types.specs.Sites.{DefinitionAt, all_definitions}
use Rattle.schema_rules.specs.schema_tables.Types.{Defs}

abbrev pub Rules : Type 0
Rules = List (Rule × List ℕ)

abbrev pub name_rules : Defs → List DefinitionAt → Rules
name_rules defs ds =
    (R.V1, operations_not_named ds) ∷ (R.V2, fragments_not_unique ds) ∷ (R.V3, conditions_wrong defs ds) ∷ (R.V4, fragments_not_there ds)
    ∷ (R.V5, spreads_on_cycles ds) ∷ (R.V6, roots_missing defs ds) ∷ []

abbrev pub field_rules : Defs → List DefinitionAt → Rules
field_rules defs ds =
    (R.V7, fields_undefined defs ds) ∷ (R.V8, sets_wrong defs ds) ∷ (R.V9, floats_selected defs ds) ∷ (R.V10, conditions_never_apply defs ds)
    ∷ (R.V11, subscriptions_wrong defs ds) ∷ []

abbrev pub argument_rules : Defs → List DefinitionAt → Rules
argument_rules defs ds =
    (R.V12, arguments_wrong defs ds) ∷ (R.V13, arguments_missing defs ds) ∷ (R.V14, literals_unfit defs ds) ∷ (R.V15, directives_wrong defs ds)
    ∷ (R.V16, variables_wrong defs ds) ∷ []

abbrev pub trees_of : List (Placed Document) → List Document
trees_of [] = []
trees_of (p ∷ ps) = p.tree ∷ trees_of ps

-- the places of all nodes, in the order of the documents
abbrev pub places_of : List (Placed Document) → List FilePlace
places_of ps = each (λ (p : Placed Document). p.places) ps

-- the documents meet these rules
abbrev pub Meet : (Defs → List DefinitionAt → Rules) → Defs → List (Placed Document) → Type 0
Meet rules defs ps = first_broken (rules defs (all_definitions defs (trees_of ps))) ≡ None

-- the fault of documents that do not meet these rules: the first that they break, at the least of its nodes
abbrev pub BreakRule : (Defs → List DefinitionAt → Rules) → Defs → List (Placed Document) → NodeFault → Type 0
BreakRule rules defs ps f = first_broken (rules defs (all_definitions defs (trees_of ps))) ≡ Some (f.rule, f.node)

abbrev pub AreFaulty : (Defs → List DefinitionAt → Rules) → Defs → List (Placed Document) → RuleFault → Type 0
AreFaulty rules defs ps F.NoMemory = Unit {0}
AreFaulty rules defs ps (F.Rule f) = BreakRule rules defs ps f
