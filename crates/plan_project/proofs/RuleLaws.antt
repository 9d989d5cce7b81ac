-- The rules on documents in four groups, one after another, and then those on what operations and fragments become.
use Rattle.std.proofs.Common.{◌≡◌, List, ◌++◌, Some, ◌∙◌}
use Rattle.plan_ir.specs.gql_ast.declared.document.Document.{Document}
use Rattle.plan_ir.specs.gql_ast.declared.place.Placed.{Placed}
use Rattle.plan_project.specs.Expansions.{size_rules}
use Rattle.plan_project.specs.Noting.{IsFaultOfDocuments, IsFaultOfExpansions}
use Rattle.plan_project.specs.Projects.{node_rules}
use Rattle.plan_project.specs.declared.fault.DocumentsFault.{DocumentsFault}
use Rattle.plan_project.specs.declared.fault.DocumentsFault.TheVariants as D
use Rattle.plan_ir.specs.gql_graph.Rules.{first_broken}
use Rattle.plan_ir.proofs.gql_graph_laws.LeastSteps.{first_before, first_after}
use Rattle.relay_dirs.specs.relay_rules.RelayRules.{document_rules, relay_rules}
use Rattle.plan_ir.specs.schema_types.DocumentRules.{Rules, name_rules, field_rules, argument_rules, trees_of, Meet, BreakRule, AreFaulty}
use Rattle.plan_ir.specs.schema_types.Sites.{DefinitionAt, all_definitions}
use Rattle.plan_ir.specs.schema_tables.Types.{Defs}
use Rattle.plan_ir.specs.schema_rules.declared.fault.NodeFault.{NodeFault}
use Rattle.plan_ir.specs.schema_rules.declared.fault.RuleFault.{RuleFault}
use Rattle.plan_ir.specs.schema_rules.declared.fault.RuleFault.TheVariants as F

module _ (defs : Defs) (ps : List (Placed Document)) where
  abbrev ds : List DefinitionAt
  ds = all_definitions defs (trees_of ps)

  -- the rules on arguments, and those on the directives after Relay
  abbrev last : Rules
  last = argument_rules defs ds ++ relay_rules defs ds

  -- the rules on fields, and those after them
  abbrev later : Rules
  later = field_rules defs ds ++ last

  names_broken : (f : NodeFault) → BreakRule name_rules defs ps f → BreakRule document_rules defs ps f
  names_broken f b = first_before (name_rules defs ds) later (f.rule, f.node) b

  fields_broken : (f : NodeFault) → Meet name_rules defs ps → BreakRule field_rules defs ps f → BreakRule document_rules defs ps f
  fields_broken f names b = first_after (name_rules defs ds) later names ∙ first_before (field_rules defs ds) last (f.rule, f.node) b

  arguments_broken : (f : NodeFault) → Meet name_rules defs ps → Meet field_rules defs ps → BreakRule argument_rules defs ps f → BreakRule document_rules defs ps f
  arguments_broken f names fields b =
      first_after (name_rules defs ds) later names ∙ first_after (field_rules defs ds) last fields
      ∙ first_before (argument_rules defs ds) (relay_rules defs ds) (f.rule, f.node) b

  relay_broken : (f : NodeFault) → Meet name_rules defs ps → Meet field_rules defs ps → Meet argument_rules defs ps → BreakRule relay_rules defs ps f
      → BreakRule document_rules defs ps f
  relay_broken f names fields arguments b =
      first_after (name_rules defs ds) later names ∙ first_after (field_rules defs ds) last fields
      ∙ first_after (argument_rules defs ds) (relay_rules defs ds) arguments ∙ b

  pub names_faulty : (e : RuleFault) → AreFaulty name_rules defs ps e → AreFaulty document_rules defs ps e
  names_faulty F.NoMemory h = tt
  names_faulty (F.Rule f) h = names_broken f h

  pub fields_faulty : (e : RuleFault) → Meet name_rules defs ps → AreFaulty field_rules defs ps e → AreFaulty document_rules defs ps e
  fields_faulty F.NoMemory names h = tt
  fields_faulty (F.Rule f) names h = fields_broken f names h

  pub arguments_faulty : (e : RuleFault) → Meet name_rules defs ps → Meet field_rules defs ps → AreFaulty argument_rules defs ps e → AreFaulty document_rules defs ps e
  arguments_faulty F.NoMemory names fields h = tt
  arguments_faulty (F.Rule f) names fields h = arguments_broken f names fields h

  pub relay_faulty : (e : RuleFault) → Meet name_rules defs ps → Meet field_rules defs ps → Meet argument_rules defs ps → AreFaulty relay_rules defs ps e
      → AreFaulty document_rules defs ps e
  relay_faulty F.NoMemory names fields arguments h = tt
  relay_faulty (F.Rule f) names fields arguments h = relay_broken f names fields arguments h

  pub all_met : Meet name_rules defs ps → Meet field_rules defs ps → Meet argument_rules defs ps → Meet relay_rules defs ps → Meet document_rules defs ps
  all_met names fields arguments relay =
      first_after (name_rules defs ds) later names ∙ first_after (field_rules defs ds) last fields
      ∙ first_after (argument_rules defs ds) (relay_rules defs ds) arguments ∙ relay

  -- ---- and then what operations and fragments become

  -- the documents break one of those rules
  pub rules_broken : (f : NodeFault) → BreakRule document_rules defs ps f → first_broken (node_rules defs ps) ≡ Some (f.rule, f.node)
  rules_broken f b = first_before (document_rules defs ds) (size_rules defs ps) (f.rule, f.node) b

  pub all_nodes : Meet document_rules defs ps → first_broken (node_rules defs ps) ≡ first_broken (size_rules defs ps)
  all_nodes meet = first_after (document_rules defs ds) (size_rules defs ps) meet

  -- what they become breaks one
  pub expansions_faulty : (e : DocumentsFault) → Meet document_rules defs ps → IsFaultOfExpansions defs ps e → IsFaultOfDocuments defs ps e
  expansions_faulty (D.Node f) meet h = all_nodes meet ∙ h
  expansions_faulty (D.Place f) meet h = (all_nodes meet ∙ h.0, h.1)
  expansions_faulty D.NoMemory meet h = tt
