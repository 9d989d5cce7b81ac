use Rattle.std.proofs.Common.{◌≡◌, List, Some, None, ◌<◌, length, subst, sym, inl, inr}
use Rattle.plan_read.specs.doc_merge.declared.fault.PlaceFault.{PlaceFault}
use Rattle.plan_ir.specs.gql_ast.declared.document.Document.{Document}
use Rattle.plan_ir.specs.gql_ast.declared.place.Placed.{Placed}
use Rattle.plan_ir.specs.gql_graph.Rules.{first_broken}
use Rattle.text_places.specs.gql_sdl.Schemas.{schemas}
use Rattle.plan_project.proofs.Codes.{parse_fault_coded}
use Rattle.plan_project.proofs.PlaceCounts.{schema_fault_placed, documents_fault_placed}
use Rattle.plan_project.proofs.ProjectLaws.{schema_refused, documents_refused, only_trees, found_in_schema, found_in_rules, found_project, accepted_project}
use Rattle.plan_project.proofs.compiling.compile_files.Goals as goal
use Rattle.plan_project.specs.Expansions.{merge_fault}
use Rattle.plan_project.specs.Faults.{IsAt, fault_at}
use Rattle.plan_project.specs.Noting.{IsFaultOfDocuments}
use Rattle.plan_project.specs.Projects.{node_rules}
use Rattle.plan_project.specs.Verdicts.{IsTheProject, texts_of}
use Rattle.plan_ir.specs.schema_rules.Checked.{IsRuleFault}
use Rattle.plan_ir.specs.schema_rules.declared.fault.NodeFault.{NodeFault}
use Rattle.plan_ir.specs.schema_types.DocumentRules.{places_of}
use Rattle.plan_ir.specs.schema_tables.Types.{Defs}

pub fault_of-requires : goal.fault_of-requires
fault_of-requires c = parse_fault_coded schemas 0 c.as_bytes.result.now c.in-Err.fault c.in-Err.ensures.fault

pub returns-in-Err-clause-fault : goal.returns-in-Err-clause-fault
returns-in-Err-clause-fault c =
    schema_refused c.as_bytes.result.now c.args.schema.now.1 (texts_of c.args.documents.now) c.in-Err.fault c.fault_of.result c.as_bytes.ensures.value c.in-Err.ensures.fault c.fault_of.ensures

pub returns-in-Err-parse_documents-clause-fault : goal.returns-in-Err-parse_documents-clause-fault
returns-in-Err-parse_documents-clause-fault c =
    documents_refused c.as_bytes.result.now c.args.schema.now.1 (texts_of c.args.documents.now) c.in-Ok.tree c.in-Err-parse_documents.fault c.fault_of-in-Err-parse_documents.result
    c.as_bytes.ensures.value c.in-Ok.ensures.found c.in-Err-parse_documents.ensures.fault c.fault_of-in-Err-parse_documents.ensures

pub schema_fault-requires : goal.schema_fault-requires
schema_fault-requires c =
    subst (λ (f : NodeFault). f.node < length c.in-Ok.tree.places) (sym c.in-Err-Rule.fault-is)
    (schema_fault_placed c.as_bytes.result.now c.in-Ok.tree c.in-Err-Rule.fault c.in-Ok.ensures.found (subst (IsRuleFault c.in-Ok.tree.tree.definitions) c.in-Err-Rule.field-0-is c.in-Err-Rule.ensures.fault))

pub returns-in-Err-Rule-clause-fault : goal.returns-in-Err-Rule-clause-fault
returns-in-Err-Rule-clause-fault c =
    let trees = only_trees c.as_bytes.result.now c.args.schema.now.1 (texts_of c.args.documents.now) c.parse_schema.result c.in-Ok.tree c.in-Ok-parse_documents.trees
    c.as_bytes.ensures.value c.in-Ok.is c.in-Ok.ensures.found c.parse_schema.ensures.only c.in-Ok-parse_documents.ensures.found in
    let broken = subst (IsRuleFault c.in-Ok.tree.tree.definitions) c.in-Err-Rule.field-0-is c.in-Err-Rule.ensures.fault in
    let at : IsAt c.in-Ok.tree.places c.in-Err-Rule.fault.rule c.in-Err-Rule.fault.node c.schema_fault.result =
    subst (λ (f : NodeFault). IsAt c.in-Ok.tree.places f.rule f.node c.schema_fault.result) c.in-Err-Rule.fault-is c.schema_fault.ensures in
    found_in_schema c.args.schema.now.1 (texts_of c.args.documents.now) c.in-Ok.tree c.in-Ok-parse_documents.trees trees c.schema_fault.result
    (record { rule = c.in-Err-Rule.fault.rule; node = c.in-Err-Rule.fault.node; first = broken; at = at })

pub new-requires : goal.new-requires
new-requires c =
    let trees = only_trees c.as_bytes.result.now c.args.schema.now.1 (texts_of c.args.documents.now) c.parse_schema.result c.in-Ok.tree c.in-Ok-parse_documents.trees
    c.as_bytes.ensures.value c.in-Ok.is c.in-Ok.ensures.found c.parse_schema.ensures.only c.in-Ok-parse_documents.ensures.found in
    accepted_project c.args.schema.now.1 (texts_of c.args.documents.now) c.in-Ok-build.schema c.in-Ok-parse_documents.trees
    (found_project c.args.schema.now.1 (texts_of c.args.documents.now) c.in-Ok.tree c.in-Ok-parse_documents.trees trees c.in-Ok-build.schema
    c.in-Ok-build.ensures.built c.in-Ok-build.ensures.sound c.in-Ok-check_documents.ensures.met c.in-Ok-check_documents.ensures.sizes c.in-Ok-check_documents.ensures.merges)

pub returns-in-Ok-new-clause-project : goal.returns-in-Ok-new-clause-project
returns-in-Ok-new-clause-project c =
    let trees = only_trees c.as_bytes.result.now c.args.schema.now.1 (texts_of c.args.documents.now) c.parse_schema.result c.in-Ok.tree c.in-Ok-parse_documents.trees
    c.as_bytes.ensures.value c.in-Ok.is c.in-Ok.ensures.found c.parse_schema.ensures.only c.in-Ok-parse_documents.ensures.found in
    subst (λ (p : Defs × List (Placed Document)). IsTheProject c.args.schema.now.1 (texts_of c.args.documents.now) p.0 p.1) (sym c.in-Ok-new.ensures)
    (found_project c.args.schema.now.1 (texts_of c.args.documents.now) c.in-Ok.tree c.in-Ok-parse_documents.trees trees c.in-Ok-build.schema
    c.in-Ok-build.ensures.built c.in-Ok-build.ensures.sound c.in-Ok-check_documents.ensures.met c.in-Ok-check_documents.ensures.sizes c.in-Ok-check_documents.ensures.merges)

pub documents_fault-requires : goal.documents_fault-requires
documents_fault-requires c =
    let broken : first_broken (node_rules c.in-Ok-build.schema c.in-Ok-parse_documents.trees) ≡ Some (c.in-Err-Node.fault.rule, c.in-Err-Node.fault.node) =
    subst (IsFaultOfDocuments c.in-Ok-build.schema c.in-Ok-parse_documents.trees) c.in-Err-Node.field-0-is c.in-Err-Node.ensures.fault in
    subst (λ (f : NodeFault). f.node < length (places_of c.in-Ok-parse_documents.trees)) (sym c.in-Err-Node.fault-is)
    (documents_fault_placed c.in-Ok-build.schema (texts_of c.args.documents.now) c.in-Ok-parse_documents.trees c.in-Err-Node.fault c.in-Ok-parse_documents.ensures.found.are broken)

pub returns-in-Err-Node-clause-fault : goal.returns-in-Err-Node-clause-fault
returns-in-Err-Node-clause-fault c =
    let trees = only_trees c.as_bytes.result.now c.args.schema.now.1 (texts_of c.args.documents.now) c.parse_schema.result c.in-Ok.tree c.in-Ok-parse_documents.trees
    c.as_bytes.ensures.value c.in-Ok.is c.in-Ok.ensures.found c.parse_schema.ensures.only c.in-Ok-parse_documents.ensures.found in
    let broken : first_broken (node_rules c.in-Ok-build.schema c.in-Ok-parse_documents.trees) ≡ Some (c.in-Err-Node.fault.rule, c.in-Err-Node.fault.node) =
    subst (IsFaultOfDocuments c.in-Ok-build.schema c.in-Ok-parse_documents.trees) c.in-Err-Node.field-0-is c.in-Err-Node.ensures.fault in
    let at : IsAt (places_of c.in-Ok-parse_documents.trees) c.in-Err-Node.fault.rule c.in-Err-Node.fault.node c.documents_fault.result =
    subst (λ (f : NodeFault). IsAt (places_of c.in-Ok-parse_documents.trees) f.rule f.node c.documents_fault.result) c.in-Err-Node.fault-is c.documents_fault.ensures in
    found_in_rules c.args.schema.now.1 (texts_of c.args.documents.now) c.in-Ok.tree c.in-Ok-parse_documents.trees trees c.in-Ok-build.schema c.documents_fault.result
    c.in-Ok-build.ensures.built c.in-Ok-build.ensures.sound
    (inl (record { rule = c.in-Err-Node.fault.rule; node = c.in-Err-Node.fault.node; first = broken; at = at }))

pub returns-in-Err-Place-clause-fault : goal.returns-in-Err-Place-clause-fault
returns-in-Err-Place-clause-fault c =
    let trees = only_trees c.as_bytes.result.now c.args.schema.now.1 (texts_of c.args.documents.now) c.parse_schema.result c.in-Ok.tree c.in-Ok-parse_documents.trees
    c.as_bytes.ensures.value c.in-Ok.is c.in-Ok.ensures.found c.parse_schema.ensures.only c.in-Ok-parse_documents.ensures.found in
    let broken : (first_broken (node_rules c.in-Ok-build.schema c.in-Ok-parse_documents.trees) ≡ None)
    × (merge_fault c.in-Ok-build.schema c.in-Ok-parse_documents.trees ≡ Some c.in-Err-Place.fault) =
    subst (IsFaultOfDocuments c.in-Ok-build.schema c.in-Ok-parse_documents.trees) c.in-Err-Place.field-0-is c.in-Err-Place.ensures.fault in
    let is : c.fault_at.result ≡ fault_at c.in-Err-Place.fault.place c.in-Err-Place.fault.rule =
    subst (λ (f : PlaceFault). c.fault_at.result ≡ fault_at f.place f.rule) c.in-Err-Place.fault-is c.fault_at.ensures in
    found_in_rules c.args.schema.now.1 (texts_of c.args.documents.now) c.in-Ok.tree c.in-Ok-parse_documents.trees trees c.in-Ok-build.schema c.fault_at.result
    c.in-Ok-build.ensures.built c.in-Ok-build.ensures.sound
    (inr (record { met = broken.0; found = c.in-Err-Place.fault; first = broken.1; fault = is }))
