-- The project that files are, or its first fault: a fault of a text in the order of the files, a rule of schemas, a rule of documents, a
-- rule of what operations and fragments become.
-- Files are the schema and then the documents, numbered from 0.
use Rattle.std.specs.Prelude.{◌≡◌, ◌⊎◌, ℕ, suc, List, [], ◌∷◌, ◌++◌, Some, None}
use Rattle.plan_ir.specs.gql_ast.declared.document.Document.{Document}
use Rattle.plan_ir.specs.gql_ast.declared.fault.ParseFault.TheVariants.{Syntax}
use Rattle.plan_ir.specs.gql_ast.declared.fault.SyntaxFault.{SyntaxFault}
use Rattle.plan_ir.specs.gql_ast.declared.place.Placed.{Placed}
use Rattle.plan_ir.specs.gql_ast.declared.schema.SchemaTree.{SchemaTree}
use Rattle.text_places.specs.gql_parse.Documents.{documents}
use Rattle.text_places.specs.gql_parse.Trees.{IsDocument}
use Rattle.text_places.specs.gql_sdl.Schemas.{schemas}
use Rattle.text_places.specs.gql_sdl.Trees.{IsSchema}
use Rattle.plan_ir.specs.gql_syntax.Texts.{IsParseFault}
use Rattle.plan_read.specs.doc_merge.declared.fault.PlaceFault.{PlaceFault}
use Rattle.plan_ir.specs.gql_graph.Rules.{first_broken}
use Rattle.plan_project.specs.Expansions.{merge_fault, size_rules}
use Rattle.plan_project.specs.Faults.{fault_at, IsFound}
use Rattle.plan_project.specs.declared.fault.ProjectFault.{ProjectFault}
use Rattle.relay_dirs.specs.relay_rules.RelayRules.{document_rules}
use Rattle.plan_ir.specs.schema_rules.Checked.{IsSound, first_fault}
use Rattle.plan_ir.specs.schema_types.DocumentRules.{Rules, trees_of, places_of, Meet}
use Rattle.plan_ir.specs.schema_types.Sites.{DefinitionAt, all_definitions}
use Rattle.plan_ir.specs.schema_tables.Types.{Text, Defs}
use Rattle.plan_ir.specs.schema_rules.declared.fault.Rule.{Rule}
use Rattle.plan_ir.specs.schema_rules.declared.fault.Rule.TheVariants as R

-- the bytes of documents are these trees; the first has the number `n`
abbrev pub AreDocuments : (n : ℕ) → List Text → List (Placed Document) → Type 0
AreDocuments n [] [] = Unit {0}
AreDocuments n [] (p ∷ ps) = ⊥
AreDocuments n (text ∷ texts) [] = ⊥
AreDocuments n (text ∷ texts) (p ∷ ps) = IsDocument n text p × AreDocuments (suc n) texts ps

-- the trees of a schema and of documents
pub record AreTrees (schema : Text) (texts : List Text) (tree : Placed SchemaTree) (ps : List (Placed Document)) : Type 0 where
  pub schema_is : IsSchema 0 schema tree
  pub documents_are : AreDocuments 1 texts ps

-- all rules on documents themselves, and then those on the sizes of what operations and fragments become
abbrev pub node_rules : Defs → List (Placed Document) → Rules
node_rules defs ps = document_rules defs (all_definitions defs (trees_of ps)) ++ size_rules defs ps

-- ---- the accepted project: what its schema says, and its documents

pub record IsAccepted (schema : Text) (texts : List Text) (defs : Defs) (ps : List (Placed Document)) : Type 0 where
  pub tree : Placed SchemaTree
  pub trees : AreTrees schema texts tree ps
  pub says : defs ≡ tree.tree.definitions
  pub sound : IsSound defs
  pub meet : Meet document_rules defs ps
  pub sizes : first_broken (size_rules defs ps) ≡ None
  pub merges : merge_fault defs ps ≡ None

-- some texts are this project
pub record IsAcceptedProject (defs : Defs) (ps : List (Placed Document)) : Type 0 where
  pub schema : Text
  pub texts : List Text
  pub accepted : IsAccepted schema texts defs ps

-- ---- the first fault

abbrev pub syntax_rule : (code : ℕ) → Rule → Type 0
syntax_rule code R.L1 = code ≡ 1
syntax_rule code R.L2 = code ≡ 2
syntax_rule code R.L3 = code ≡ 3
syntax_rule code R.L4 = code ≡ 4
syntax_rule code R.L5 = code ≡ 5
syntax_rule code R.L6 = code ≡ 6
syntax_rule code R.L7 = code ≡ 7
syntax_rule code R.L8 = code ≡ 8
syntax_rule code r = ⊥

-- the fault of a text, by its rule
pub record IsSyntaxOf (s : SyntaxFault) (f : ProjectFault) : Type 0 where
  pub file : f.file ≡ s.file
  pub line : f.line ≡ s.line
  pub column : f.column ≡ s.column
  pub rule : syntax_rule s.code f.rule

-- the first of these texts that is no document has this fault
abbrev pub IsDocumentsFault : (n : ℕ) → List Text → ProjectFault → Type 0
IsDocumentsFault n [] f = ⊥
IsDocumentsFault n (text ∷ texts) f =
    ((s : SyntaxFault) × IsParseFault documents n text (Syntax s) × IsSyntaxOf s f)
    ⊎ ((p : Placed Document) × IsDocument n text p × IsDocumentsFault (suc n) texts f)

-- the text of the schema is none of a schema, or else a text of a document is none
abbrev pub IsTextFault : (schema : Text) → List Text → ProjectFault → Type 0
IsTextFault schema texts f =
    ((s : SyntaxFault) × IsParseFault schemas 0 schema (Syntax s) × IsSyntaxOf s f)
    ⊎ ((p : Placed SchemaTree) × IsSchema 0 schema p × IsDocumentsFault 1 texts f)

-- the schema breaks a rule: the first of them, at the place of the least of its nodes
abbrev pub Breaks : Placed SchemaTree → ProjectFault → Type 0
Breaks tree f = IsFound (first_fault tree.tree.definitions) tree.places f

-- the documents break no rule at a node, and what an operation or a fragment becomes breaks V23 or V24
pub record IsMergeFault (defs : Defs) (ps : List (Placed Document)) (f : ProjectFault) : Type 0 where
  pub met : first_broken (node_rules defs ps) ≡ None
  pub found : PlaceFault
  pub first : merge_fault defs ps ≡ Some found
  pub fault : f ≡ fault_at found.place found.rule

-- the documents, or what their operations and fragments become, break a rule: the first of them, at the least of its nodes or places
abbrev pub Break : Defs → List (Placed Document) → ProjectFault → Type 0
Break defs ps f = IsFound (first_broken (node_rules defs ps)) (places_of ps) f ⊎ IsMergeFault defs ps f

-- all are read, and the schema breaks a rule
pub record IsSchemaFault (schema : Text) (texts : List Text) (f : ProjectFault) : Type 0 where
  pub tree : Placed SchemaTree
  pub ps : List (Placed Document)
  pub trees : AreTrees schema texts tree ps
  pub breaks : Breaks tree f

-- all are read, the schema breaks no rule, and the documents break one
pub record IsDocumentFault (schema : Text) (texts : List Text) (f : ProjectFault) : Type 0 where
  pub tree : Placed SchemaTree
  pub ps : List (Placed Document)
  pub trees : AreTrees schema texts tree ps
  pub sound : IsSound tree.tree.definitions
  pub breaks : Break tree.tree.definitions ps f

abbrev pub IsFirstFault : (schema : Text) → List Text → ProjectFault → Type 0
IsFirstFault schema texts f = IsTextFault schema texts f ⊎ (IsSchemaFault schema texts f ⊎ IsDocumentFault schema texts f)
