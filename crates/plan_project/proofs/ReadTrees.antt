-- The definitions of documents that are read, with their places: they are sound, and their variables lie within the limit of nesting.
use Rattle.std.proofs.Common.{◌≡◌, ◌≤◌, ℕ, suc, ◌+◌, List, [], ◌∷◌, ◌++◌, map, Option, Some, None, refl, sym, subst, arith}
use Rattle.std.specs.List.{AllByRecursion}
use Rattle.plan_ir.specs.gql_ast.Sels as sels
use Rattle.plan_ir.specs.gql_ast.Sels.{Sels}
use Rattle.plan_ir.specs.gql_ast.TypeView.{ty_of}
use Rattle.plan_ir.specs.gql_ast.Value.{val_depth}
use Rattle.plan_ir.specs.gql_ast.ValueView.{value_of}
use Rattle.plan_ir.specs.gql_ast.declared.document.Definition.{Definition}
use Rattle.plan_ir.specs.gql_ast.declared.document.Definition.TheVariants as D
use Rattle.plan_ir.specs.gql_ast.declared.document.Document.{Document}
use Rattle.plan_ir.specs.gql_ast.declared.document.Fragment.{Fragment}
use Rattle.plan_ir.specs.gql_ast.declared.document.Operation.{Operation}
use Rattle.plan_ir.specs.gql_ast.declared.place.Placed.{Placed}
use Rattle.plan_ir.specs.gql_ast.declared.value.ValueTree.{ValueTree}
use Rattle.plan_ir.specs.gql_ast.declared.variable.VariableDef.{VariableDef}
use Rattle.text_places.specs.gql_parse.Documents.{FormedWritten, Written, bare, full, definition_of, spell_braces, spell_definition, spell_definitions, spell_name, spell_on, spell_optional_name, spell_selections, spell_set, spell_variables, spell_variables_part}
use Rattle.text_places.specs.gql_parse.Trees.{IsDocument}
use Rattle.plan_ir.proofs.gql_syntax_laws.ArgumentLaws.{arguments_depth_from}
use Rattle.plan_ir.proofs.gql_syntax_laws.DirectiveLaws.{DirectivesWithin, directives_depth_from}
use Rattle.plan_ir.proofs.gql_syntax_laws.Standing.{level_mark}
use Rattle.plan_ir.proofs.gql_syntax_laws.TypeLaws.{list_depth, type_depth_from}
use Rattle.plan_ir.proofs.gql_syntax_laws.ValueLaws.{value_depth_from}
use Rattle.plan_ir.specs.gql_syntax.FirstFault.{Shallow}
use Rattle.plan_ir.specs.gql_syntax.Spelling.{spell_arguments, spell_default, spell_directives}
use Rattle.plan_ir.specs.gql_syntax.Texts.{nesting_limit}
use Rattle.plan_project.proofs.SoundTrees.{AreSaid, SoundDefinition, definition_sound, tokens_said}
use Rattle.plan_project.specs.Projects.{AreDocuments}
use Rattle.plan_ir.specs.schema_types.DocumentRules.{trees_of}
use Rattle.plan_ir.specs.schema_types.Sites.{DefinitionAt, FragmentAt, OperationAt, all_definitions, definition_nodes, definitions_at, document_nodes, documents_at, fragment, fragment_at, operation, operation_at}
use Rattle.plan_ir.specs.schema_tables.Types.{Text, Defs}

-- ---- the levels of variables

abbrev pub DefaultWithin : ℕ → Option ValueTree → Type 0
DefaultWithin limit None = Unit {0}
DefaultWithin limit (Some v) = val_depth (value_of v) ≤ limit

abbrev pub VariableWithin : ℕ → VariableDef → Type 0
VariableWithin limit v = (list_depth (ty_of v.of) ≤ limit) × DefaultWithin limit v.default × DirectivesWithin limit v.directives

abbrev pub VariablesWithin : ℕ → List VariableDef → Type 0
VariablesWithin limit vs = AllByRecursion (VariableWithin limit) vs

abbrev pub DefinitionWithin : ℕ → Definition → Type 0
DefinitionWithin limit (D.Operation o) = VariablesWithin limit o.variables
DefinitionWithin limit (D.Fragment f) = Unit {0}

module _ (limit : ℕ) where
  default_from : (d : Option ValueTree) (ts : List ℕ) → Shallow limit (spell_default level_mark d ts) → DefaultWithin limit d × Shallow limit ts
  default_from None ts h = (tt, h)
  default_from (Some v) ts h =
      let r = value_depth_from (value_of v) limit 0 ts (omega arith) h.1 in
      (omega (arith, r.0), r.1)

  variables_from : (vs : List VariableDef) (ts : List ℕ) → Shallow limit (spell_variables level_mark vs ts) → VariablesWithin limit vs × Shallow limit ts
  variables_from [] ts h = (tt, h)
  variables_from (v ∷ vs) ts h =
      let more : List ℕ = spell_variables level_mark vs ts in
      let directives : List ℕ = spell_directives level_mark v.directives more in
      let t = type_depth_from (ty_of v.of) limit 0 0 (spell_default level_mark v.default directives) (omega arith) h.1.1.1 in
      let a = default_from v.default directives t.1 in
      let b = directives_depth_from v.directives limit more a.1 in
      let c = variables_from vs ts b.1 in
      (((omega (arith, t.0), a.0, b.0), c.0), c.1)

  variables_part_from : (vs : List VariableDef) (ts : List ℕ) → Shallow limit (spell_variables_part level_mark vs ts) → VariablesWithin limit vs × Shallow limit ts
  variables_part_from [] ts h = (tt, h)
  variables_part_from (v ∷ vs) ts h = let r = variables_from (v ∷ vs) (0 ∷ ts) h.1 in (r.0, r.1.1)

  -- ---- what follows selections

  name_from : (a : Option Text) (n : Text) (ts : List ℕ) → Shallow limit (spell_name level_mark a n ts) → Shallow limit ts
  name_from None n ts h = h.1
  name_from (Some a) n ts h = h.1.1.1

  on_from : (o : Option Text) (ts : List ℕ) → Shallow limit (spell_on level_mark o ts) → Shallow limit ts
  on_from None ts h = h
  on_from (Some n) ts h = h.1.1

  braces_from : (s : Sels) (level : ℕ) → ((ts : List ℕ) → Shallow limit (spell_selections level_mark s level ts) → Shallow limit ts) → (ts : List ℕ)
      → Shallow limit (spell_braces level_mark s level (spell_selections level_mark s level) ts) → Shallow limit ts
  braces_from sels.end level inside ts h = h
  braces_from (sels.field a n xs ds s rest) level inside ts h = (inside (0 ∷ ts) h.1).1
  braces_from (sels.spread n ds rest) level inside ts h = (inside (0 ∷ ts) h.1).1
  braces_from (sels.inline o ds s rest) level inside ts h = (inside (0 ∷ ts) h.1).1

  selections_from : (s : Sels) (level : ℕ) (ts : List ℕ) → Shallow limit (spell_selections level_mark s level ts) → Shallow limit ts
  selections_from sels.end level ts h = h
  selections_from (sels.field a n xs ds s rest) level ts h =
      let more : List ℕ = spell_selections level_mark rest level ts in
      let set : List ℕ = spell_braces level_mark s (level + 1) (spell_selections level_mark s (level + 1)) more in
      let directives : List ℕ = spell_directives level_mark ds set in
      let x = arguments_depth_from xs limit directives (name_from a n (spell_arguments level_mark xs directives) h) in
      let d = directives_depth_from ds limit set x.1 in
      selections_from rest level ts (braces_from s (level + 1) (selections_from s (level + 1)) more d.1)
  selections_from (sels.spread n ds rest) level ts h =
      selections_from rest level ts (directives_depth_from ds limit (spell_selections level_mark rest level ts) h.1.1).1
  selections_from (sels.inline o ds s rest) level ts h =
      let more : List ℕ = spell_selections level_mark rest level ts in
      let set : List ℕ = spell_braces level_mark s (level + 1) (spell_selections level_mark s (level + 1)) more in
      let d = directives_depth_from ds limit set (on_from o (spell_directives level_mark ds set) h.1) in
      selections_from rest level ts (braces_from s (level + 1) (selections_from s (level + 1)) more d.1)

  -- ---- definitions

  optional_from : (n : Option Text) (ts : List ℕ) → Shallow limit (spell_optional_name level_mark n ts) → Shallow limit ts
  optional_from None ts h = h
  optional_from (Some n) ts h = h.1

  definition_from : (w : Written) (first : ℕ) (ts : List ℕ) → Shallow limit (spell_definition level_mark first w ts)
      → DefinitionWithin limit (definition_of w) × Shallow limit ts
  definition_from (bare s) first ts h = (tt, (selections_from s 1 (0 ∷ ts) h.1).1)
  definition_from (full (D.Operation o)) first ts h =
      let set : List ℕ = spell_set level_mark o.selections ts in
      let directives : List ℕ = spell_directives level_mark o.directives set in
      let v = variables_part_from o.variables directives (optional_from o.name (spell_variables_part level_mark o.variables directives) h.1) in
      let d = directives_depth_from o.directives limit set v.1 in
      (v.0, braces_from o.selections 1 (selections_from o.selections 1) ts d.1)
  definition_from (full (D.Fragment f)) first ts h =
      let set : List ℕ = spell_set level_mark f.selections ts in
      let d = directives_depth_from f.directives limit set h.1.1.1.1 in
      (tt, braces_from f.selections 1 (selections_from f.selections 1) ts d.1)

-- ---- documents

abbrev pub ReadDefinition : Definition → Type 0
ReadDefinition d = SoundDefinition d × DefinitionWithin nesting_limit d

definitions_read : (ws : List Written) (first : ℕ) → AllByRecursion FormedWritten ws → AreSaid (spell_definitions (λ t l n. t) first ws)
    → Shallow nesting_limit (spell_definitions level_mark first ws) → AllByRecursion ReadDefinition (map definition_of ws)
definitions_read [] first f a b = tt
definitions_read (w ∷ ws) first f a b =
    let x = definition_sound w first f.0 (spell_definitions (λ t l n. t) 0 ws) a in
    let y = definition_from nesting_limit w first (spell_definitions level_mark 0 ws) b in
    ((x.0, y.0), definitions_read ws 0 f.1 x.1 y.1)

document_read : (n : ℕ) (text : Text) (p : Placed Document) → IsDocument n text p → AllByRecursion ReadDefinition p.tree.definitions
document_read n text p d =
    subst (λ ds. AllByRecursion ReadDefinition ds) (sym d.definitions)
    (definitions_read d.written 1 d.tree.formed.1 (tokens_said text (spell_definitions (λ t l n. t) 1 d.written) d.tree.utf8 d.tree.tokens) d.tree.shallow)

abbrev pub ReadDocument : Document → Type 0
ReadDocument d = AllByRecursion ReadDefinition d.definitions

documents_read : (n : ℕ) (texts : List Text) (ps : List (Placed Document)) → AreDocuments n texts ps → AllByRecursion ReadDocument (trees_of ps)
documents_read n [] [] h = tt
documents_read n [] (p ∷ ps) h = absurd h
documents_read n (text ∷ texts) [] h = absurd h
documents_read n (text ∷ texts) (p ∷ ps) h = (document_read n text p h.0, documents_read (suc n) texts ps h.1)

-- ---- definitions with their places

pub record ReadOperation (defs : Defs) (o : OperationAt) : Type 0 where
  pub from : ℕ
  pub tree : Operation
  pub is : o ≡ operation_at defs from tree
  pub read : ReadDefinition (D.Operation tree)

pub record ReadFragment (defs : Defs) (f : FragmentAt) : Type 0 where
  pub from : ℕ
  pub tree : Fragment
  pub is : f ≡ fragment_at defs from tree
  pub read : ReadDefinition (D.Fragment tree)

abbrev pub ReadAt : Defs → DefinitionAt → Type 0
ReadAt defs (operation o) = ReadOperation defs o
ReadAt defs (fragment f) = ReadFragment defs f

pub all_append : {A : Type 0} (P : A → Type 0) (xs ys : List A) → AllByRecursion P xs → AllByRecursion P ys → AllByRecursion P (xs ++ ys)
all_append P [] ys h k = k
all_append P (x ∷ xs) ys h k = (h.0, all_append P xs ys h.1 k)

definitions_read_at : (defs : Defs) (from : ℕ) (ds : List Definition) → AllByRecursion ReadDefinition ds → AllByRecursion (ReadAt defs) (definitions_at defs from ds)
definitions_read_at defs from [] h = tt
definitions_read_at defs from (D.Operation o ∷ ds) h =
    (record { from = from; tree = o; is = refl; read = h.0 }, definitions_read_at defs (from + definition_nodes (D.Operation o)) ds h.1)
definitions_read_at defs from (D.Fragment f ∷ ds) h =
    (record { from = from; tree = f; is = refl; read = h.0 }, definitions_read_at defs (from + definition_nodes (D.Fragment f)) ds h.1)

documents_read_at : (defs : Defs) (from : ℕ) (ds : List Document) → AllByRecursion ReadDocument ds → AllByRecursion (ReadAt defs) (documents_at defs from ds)
documents_read_at defs from [] h = tt
documents_read_at defs from (d ∷ ds) h =
    all_append (ReadAt defs) (definitions_at defs (from + 1) d.definitions) (documents_at defs (from + document_nodes d) ds)
    (definitions_read_at defs (from + 1) d.definitions h.0) (documents_read_at defs (from + document_nodes d) ds h.1)

-- the definitions of texts that are documents
pub all_read : (defs : Defs) (n : ℕ) (texts : List Text) (ps : List (Placed Document)) → AreDocuments n texts ps
    → AllByRecursion (ReadAt defs) (all_definitions defs (trees_of ps))
all_read defs n texts ps h = documents_read_at defs 0 (trees_of ps) (documents_read n texts ps h)
