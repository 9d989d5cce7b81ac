-- The trees of documents, and the same definitions with their places: of each name the first is the same one.
use Rattle.std.proofs.Common.{◌≡◌, ◌<◌, ◌+◌, ℕ, Bool, true, false, true≢false, cond, List, [], ◌∷◌, ◌++◌, length, get_or, Option, Some, None, is_some, bytes_eq, refl, ap, sym, subst, ◌∙◌}
use Rattle.plan_ir.specs.gql_ast.Value.{Val}
use Rattle.plan_ir.specs.gql_ast.declared.directive.Directive.{Directive}
use Rattle.plan_ir.specs.gql_ast.declared.document.Definition.{Definition}
use Rattle.plan_ir.specs.gql_ast.declared.document.Definition.TheVariants as D
use Rattle.plan_ir.specs.gql_ast.declared.document.Document.{Document}
use Rattle.plan_ir.specs.gql_ast.declared.document.Fragment.{Fragment}
use Rattle.plan_ir.specs.gql_ast.declared.document.Operation.{Operation}
use Rattle.plan_ir.specs.gql_ast.declared.place.Placed.{Placed}
use Rattle.plan_ir.specs.gql_graph.Rules.{each}
use Rattle.plan_ir.specs.Expansion.{is_named, operation_named}
use Rattle.plan_project.proofs.Looking.{found-append, found-at, found_in_documents, in_document, or_else-assoc}
use Rattle.plan_project.specs.Filling.{AreFragments, AreOperations, first_of, fragment_under, operation_by, operation_under, or_else, trees_in}
use Rattle.plan_project.specs.Lookups.{Agree, fragment_in, operation_in}
use Rattle.plan_ir.specs.relay_marks.Locals.{as_list, defines_locals, local_at, local_in_tree, local_of, locals_of, locals_of_tree}
use Rattle.plan_ir.specs.schema_tables.Types.{Text, Defs}
use Rattle.plan_ir.specs.schema_trees.Located.{value_nodes}
use Rattle.plan_ir.specs.schema_types.DocumentRules.{trees_of}
use Rattle.plan_ir.specs.schema_types.NameRules.{fragment_named, fragments, operations}
use Rattle.plan_ir.specs.schema_types.Sites.{DefinitionAt, FragmentAt, OperationAt, arguments_at, arguments_nodes, definition_at, definition_nodes, definitions_at, directives_at, document_nodes, documents_at, fragment_at, operation_at, optional_name_at}

-- ---- what is first of a name, with its places and without them

module _ {X Z : Type 0} (defs : Defs) (P : X → Z → Type 0) (find : Definition → Option X) (named : List DefinitionAt → Option Z) (none : Agree P None (named []))
    (next : (from : ℕ) (d : Definition) (more : List DefinitionAt) (o : Option X) → Agree P o (named more) → Agree P (or_else (find d) o) (named (definition_at defs from d ∷ more))) where
  in_definitions : (from : ℕ) (ds : List Definition) (more : List DefinitionAt) (o : Option X) → Agree P o (named more)
      → Agree P (or_else (first_of find ds) o) (named (definitions_at defs from ds ++ more))
  in_definitions from [] more o h = h
  in_definitions from (d ∷ ds) more o h =
      let rest = in_definitions (from + definition_nodes d) ds more o h in
      subst (λ x. Agree P x (named (definitions_at defs from (d ∷ ds) ++ more))) (sym (or_else-assoc (find d) (first_of find ds) o))
      (next from d (definitions_at defs (from + definition_nodes d) ds ++ more) (or_else (first_of find ds) o) rest)

  in_documents : (from : ℕ) (ps : List (Placed Document)) → Agree P (first_of find (trees_in ps)) (named (documents_at defs from (trees_of ps)))
  in_documents from [] = none
  in_documents from (p ∷ ps) =
      let rest = documents_at defs (from + document_nodes p.tree) (trees_of ps) in
      subst (λ x. Agree P x (named (definitions_at defs (from + 1) p.tree.definitions ++ rest))) (sym (found-append find p.tree.definitions (trees_in ps)))
      (in_definitions (from + 1) p.tree.definitions rest (first_of find (trees_in ps)) (in_documents (from + document_nodes p.tree) ps))

-- where the first is there, the second is
agree_there : {X Y : Type 0} (P : X → Y → Type 0) (a : Option X) (b : Option Y) → Agree P a b → is_some a ≡ true → is_some b ≡ true
agree_there P None b h s = absurd (true≢false (sym s))
agree_there P (Some x) None h s = absurd h
agree_there P (Some x) (Some y) h s = refl

-- ---- operations

-- the operation that is found has places or has none
abbrev pub AnyPlaces : Operation → OperationAt → Type 0
AnyPlaces q o = Unit {0}

operation_next : (defs : Defs) (n : Text) (from : ℕ) (d : Definition) (more : List DefinitionAt) (o : Option Operation) → Agree AnyPlaces o (operation_named (operations more) n)
    → Agree AnyPlaces (or_else (operation_under n d) o) (operation_named (operations (definition_at defs from d ∷ more)) n)
operation_next defs n from (D.Fragment f) more o h = h
operation_next defs n from (D.Operation q) more o h = by_name q.name
  where
    on : (b : Bool) → Agree AnyPlaces (or_else (cond b (Some q) None) o) (cond b (Some (operation_at defs from q)) (operation_named (operations more) n))
    on true = tt
    on false = h

    by_name : (name : Option Text)
        → Agree AnyPlaces (or_else (operation_by n name q) o) (cond (is_named n (optional_name_at (from + 2) name)) (Some (operation_at defs from q)) (operation_named (operations more) n))
    by_name None = h
    by_name (Some m) = on (bytes_eq m n)

pub operation_places : (defs : Defs) (ps : List (Placed Document)) (n : Text) → Agree AnyPlaces (first_of (operation_under n) (trees_in ps)) (operation_in defs ps n)
operation_places defs ps n =
    in_documents defs AnyPlaces (operation_under n) (λ (ds : List DefinitionAt). operation_named (operations ds) n) tt (operation_next defs n) 0 ps

-- the operations of a document are some of all
pub operations_there : (defs : Defs) (ps xs : List (Placed Document)) (i : ℕ) (p : Placed Document) → xs ≡ ps → i < length xs → p ≡ get_or xs i p
    → AreOperations defs ps (λ n. first_of (operation_under n) p.tree.definitions)
operations_there defs ps xs i p e within is n s =
    agree_there AnyPlaces (first_of (operation_under n) (trees_in ps)) (operation_in defs ps n) (operation_places defs ps n)
    (ap is_some (sym (found_in_documents (operation_under n) ps)) ∙ ap (λ ys. is_some (first_of (in_document (operation_under n)) ys)) (sym e)
    ∙ found-at (in_document (operation_under n)) xs i p within is s)

-- ---- fragments

-- a fragment with its places
abbrev pub HasPlaces : Defs → Fragment → FragmentAt → Type 0
HasPlaces defs f g = (from : ℕ) × (g ≡ fragment_at defs from f)

fragment_next : (defs : Defs) (n : Text) (from : ℕ) (d : Definition) (more : List DefinitionAt) (o : Option Fragment) → Agree (HasPlaces defs) o (fragment_named (fragments more) n)
    → Agree (HasPlaces defs) (or_else (fragment_under n d) o) (fragment_named (fragments (definition_at defs from d ∷ more)) n)
fragment_next defs n from (D.Operation q) more o h = h
fragment_next defs n from (D.Fragment f) more o h = on (bytes_eq f.name n)
  where
    on : (b : Bool) → Agree (HasPlaces defs) (or_else (cond b (Some f) None) o) (cond b (Some (fragment_at defs from f)) (fragment_named (fragments more) n))
    on true = (from, refl)
    on false = h

pub fragment_places : (defs : Defs) (ps : List (Placed Document)) (n : Text) → Agree (HasPlaces defs) (first_of (fragment_under n) (trees_in ps)) (fragment_in defs ps n)
fragment_places defs ps n =
    in_documents defs (HasPlaces defs) (fragment_under n) (λ (ds : List DefinitionAt). fragment_named (fragments ds) n) tt (fragment_next defs n) 0 ps

-- the fragments of a document are some of all
pub fragments_there : (defs : Defs) (ps xs : List (Placed Document)) (i : ℕ) (p : Placed Document) → xs ≡ ps → i < length xs → p ≡ get_or xs i p
    → AreFragments defs ps (λ n. first_of (fragment_under n) p.tree.definitions)
fragments_there defs ps xs i p e within is n s =
    agree_there (HasPlaces defs) (first_of (fragment_under n) (trees_in ps)) (fragment_in defs ps n) (fragment_places defs ps n)
    (ap is_some (sym (found_in_documents (fragment_under n) ps)) ∙ ap (λ ys. is_some (first_of (in_document (fragment_under n)) ys)) (sym e)
    ∙ found-at (in_document (fragment_under n)) xs i p within is s)

-- ---- local variables

arguments_define : (from : ℕ) (xs : List (Text × Val)) → each local_at (arguments_at from xs) ≡ each local_in_tree xs
arguments_define from [] = refl
arguments_define from (x ∷ xs) = ap (λ ls. as_list (local_of x.0 x.1) ++ ls) (arguments_define (from + (2 + value_nodes x.1)) xs)

-- those of directives with places are those of the directives
pub locals_define : (from : ℕ) (ds : List Directive) → locals_of (directives_at from ds) ≡ locals_of_tree ds
locals_define from [] = refl
locals_define from (d ∷ ds) =
    λ i. cond (defines_locals d.name) (arguments_define (from + 2) d.arguments i) [] ++ locals_define (from + (2 + arguments_nodes d.arguments)) ds i
