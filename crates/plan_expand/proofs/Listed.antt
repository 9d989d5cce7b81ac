-- What stands in the fragments of documents is listed with the numbers of its nodes.
use Rattle.std.proofs.Common.{◌≡◌, ℕ, ◌+◌, Bool, true, false, cond, List, [], ◌∷◌, ◌++◌, Option, Some, None, option_map, bytes_eq, refl, ap, sym, subst, arith}
use Rattle.std.proofs.lemmas.List.Elements.{filter_map-append}
use Rattle.plan_ir.specs.gql_ast.declared.document.Definition.{Definition}
use Rattle.plan_ir.specs.gql_ast.declared.document.Definition.TheVariants as D
use Rattle.plan_ir.specs.gql_ast.declared.document.Document.{Document}
use Rattle.plan_ir.specs.gql_ast.declared.document.Fragment.{Fragment}
use Rattle.plan_ir.specs.gql_ast.declared.document.Operation.{Operation}
use Rattle.plan_ir.specs.gql_ast.declared.variable.VariableDef.{VariableDef}
use Rattle.plan_ir.specs.Expansion.{is_named, operation_from, operation_named, selections_from, variable_trees}
use Rattle.plan_ir.specs.schema_tables.Types.{Text, Defs, root}
use Rattle.plan_ir.specs.schema_trees.Located.{Located, directives_nodes}
use Rattle.plan_ir.specs.schema_types.NameRules.{fragment_named, fragment_of, fragments, operation_of, operations}
use Rattle.plan_ir.specs.schema_types.Sites.{FragmentAt, OperationAt, all_definitions, definition_nodes, definitions_at, document_nodes, documents_at, fragment_at, operation_at, optional_name_at, optional_name_nodes, sites, variable_nodes, variables_at, variables_nodes}
use Rattle.plan_expand.proofs.Expanding.{trees_at}

abbrev pub IsFragmentListed : Defs → FragmentAt → Type 0
IsFragmentListed defs f = f.sites ≡ sites defs (selections_from f) (Some f.on.name) f.selections

abbrev AllListed : Defs → List FragmentAt → Type 0
AllListed defs [] = Unit {0}
AllListed defs (f ∷ fs) = IsFragmentListed defs f × AllListed defs fs

both_listed : (defs : Defs) (fs gs : List FragmentAt) → AllListed defs fs → AllListed defs gs → AllListed defs (fs ++ gs)
both_listed defs [] gs a b = b
both_listed defs (f ∷ fs) gs a b = (a.0, both_listed defs fs gs a.1 b)

fragment_listed : (defs : Defs) (from : ℕ) (f : Fragment) → IsFragmentListed defs (fragment_at defs from f)
fragment_listed defs from f =
    let e : from + 4 + directives_nodes f.directives ≡ selections_from (fragment_at defs from f) = omega (arith, ap directives_nodes (trees_at (from + 4) f.directives)) in
    ap (λ (k : ℕ). sites defs k (Some f.on) f.selections) e

definitions_listed : (defs : Defs) (from : ℕ) (ds : List Definition) → AllListed defs (fragments (definitions_at defs from ds))
definitions_listed defs from [] = tt
definitions_listed defs from (D.Operation o ∷ ds) = definitions_listed defs (from + definition_nodes (D.Operation o)) ds
definitions_listed defs from (D.Fragment f ∷ ds) = (fragment_listed defs from f, definitions_listed defs (from + definition_nodes (D.Fragment f)) ds)

documents_listed : (defs : Defs) (from : ℕ) (ds : List Document) → AllListed defs (fragments (documents_at defs from ds))
documents_listed defs from [] = tt
documents_listed defs from (d ∷ ds) =
    subst (AllListed defs) (sym (filter_map-append fragment_of (definitions_at defs (from + 1) d.definitions) (documents_at defs (from + document_nodes d) ds)))
    (both_listed defs (fragments (definitions_at defs (from + 1) d.definitions)) (fragments (documents_at defs (from + document_nodes d) ds))
    (definitions_listed defs (from + 1) d.definitions) (documents_listed defs (from + document_nodes d) ds))

first_listed : (defs : Defs) (b : Bool) (g f : FragmentAt) (rest : Option FragmentAt) → IsFragmentListed defs g → (rest ≡ Some f → IsFragmentListed defs f) → cond b (Some g) rest ≡ Some f → IsFragmentListed defs f
first_listed defs true g f rest here more e = let same : g ≡ f = cc e in subst (IsFragmentListed defs) same here
first_listed defs false g f rest here more e = more e

named_listed : (defs : Defs) (fs : List FragmentAt) (n : Text) (f : FragmentAt) → AllListed defs fs → fragment_named fs n ≡ Some f → IsFragmentListed defs f
named_listed defs [] n f a e = cc
named_listed defs (g ∷ fs) n f a e = first_listed defs (bytes_eq g.name.name n) g f (fragment_named fs n) a.0 (named_listed defs fs n f a.1) e

pub fragments_listed : (defs : Defs) (ds : List Document) (n : Text) (f : FragmentAt) → fragment_named (fragments (all_definitions defs ds)) n ≡ Some f → IsFragmentListed defs f
fragments_listed defs ds n f e = named_listed defs (fragments (all_definitions defs ds)) n f (documents_listed defs 0 ds) e

-- ---- operations

abbrev IsOperationListed : Defs → OperationAt → Type 0
IsOperationListed defs o = o.sites ≡ sites defs (operation_from o) (root defs o.kind) o.selections

abbrev AllOperationsListed : Defs → List OperationAt → Type 0
AllOperationsListed defs [] = Unit {0}
AllOperationsListed defs (o ∷ os) = IsOperationListed defs o × AllOperationsListed defs os

all_operations : (defs : Defs) (os us : List OperationAt) → AllOperationsListed defs os → AllOperationsListed defs us → AllOperationsListed defs (os ++ us)
all_operations defs [] us a b = b
all_operations defs (o ∷ os) us a b = (a.0, all_operations defs os us a.1 b)

name_at : (at : ℕ) (n : Option Text) → option_map (λ (l : Located). l.name) (optional_name_at at n) ≡ n
name_at at None = refl
name_at at (Some n) = refl

variables_trees : (from : ℕ) (vs : List VariableDef) → variable_trees (variables_at from vs) ≡ vs
variables_trees from [] = refl
variables_trees from (v ∷ vs) = ap (λ (us : List VariableDef). v ∷ us) (variables_trees (from + variable_nodes v) vs)

operation_listed : (defs : Defs) (from : ℕ) (o : Operation) → IsOperationListed defs (operation_at defs from o)
operation_listed defs from o =
    let e : from + 2 + optional_name_nodes o.name + variables_nodes o.variables + directives_nodes o.directives ≡ operation_from (operation_at defs from o) =
    (λ i. from + 2 + optional_name_nodes (sym (name_at (from + 2) o.name) i) + variables_nodes (sym (variables_trees (from + 2 + optional_name_nodes o.name) o.variables) i)
    + directives_nodes (sym (trees_at (from + 2 + optional_name_nodes o.name + variables_nodes o.variables) o.directives) i)) in
    ap (λ (k : ℕ). sites defs k (root defs o.kind) o.selections) e

definitions_operations : (defs : Defs) (from : ℕ) (ds : List Definition) → AllOperationsListed defs (operations (definitions_at defs from ds))
definitions_operations defs from [] = tt
definitions_operations defs from (D.Operation o ∷ ds) = (operation_listed defs from o, definitions_operations defs (from + definition_nodes (D.Operation o)) ds)
definitions_operations defs from (D.Fragment f ∷ ds) = definitions_operations defs (from + definition_nodes (D.Fragment f)) ds

documents_operations : (defs : Defs) (from : ℕ) (ds : List Document) → AllOperationsListed defs (operations (documents_at defs from ds))
documents_operations defs from [] = tt
documents_operations defs from (d ∷ ds) =
    subst (AllOperationsListed defs) (sym (filter_map-append operation_of (definitions_at defs (from + 1) d.definitions) (documents_at defs (from + document_nodes d) ds)))
    (all_operations defs (operations (definitions_at defs (from + 1) d.definitions)) (operations (documents_at defs (from + document_nodes d) ds))
    (definitions_operations defs (from + 1) d.definitions) (documents_operations defs (from + document_nodes d) ds))

first_operation : (defs : Defs) (b : Bool) (u o : OperationAt) (rest : Option OperationAt) → IsOperationListed defs u → (rest ≡ Some o → IsOperationListed defs o) → cond b (Some u) rest ≡ Some o → IsOperationListed defs o
first_operation defs true u o rest here more e = let same : u ≡ o = cc e in subst (IsOperationListed defs) same here
first_operation defs false u o rest here more e = more e

named_operation : (defs : Defs) (os : List OperationAt) (n : Text) (o : OperationAt) → AllOperationsListed defs os → operation_named os n ≡ Some o → IsOperationListed defs o
named_operation defs [] n o a e = cc
named_operation defs (u ∷ os) n o a e = first_operation defs (is_named n u.name) u o (operation_named os n) a.0 (named_operation defs os n o a.1) e

pub operations_listed : (defs : Defs) (ds : List Document) (n : Text) (o : OperationAt) → operation_named (operations (all_definitions defs ds)) n ≡ Some o → IsOperationListed defs o
operations_listed defs ds n o e = named_operation defs (operations (all_definitions defs ds)) n o (documents_operations defs 0 ds) e
