-- The expansion of an operation that meets the rules that it needs is suited; those of documents that meet the rules do.
use Rattle.std.proofs.Common.{◌≡◌, ℕ, ◌+◌, Bool, true, false, true≢false, cond, List, [], ◌∷◌, ◌++◌, Option, Some, None, is_some, refl, sym, subst}
use Rattle.std.specs.List.{AllByRecursion}
use Rattle.plan_ir.specs.gql_ast.declared.document.Definition.{Definition}
use Rattle.plan_ir.specs.gql_ast.declared.document.Definition.TheVariants as D
use Rattle.plan_ir.specs.gql_ast.declared.document.Document.{Document}
use Rattle.plan_ir.specs.gql_ast.declared.place.Placed.{Placed}
use Rattle.plan_ir.specs.gql_graph.Rules.{each, first_broken}
use Rattle.plan_build.proofs.CovarianceLists.{all_each, all_hold, all_joined, all_parts, none_each, right}
use Rattle.plan_build.proofs.CovarianceRoots.{root_is_object}
use Rattle.plan_build.proofs.CovarianceRules.{SchemaMeets, sound_meets}
use Rattle.plan_build.proofs.SuitedNodes.{expanded, fragment_holds}
use Rattle.plan_build.proofs.SuitedRules.{SiteMeets, all_meet}
use Rattle.plan_build.specs.Laws.{FragmentsOfDocumentsMeet, MeetsRules, OperationsAreSuited, OperationsOfDocumentsMeet, OperationsThatMeetAreSuited, definitions}
use Rattle.plan_build.specs.Meeting.{FragmentMeets, FragmentsMeet, Meets}
use Rattle.plan_build.specs.Suited.{Suited}
use Rattle.plan_ir.specs.Expansion.{Project, expansion, is_named, name_or, operation_from, operation_named, project_of, spreads_in}
use Rattle.plan_ir.specs.Substitution.{operation_scope}
use Rattle.plan_ir.specs.relay_marks.Connections.{connections_wrong, type_wrong_at}
use Rattle.relay_rules.specs.RelayRules.{document_rules, relay_rules}
use Rattle.plan_ir.specs.schema_rules.Rules.{is_object}
use Rattle.plan_ir.specs.schema_rules.declared.fault.Rule.{Rule}
use Rattle.plan_ir.specs.schema_tables.Types.{Text, Defs, root}
use Rattle.plan_ir.specs.schema_trees.Located.{Located, directives_nodes}
use Rattle.plan_ir.specs.schema_types.ArgumentRules.{arguments_of_call_wrong, arguments_wrong, calls_at, calls_of, directive_calls, variable_calls}
use Rattle.plan_ir.specs.schema_types.DocumentRules.{argument_rules, field_rules, name_rules, trees_of}
use Rattle.plan_ir.specs.schema_types.FieldRules.{fields_undefined, set_wrong_at, sets_wrong, undefined_at}
use Rattle.plan_ir.specs.schema_types.NameRules.{fragments, operations, roots_missing, sites_of, without_root}
use Rattle.plan_ir.specs.schema_types.Sites.{DefinitionAt, OperationAt, Site, definition_at, definition_nodes, definitions_at, document_nodes, documents_at, fragment, operation, optional_name_nodes, sites, variables_nodes}

-- ---- definitions and their sites

-- the sites are those of the selections
abbrev HasSites : Defs → DefinitionAt → Type 0
HasSites defs (operation o) = (from : ℕ) × (o.sites ≡ sites defs from (root defs o.kind) o.selections)
HasSites defs (fragment f) = (from : ℕ) × (f.sites ≡ sites defs from (Some f.on.name) f.selections)

has_sites : (defs : Defs) (from : ℕ) (d : Definition) → HasSites defs (definition_at defs from d)
has_sites defs from (D.Operation o) = (from + 2 + optional_name_nodes o.name + variables_nodes o.variables + directives_nodes o.directives, refl)
has_sites defs from (D.Fragment f) = (from + 4 + directives_nodes f.directives, refl)

have_sites : (defs : Defs) (from : ℕ) (ds : List Definition) → AllByRecursion (HasSites defs) (definitions_at defs from ds)
have_sites defs from [] = tt
have_sites defs from (d ∷ ds) = (has_sites defs from d, have_sites defs (from + definition_nodes d) ds)

all_have_sites : (defs : Defs) (from : ℕ) (ds : List Document) → AllByRecursion (HasSites defs) (documents_at defs from ds)
all_have_sites defs from [] = tt
all_have_sites defs from (d ∷ ds) =
    all_joined (HasSites defs) (definitions_at defs (from + 1) d.definitions) (documents_at defs (from + document_nodes d) ds)
    (have_sites defs (from + 1) d.definitions) (all_have_sites defs (from + document_nodes d) ds)

-- ---- V7, V8, V12 and V22 at each site

-- the calls at each site are some of all
calls_meet : (defs : Defs) (d : DefinitionAt) → each arguments_of_call_wrong (calls_of defs d) ≡ []
    → AllByRecursion (λ s. AllByRecursion (λ c. arguments_of_call_wrong c ≡ []) (calls_at defs s)) (sites_of d)
calls_meet defs (operation o) e =
    let all = none_each arguments_of_call_wrong (calls_of defs (operation o)) e in
    let own = all_parts (λ c. arguments_of_call_wrong c ≡ []) (variable_calls defs o.variables) (directive_calls defs o.directives ++ each (calls_at defs) o.sites) all in
    let sites = all_parts (λ c. arguments_of_call_wrong c ≡ []) (directive_calls defs o.directives) (each (calls_at defs) o.sites) own.1 in
    all_each (λ c. arguments_of_call_wrong c ≡ []) (calls_at defs) o.sites sites.1
calls_meet defs (fragment f) e =
    let all = none_each arguments_of_call_wrong (calls_of defs (fragment f)) e in
    let sites = all_parts (λ c. arguments_of_call_wrong c ≡ []) (directive_calls defs f.directives) (each (calls_at defs) f.sites) all in
    all_each (λ c. arguments_of_call_wrong c ≡ []) (calls_at defs) f.sites sites.1

sites_meet : (defs : Defs) (ss : List Site) → AllByRecursion (λ s. undefined_at defs s ≡ []) ss → AllByRecursion (λ s. set_wrong_at defs s ≡ []) ss
    → AllByRecursion (λ s. AllByRecursion (λ c. arguments_of_call_wrong c ≡ []) (calls_at defs s)) ss → AllByRecursion (λ s. type_wrong_at defs s ≡ []) ss
    → AllByRecursion (SiteMeets defs) ss
sites_meet defs [] h i j k = tt
sites_meet defs (s ∷ ss) h i j k = (record { defined = h.0; set = i.0; calls = j.0; connection = k.0 }, sites_meet defs ss h.1 i.1 j.1 k.1)

abbrev DefinitionMeets : Defs → DefinitionAt → Type 0
DefinitionMeets defs d = AllByRecursion (SiteMeets defs) (sites_of d)

definitions_meet : (defs : Defs) (ds : List DefinitionAt) → AllByRecursion (λ d. each (undefined_at defs) (sites_of d) ≡ []) ds
    → AllByRecursion (λ d. each (set_wrong_at defs) (sites_of d) ≡ []) ds → AllByRecursion (λ d. each arguments_of_call_wrong (calls_of defs d) ≡ []) ds
    → AllByRecursion (λ d. each (type_wrong_at defs) (sites_of d) ≡ []) ds → AllByRecursion (DefinitionMeets defs) ds
definitions_meet defs [] h i j k = tt
definitions_meet defs (d ∷ ds) h i j k =
    let ss : List Site = sites_of d in (
      sites_meet defs ss (none_each (undefined_at defs) ss h.0) (none_each (set_wrong_at defs) ss i.0) (calls_meet defs d j.0) (none_each (type_wrong_at defs) ss k.0),
      definitions_meet defs ds h.1 i.1 j.1 k.1,
    )

-- ---- fragments and operations

-- the set of an operation whose kind has a root type
abbrev OperationMeets : Defs → OperationAt → Type 0
OperationMeets defs o = (r : Text) → root defs o.kind ≡ Some r → Meets defs r o.selections

module _ (defs : Defs) (meets : SchemaMeets defs) where
  fragments_meet : (ds : List DefinitionAt) → AllByRecursion (HasSites defs) ds → AllByRecursion (DefinitionMeets defs) ds → AllByRecursion (FragmentMeets defs) (fragments ds)
  fragments_meet [] h k = tt
  fragments_meet (operation o ∷ ds) h k = fragments_meet ds h.1 k.1
  fragments_meet (fragment f ∷ ds) h k =
      (all_meet defs meets h.0.0 f.on.name f.selections (subst (AllByRecursion (SiteMeets defs)) h.0.1 k.0), fragments_meet ds h.1 k.1)

  operation_meets : (o : OperationAt) → HasSites defs (operation o) → DefinitionMeets defs (operation o) → OperationMeets defs o
  operation_meets o h k r e =
      all_meet defs meets h.0 r o.selections
      (subst (λ (x : Option Text). AllByRecursion (SiteMeets defs) (sites defs h.0 x o.selections)) e (subst (AllByRecursion (SiteMeets defs)) h.1 k))

  operations_meet : (ds : List DefinitionAt) → AllByRecursion (HasSites defs) ds → AllByRecursion (DefinitionMeets defs) ds → AllByRecursion (OperationMeets defs) (operations ds)
  operations_meet [] h k = tt
  operations_meet (operation o ∷ ds) h k = (operation_meets o h.0 k.0, operations_meet ds h.1 k.1)
  operations_meet (fragment f ∷ ds) h k = operations_meet ds h.1 k.1

-- ---- the operation of a name

-- what holds of each operation holds of it, and it has a name
operation_holds : (P : OperationAt → Type 0) (os : List OperationAt) (n : Text) (o : OperationAt) → AllByRecursion P os → operation_named os n ≡ Some o → P o × (is_some o.name ≡ true)
operation_holds P [] n o h e = absurd cc
operation_holds P (q ∷ qs) n o h e = on (λ k. operation_holds P qs n o h.1 k) (is_named n q.name) refl e
  where
    named : (l : Option Located) → is_named n l ≡ true → is_some l ≡ true
    named None e = e
    named (Some l) e = refl

    on : (operation_named qs n ≡ Some o → P o × (is_some o.name ≡ true)) → (b : Bool) → is_named n q.name ≡ b → cond b (Some q) (operation_named qs n) ≡ Some o
        → P o × (is_some o.name ≡ true)
    on later true d e =
        let same : q ≡ o = cc e in
        (subst P same h.0, subst (λ (x : OperationAt). is_some x.name ≡ true) same (named q.name d))
    on later false d e = later e

-- V6
root_there : (defs : Defs) (o : OperationAt) (l : Option Located) → is_some l ≡ true → without_root defs o l ≡ [] → is_some (root defs o.kind) ≡ true
root_there defs o None i e = absurd (true≢false (sym i))
root_there defs o (Some l) i e = right (is_some (root defs o.kind)) l.at e

set_at_root : (defs : Defs) (o : OperationAt) → OperationMeets defs o → (x : Option Text) → root defs o.kind ≡ x → is_some x ≡ true → Meets defs (name_or x) o.selections
set_at_root defs o h None e i = absurd (true≢false (sym i))
set_at_root defs o h (Some r) e i = h r e

-- ---- an operation that meets the rules that it needs

-- with its root type
at_root : (p : Project) (meets : SchemaMeets p.defs) → FragmentsMeet p → (o : OperationAt)
    → (x : Option Text) → root p.defs o.kind ≡ x → is_some x ≡ true → Meets p.defs (name_or x) o.selections
    → (is_object p.defs (name_or x) ≡ true) × Suited p.defs (name_or x) (name_or x) (expansion (spreads_in p) p operation_scope (operation_from o) x o.selections)
at_root p meets fs o None e i h = absurd (true≢false (sym i))
at_root p meets fs o (Some r) e i h =
    (root_is_object p.defs meets o.kind r e, expanded p meets fs (spreads_in p) operation_scope (operation_from o) r r o.selections (λ T k. k) h)

pub operations_that_meet_are_suited : OperationsThatMeetAreSuited
operations_that_meet_are_suited p o sound meets =
    let r = at_root p (sound_meets p.defs sound) meets.fragments o (root p.defs o.kind) refl meets.there meets.selections in
    record { root = r.0; selections = r.1 }

-- ---- documents that meet the rules

-- V6, V7, V8, V12 and V22
record DocumentsMeet (defs : Defs) (ds : List DefinitionAt) : Type 0 where
  roots : roots_missing defs ds ≡ []
  defined : fields_undefined defs ds ≡ []
  sets : sets_wrong defs ds ≡ []
  arguments : arguments_wrong defs ds ≡ []
  connections : connections_wrong defs ds ≡ []

documents_meet : (defs : Defs) (ds : List DefinitionAt) → first_broken (document_rules defs ds) ≡ None → DocumentsMeet defs ds
documents_meet defs ds e =
    let names = all_parts (λ (r : Rule × List ℕ). r.1 ≡ []) (name_rules defs ds) (field_rules defs ds ++ (argument_rules defs ds ++ relay_rules defs ds)) (all_hold (document_rules defs ds) e) in
    let fields = all_parts (λ (r : Rule × List ℕ). r.1 ≡ []) (field_rules defs ds) (argument_rules defs ds ++ relay_rules defs ds) names.1 in
    let arguments = all_parts (λ (r : Rule × List ℕ). r.1 ≡ []) (argument_rules defs ds) (relay_rules defs ds) fields.1 in
    record { roots = names.0.1.1.1.1.1.0; defined = fields.0.0; sets = fields.0.1.0; arguments = arguments.0.0; connections = arguments.1.1.1.1.1.1.0 }

-- the set of each definition
sets_meet : (defs : Defs) (ps : List (Placed Document)) → MeetsRules defs ps → AllByRecursion (DefinitionMeets defs) (definitions defs ps)
sets_meet defs ps meet =
    let ds : List DefinitionAt = definitions defs ps in
    let documents = documents_meet defs ds meet in
    definitions_meet defs ds (none_each (λ d. each (undefined_at defs) (sites_of d)) ds documents.defined) (none_each (λ d. each (set_wrong_at defs) (sites_of d)) ds documents.sets)
    (none_each (λ d. each arguments_of_call_wrong (calls_of defs d)) ds documents.arguments) (none_each (λ d. each (type_wrong_at defs) (sites_of d)) ds documents.connections)

pub fragments_of_documents_meet : FragmentsOfDocumentsMeet
fragments_of_documents_meet defs ps place sound meet n f found =
    let ds : List DefinitionAt = definitions defs ps in
    fragment_holds (FragmentMeets defs) (fragments ds) n f (fragments_meet defs (sound_meets defs sound) ds (all_have_sites defs 0 (trees_of ps)) (sets_meet defs ps meet)) found

pub operations_of_documents_meet : OperationsOfDocumentsMeet
operations_of_documents_meet defs ps place name o sound meet found =
    let ds : List DefinitionAt = definitions defs ps in
    let documents = documents_meet defs ds meet in
    let sets = operations_meet defs (sound_meets defs sound) ds (all_have_sites defs 0 (trees_of ps)) (sets_meet defs ps meet) in
    let here = operation_holds (OperationMeets defs) (operations ds) name o sets found in
    let rooted = operation_holds (λ (x : OperationAt). without_root defs x x.name ≡ []) (operations ds) name o
    (none_each (λ (x : OperationAt). without_root defs x x.name) (operations ds) documents.roots) found in
    let there : is_some (root defs o.kind) ≡ true = root_there defs o o.name here.1 rooted.0 in
    record { there = there; selections = set_at_root defs o here.0 (root defs o.kind) refl there; fragments = fragments_of_documents_meet defs ps place sound meet }

pub operations_are_suited : OperationsAreSuited
operations_are_suited defs ps place name o sound meet found =
    operations_that_meet_are_suited (project_of defs place (definitions defs ps)) o sound (operations_of_documents_meet defs ps place name o sound meet found)
