-- The rules on the names of operations and fragments (GraphQL, October 2021, sections 5.2.1, 5.5.1, 5.5.2). Each is the list of the places
-- where it does not hold.
use Rattle.std.specs.Prelude.{ℕ, not, List, [], ◌∷◌, ◌++◌, map, length, Option, Some, None, is_some, bytes_eq, cond}
use Rattle.std.specs.List.{filter_map}
use Rattle.schema_rules.specs.gql_plain.Order.{has_text}
use Rattle.schema_rules.specs.schema_trees.Located.{Located}
use Rattle.schema_rules.specs.gql_graph.Reached.{leads}
use Rattle.schema_rules.specs.Rules.{each, wrong, repeated_names}
use Rattle.schema_types.specs.Sites.{Site, field, spread, inline, OperationAt, FragmentAt, DefinitionAt, operation, fragment}
use Rattle.schema_rules.specs.schema_tables.Types.{Text, Defs, is_composite, root}

abbrev pub operation_of : DefinitionAt → Option OperationAt
operation_of (operation o) = Some o
operation_of (fragment f) = None

abbrev pub fragment_of : DefinitionAt → Option FragmentAt
fragment_of (operation o) = None
fragment_of (fragment f) = Some f

abbrev pub operations : List DefinitionAt → List OperationAt
operations ds = filter_map operation_of ds

abbrev pub fragments : List DefinitionAt → List FragmentAt
fragments ds = filter_map fragment_of ds

abbrev pub sites_of : DefinitionAt → List Site
sites_of (operation o) = o.sites
sites_of (fragment f) = f.sites

-- ---- V1 (5.2.1.1): every operation has a name, and names differ

abbrev pub nameless : (first : ℕ) → Option Located → List ℕ
nameless first None = first ∷ []
nameless first (Some n) = []

abbrev pub without_name : OperationAt → List ℕ
without_name o = nameless o.first o.name

abbrev pub operation_names : List DefinitionAt → List Located
operation_names ds = filter_map (λ (o : OperationAt). o.name) (operations ds)

abbrev pub operations_not_named : List DefinitionAt → List ℕ
operations_not_named ds = each without_name (operations ds) ++ repeated_names (operation_names ds)

-- ---- V2 (5.5.1.1): the names of fragments differ

abbrev pub fragment_names : List DefinitionAt → List Located
fragment_names ds = map (λ (f : FragmentAt). f.name) (fragments ds)

abbrev pub fragments_not_unique : List DefinitionAt → List ℕ
fragments_not_unique ds = repeated_names (fragment_names ds)

-- ---- V3 (5.5.1.2, 5.5.1.3): type conditions name an object, an interface or a union

abbrev pub condition_at : Site → Option Located
condition_at (field around a n xs ds has_set) = None
condition_at (spread around n ds) = None
condition_at (inline around first on ds) = on

abbrev pub conditions_in : DefinitionAt → List Located
conditions_in (operation o) = filter_map condition_at o.sites
conditions_in (fragment f) = f.on ∷ filter_map condition_at f.sites

abbrev pub not_composite : Defs → Located → List ℕ
not_composite defs n = wrong (not (is_composite defs n.name)) n.at

abbrev pub conditions_wrong : Defs → List DefinitionAt → List ℕ
conditions_wrong defs ds = each (λ d. each (not_composite defs) (conditions_in d)) ds

-- ---- V4 (5.5.2.1): fragments that are spread are there

abbrev pub spread_at : Site → Option Located
spread_at (field around a n xs ds has_set) = None
spread_at (spread around n ds) = Some n
spread_at (inline around first on ds) = None

abbrev pub spreads_in : List Site → List Located
spreads_in ss = filter_map spread_at ss

abbrev pub names_of_all : List Located → List Text
names_of_all ns = map (λ (n : Located). n.name) ns

abbrev pub not_there : (names : List Text) → Located → List ℕ
not_there names n = wrong (not (has_text names n.name)) n.at

abbrev pub fragments_not_there : List DefinitionAt → List ℕ
fragments_not_there ds = each (λ d. each (not_there (names_of_all (fragment_names ds))) (spreads_in (sites_of d))) ds

-- ---- V5 (5.5.2.2): no fragment reaches itself

abbrev pub fragment_named : List FragmentAt → Text → Option FragmentAt
fragment_named [] n = None
fragment_named (f ∷ fs) n = cond (bytes_eq f.name.name n) (Some f) (fragment_named fs n)

abbrev pub spreads_of_fragment : Option FragmentAt → List Text
spreads_of_fragment None = []
spreads_of_fragment (Some f) = names_of_all (spreads_in f.sites)

-- the fragments that a fragment spreads
abbrev pub spread_by : List FragmentAt → Text → List Text
spread_by fs n = spreads_of_fragment (fragment_named fs n)

-- a chain without repetition has no more spreads than there are fragments
abbrev pub leads_back : List FragmentAt → FragmentAt → Located → List ℕ
leads_back fs f n = wrong (leads (spread_by fs) (length fs) n.name f.name.name) n.at

abbrev pub spreads_on_cycles : List DefinitionAt → List ℕ
spreads_on_cycles ds = each (λ (f : FragmentAt). each (leads_back (fragments ds) f) (spreads_in f.sites)) (fragments ds)

-- ---- V6: the root type of an operation is there

abbrev pub without_root : Defs → OperationAt → Option Located → List ℕ
without_root defs o None = []
without_root defs o (Some n) = wrong (not (is_some (root defs o.kind))) n.at

abbrev pub roots_missing : Defs → List DefinitionAt → List ℕ
roots_missing defs ds = each (λ (o : OperationAt). without_root defs o o.name) (operations ds)
