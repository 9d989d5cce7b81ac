-- The rules on fields (GraphQL, October 2021, sections 5.2.3, 5.3.1, 5.3.3, 5.5.2.3). Each is the list of the places where it does not hold.
-- Where the type around a selection is not known, something is wrong further out, and nothing is said of the selection.
use Rattle.std.specs.Prelude.{ℕ, Bool, true, false, not, ◌&&◌, cond, List, [], ◌∷◌, ◌++◌, length, codes, Option, Some, None, is_some, bytes_eq}
use Rattle.std.specs.List.{list_any, list_all}
use Rattle.schema_rules.specs.gql_ast.Sels as sels
use Rattle.schema_rules.specs.gql_ast.Sels.{Sels, end}
use Rattle.schema_rules.specs.gql_ast.Ty.{Ty}
use Rattle.schema_rules.specs.gql_ast.declared.document.Kind.TheVariants.{Subscription}
use Rattle.schema_rules.specs.schema_trees.Located.{Located}
use Rattle.schema_types.specs.NameRules.{operations, fragments, sites_of, fragment_named}
use Rattle.schema_rules.specs.gql_graph.Reached.{any_leads}
use Rattle.schema_rules.specs.gql_graph.Rules.{each, wrong}
use Rattle.schema_types.specs.Sites.{Site, field, spread, inline, OperationAt, FragmentAt, DefinitionAt, typename, field_type}
use Rattle.schema_rules.specs.schema_tables.Types.{Text, Defs, base_of, is_leaf, is_composite, possible, applies, root, same_kind}

-- ---- V7 (5.3.1): a field is defined on its type

abbrev pub is_undefined : Option Text → Option Ty → Bool
is_undefined None t = false
is_undefined (Some of) t = not (is_some t)

abbrev pub undefined_at : Defs → Site → List ℕ
undefined_at defs (field around a n xs ds has_set) = wrong (is_undefined around (field_type defs around n.name)) n.at
undefined_at defs (spread around n ds) = []
undefined_at defs (inline around first on ds) = []

abbrev pub fields_undefined : Defs → List DefinitionAt → List ℕ
fields_undefined defs ds = each (λ d. each (undefined_at defs) (sites_of d)) ds

-- ---- V8 (5.3.3): a leaf has no selection set, and a composite field has one

abbrev pub set_is_wrong : Defs → Option Ty → (has_set : Bool) → Bool
set_is_wrong defs None has_set = false
set_is_wrong defs (Some t) true = is_leaf defs (base_of t)
set_is_wrong defs (Some t) false = is_composite defs (base_of t)

abbrev pub set_wrong_at : Defs → Site → List ℕ
set_wrong_at defs (field around a n xs ds has_set) = wrong (set_is_wrong defs (field_type defs around n.name) has_set) n.at
set_wrong_at defs (spread around n ds) = []
set_wrong_at defs (inline around first on ds) = []

abbrev pub sets_wrong : Defs → List DefinitionAt → List ℕ
sets_wrong defs ds = each (λ d. each (set_wrong_at defs) (sites_of d)) ds

-- ---- V9: no selected field is of Float

abbrev pub is_float : Option Ty → Bool
is_float None = false
is_float (Some t) = bytes_eq (base_of t) (codes "Float")

abbrev pub float_at : Defs → Site → List ℕ
float_at defs (field around a n xs ds has_set) = wrong (is_float (field_type defs around n.name)) n.at
float_at defs (spread around n ds) = []
float_at defs (inline around first on ds) = []

abbrev pub floats_selected : Defs → List DefinitionAt → List ℕ
floats_selected defs ds = each (λ d. each (float_at defs) (sites_of d)) ds

-- ---- V10 (5.5.2.3): a condition that is composite and the type around it have a possible type in common

abbrev pub have_common_type : Defs → (around condition : Text) → Bool
have_common_type defs around condition = list_any (λ object. applies defs object around) (possible defs condition)

abbrev pub cannot_apply : Defs → (around condition : Option Text) → Bool
cannot_apply defs None condition = false
cannot_apply defs (Some of) None = false
cannot_apply defs (Some of) (Some on) = is_composite defs on && not (have_common_type defs of on)

abbrev pub condition_of_fragment : Option FragmentAt → Option Text
condition_of_fragment None = None
condition_of_fragment (Some f) = Some f.on.name

abbrev pub condition_of_inline : Option Located → Option Text
condition_of_inline None = None
condition_of_inline (Some n) = Some n.name

abbrev pub never_applies_at : Defs → List FragmentAt → Site → List ℕ
never_applies_at defs fs (field around a n xs ds has_set) = []
never_applies_at defs fs (spread around n ds) = wrong (cannot_apply defs around (condition_of_fragment (fragment_named fs n.name))) n.at
never_applies_at defs fs (inline around first on ds) = wrong (cannot_apply defs around (condition_of_inline on)) first

abbrev pub conditions_never_apply : Defs → List DefinitionAt → List ℕ
conditions_never_apply defs ds = each (λ d. each (never_applies_at defs (fragments ds)) (sites_of d)) ds

-- ---- V11 (5.2.3.1): a subscription has one response key at its root, all that applies to the root type followed whatever the
-- conditions, and it is no `__typename`

-- a response key, and the name of the field
abbrev pub Key : Type 0
Key = Text × Text

abbrev pub key_of : (alias : Option Text) → (name : Text) → Key
key_of None n = (n, n)
key_of (Some a) n = (a, n)

abbrev pub takes_root : Defs → (root : Text) → (on : Option Text) → Bool
takes_root defs root None = true
takes_root defs root (Some on) = applies defs root on

-- the fields of the set, and of the inline fragments that apply
abbrev pub keys_in : Defs → (root : Text) → Sels → List Key
keys_in defs root end = []
keys_in defs root (sels.field a n xs ds s rest) = key_of a n ∷ keys_in defs root rest
keys_in defs root (sels.spread n ds rest) = keys_in defs root rest
keys_in defs root (sels.inline o ds s rest) = cond (takes_root defs root o) (keys_in defs root s) [] ++ keys_in defs root rest

-- the fragments that are spread there
abbrev pub spreads_at_root : Defs → (root : Text) → Sels → List Text
spreads_at_root defs root end = []
spreads_at_root defs root (sels.field a n xs ds s rest) = spreads_at_root defs root rest
spreads_at_root defs root (sels.spread n ds rest) = n ∷ spreads_at_root defs root rest
spreads_at_root defs root (sels.inline o ds s rest) = cond (takes_root defs root o) (spreads_at_root defs root s) [] ++ spreads_at_root defs root rest

-- the spreads of a fragment that applies
abbrev pub spreads_below : Defs → (root : Text) → Option FragmentAt → List Text
spreads_below defs root None = []
spreads_below defs root (Some f) = cond (applies defs root f.on.name) (spreads_at_root defs root f.selections) []

-- the keys of a fragment that applies and is reached
abbrev pub keys_of_fragment : Defs → List FragmentAt → (root : Text) → Sels → FragmentAt → List Key
keys_of_fragment defs fs root s f =
    cond (applies defs root f.on.name && any_leads (λ n. spreads_below defs root (fragment_named fs n)) (length fs) (spreads_at_root defs root s) f.name.name)
    (keys_in defs root f.selections) []

abbrev pub root_keys : Defs → List FragmentAt → (root : Text) → Sels → List Key
root_keys defs fs root s = keys_in defs root s ++ each (keys_of_fragment defs fs root s) fs

abbrev pub is_good_key : (first : Text) → Key → Bool
is_good_key first k = bytes_eq k.0 first && not (bytes_eq k.0 typename) && not (bytes_eq k.1 typename)

abbrev pub is_one_key : List Key → Bool
is_one_key [] = false
is_one_key (k ∷ ks) = list_all (is_good_key k.0) (k ∷ ks)

abbrev pub many_keys : Defs → List FragmentAt → Sels → (root : Option Text) → (name : Option Located) → List ℕ
many_keys defs fs s None name = []
many_keys defs fs s (Some root) None = []
many_keys defs fs s (Some root) (Some n) = wrong (not (is_one_key (root_keys defs fs root s))) n.at

abbrev pub subscription_wrong : Defs → List FragmentAt → OperationAt → List ℕ
subscription_wrong defs fs o = cond (same_kind o.kind Subscription) (many_keys defs fs o.selections (root defs o.kind) o.name) []

abbrev pub subscriptions_wrong : Defs → List DefinitionAt → List ℕ
subscriptions_wrong defs ds = each (subscription_wrong defs (fragments ds)) (operations ds)
