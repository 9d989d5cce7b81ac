-- Keys and spreads at the root, one selection and one fragment at a time.
use Rattle.std.specs.Prelude.{◌≡◌, Bool, true, false, ◌||◌, List, [], ◌∷◌, length, cond, bytes_eq}
use Rattle.doc_sites.specs.gql_plain.Order.{has_text}
use Rattle.doc_sites.specs.gql_ast.declared.selection.Selection.{Selection}
use Rattle.doc_sites.specs.gql_ast.declared.selection.Selection.TheVariants as S
use Rattle.doc_sites.specs.schema_types.FieldRules as rules
use Rattle.doc_sites.specs.schema_types.FieldRules.{takes_root, keys_in, spreads_at_root, spreads_below}
use Rattle.doc_sites.specs.schema_types.NameRules.{fragment_named}
use Rattle.doc_sites.specs.gql_graph.Reached.{any_leads}
use Rattle.doc_sites.specs.schema_types.Sites.{FragmentAt, typename}
use Rattle.doc_sites.specs.schema_tables.Types.{Text, Defs}
use Rattle.doc_fields.specs.declared.keys.RootKeys.{RootKeys}
use Rattle.doc_fields.specs.declared.keys.RootKeys.TheVariants as K

-- the keys of one selection
abbrev pub keys_at : Defs → (root : Text) → Selection → List rules.Key
keys_at defs root (S.Field a n xs ds s) = rules.key_of a n ∷ []
keys_at defs root (S.Spread n ds) = []
keys_at defs root (S.Inline o ds s) = cond (takes_root defs root o) (keys_in defs root s) []

-- the fragments that one selection spreads
abbrev pub spreads_at : Defs → (root : Text) → Selection → List Text
spreads_at defs root (S.Field a n xs ds s) = []
spreads_at defs root (S.Spread n ds) = n ∷ []
spreads_at defs root (S.Inline o ds s) = cond (takes_root defs root o) (spreads_at_root defs root s) []

-- the fragments that the fragment of a name spreads at the root
abbrev pub next_at_root : Defs → (root : Text) → List FragmentAt → Text → List Text
next_at_root defs root fs n = spreads_below defs root (fragment_named fs n)

-- whether the fragment of a name is reached from those of others
abbrev pub reaches : Defs → List FragmentAt → (root : Text) → (starts : List Text) → Text → Bool
reaches defs fs root starts n = any_leads (next_at_root defs root fs) (length fs) starts n

-- these names are all that are reached from others
abbrev pub AreReached : Defs → List FragmentAt → (root : Text) → (starts ns : List Text) → Type 0
AreReached defs fs root starts ns = (to : Text) → has_text ns to ≡ reaches defs fs root starts to

-- ---- which keys there are: none, one that is not `__typename`, or others

pub data Sum : Type 0 where
  no_key : Sum
  one_key : Text → Sum
  bad_keys : Sum

abbrev pub and_one : Text → Sum → Sum
and_one k no_key = one_key k
and_one k (one_key l) = cond (bytes_eq k l) (one_key k) bad_keys
and_one k bad_keys = bad_keys

abbrev pub join_sums : Sum → Sum → Sum
join_sums no_key s = s
join_sums (one_key k) s = and_one k s
join_sums bad_keys s = bad_keys

abbrev pub key_sum : rules.Key → Sum
key_sum k = cond (bytes_eq k.0 typename || bytes_eq k.1 typename) bad_keys (one_key k.0)

abbrev pub sum_of : List rules.Key → Sum
sum_of [] = no_key
sum_of (k ∷ ks) = join_sums (key_sum k) (sum_of ks)

abbrev pub is_one : Sum → Bool
is_one no_key = false
is_one (one_key k) = true
is_one bad_keys = false

-- what keys in the code stand for
abbrev pub keys_view : RootKeys → Sum
keys_view K.Absent = no_key
keys_view (K.One k) = one_key k.now
keys_view K.Wrong = bad_keys
