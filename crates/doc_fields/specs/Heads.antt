-- The keys of the fragments that apply to a root type, by the names of the fragments.
use Rattle.std.specs.Prelude.{◌≡◌, ℕ, zero, suc, ◌≤◌, ◌&&◌, List, [], ◌∷◌, cond, length, Option, Some, None, option_map, unwrap_or, bytes_eq}
use Rattle.std.specs.BTreeMap.{get_by}
use Rattle.std.specs.Cmp.Lexicographic.{slice_cmp}
use Rattle.std.specs.Ordering.{nat_cmp}
use Rattle.doc_sites.specs.schema_types.FieldRules as rules
use Rattle.doc_sites.specs.schema_types.FieldRules.{keys_in}
use Rattle.doc_sites.specs.gql_graph.Graphs.{Tells}
use Rattle.doc_sites.specs.gql_graph.Rules.{each}
use Rattle.doc_sites.specs.schema_types.Sites.{FragmentAt}
use Rattle.doc_sites.specs.schema_tables.Types.{Text, Defs, applies}
use Rattle.doc_fields.specs.Keys.{Sum, no_key, join_sums, keys_view, next_at_root, sum_of}
use Rattle.doc_fields.specs.declared.below.KeysBelow.{KeysBelow}
use Rattle.doc_fields.specs.declared.heads.Heads.{Heads}
use Rattle.doc_fields.specs.declared.spreads.RootFragments.{RootFragments}

-- the keys of a fragment that applies and has this name
abbrev pub keys_named : Defs → (root name : Text) → FragmentAt → List rules.Key
keys_named defs root n f = cond (applies defs root f.on.name && bytes_eq f.name.name n) (keys_in defs root f.selections) []

-- the keys of all fragments of a name
abbrev pub keys_of_name : Defs → (root : Text) → List FragmentAt → Text → List rules.Key
keys_of_name defs root fs n = each (keys_named defs root n) fs

-- what is kept of a name
abbrev pub keys_kept : Heads → Text → Option Sum
keys_kept heads n = option_map keys_view (get_by (λ k. slice_cmp nat_cmp n k.now) heads.by_name)

-- the keys that are found by a name
abbrev pub keys_found : Heads → Text → Sum
keys_found heads n = unwrap_or (keys_kept heads n) no_key

-- those of all elements
abbrev pub all_of : {A : Type 0} → (A → Sum) → List A → Sum
all_of f [] = no_key
all_of f (x ∷ xs) = join_sums (f x) (all_of f xs)

-- ---- the keys of a name, and of those that it leads to

abbrev pub below : (next : Text → List Text) → (own : Text → Sum) → (steps : ℕ) → Text → Sum
below next own zero n = own n
below next own (suc k) n = join_sums (own n) (all_of (below next own k) (next n))

abbrev pub kept_below : KeysBelow → Text → Option Sum
kept_below b n = option_map keys_view (get_by (λ k. slice_cmp nat_cmp n k.now) b.by_name)

-- what is known is right
abbrev pub IsKnown : Option Sum → Sum → Type 0
IsKnown None s = Unit {0}
IsKnown (Some t) s = t ≡ s

abbrev pub AreKnown : KeysBelow → (Text → Sum) → Type 0
AreKnown b f = (n : Text) → IsKnown (kept_below b n) (f n)

-- what is known is right for so many steps and more
abbrev pub AreBelow : (next : Text → List Text) → (own : Text → Sum) → (least : ℕ) → KeysBelow → Type 0
AreBelow next own least b = (k : ℕ) → least ≤ k → AreKnown b (below next own k)

-- what is found of fragments
pub record IsOf (defs : Defs) (root : Text) (fs : List FragmentAt) (found : RootFragments) : Type 0 where
  pub spreads : Tells found.spreads (next_at_root defs root fs)
  pub heads : (n : Text) → keys_found found.heads n ≡ sum_of (keys_of_name defs root fs n)
  pub count : found.count ≡ length fs
  pub below : AreBelow (next_at_root defs root fs) (λ n. sum_of (keys_of_name defs root fs n)) (length fs) found.below
