-- What a tree holds, as contracts see it.
use Rattle.std.specs.Prelude.{ℕ, zero, suc, ◌+◌, ◌/◌, true, false, not, T, List, [], ◌∷◌, map, nat_eq}
use Rattle.std.specs.Ordering.{nat_cmp, eq_by_cmp}
use Rattle.std.specs.Cmp.Lexicographic.{slice_cmp}
use Rattle.std.specs.FinMap.Entries.{put, where_key, is_sorted}
use Rattle.std.specs.declared.cmp.Ordering.{Ordering}

-- the pairs of key and value, and the height: the number of leaves and nodes on a longest way down
pub record Contents (V : Type 0) : Type 0 where
  pub pairs : List (List ℕ × V)
  pub height : ℕ

-- each key is below those after it, by bytes
abbrev pub KeysRise : {V : Type 0} → List (List ℕ × V) → Type 0
KeysRise pairs = T (is_sorted (slice_cmp nat_cmp) pairs)

-- the keys, in order
abbrev pub keys_of : {V : Type 0} → List (List ℕ × V) → List (List ℕ)
keys_of pairs = map (λ pair. pair.0) pairs

-- the pairs whose key is not this one
abbrev pub without_key : {V : Type 0} → List ℕ → List (List ℕ × V) → List (List ℕ × V)
without_key key pairs = where_key (slice_cmp nat_cmp) (λ other. not (eq_by_cmp (slice_cmp nat_cmp) key other)) pairs

-- the pairs whose key does not tie with this one in the order R
abbrev pub without_tied : {V : Type 0} → (List ℕ → List ℕ → Ordering) → List ℕ → List (List ℕ × V) → List (List ℕ × V)
without_tied R key pairs = where_key R (λ other. not (eq_by_cmp R key other)) pairs

-- the pairs in byte order of their keys, the first of those that have the same key
abbrev pub by_bytes : {V : Type 0} → List (List ℕ × V) → List (List ℕ × V)
by_bytes [] = []
by_bytes (pair ∷ pairs) = put (slice_cmp nat_cmp) pair.0 pair.1 (by_bytes pairs)

-- how often n can be halved, at most `most` times, until nothing is left
abbrev pub halvings : ℕ → ℕ → ℕ
halvings zero n = 0
halvings (suc most) n = elim (nat_eq n 0) [ true ↦ 0 | false ↦ halvings most (n / 2) + 1 ]

-- the number of binary digits of n, where 0 has none
unfoldable pub binary_digits : ℕ → ℕ
binary_digits n = halvings n n
