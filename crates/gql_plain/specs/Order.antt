-- Lists of texts, distinct and in byte order.
use Rattle.std.specs.Prelude.{◌≡◌, ◌↔◌, ℕ, Bool, List, [], ◌∷◌, Option}
use Rattle.std.specs.Cmp.Lexicographic.{slice_cmp}
use Rattle.std.specs.List.{AllByRecursion, Contains, list_any}
use Rattle.std.specs.List.Sorted.{IsStrictlySortedBy}
use Rattle.std.specs.Map.{lookup}
use Rattle.std.specs.Ordering.{nat_cmp, match_ordering}
use Rattle.std.specs.Str.{bytes_eq}
use Rattle.std.specs.declared.cmp.Ordering.TheVariants.{Less}

-- each text is below those after it, by bytes
abbrev pub AreInOrder : List (List ℕ) → Type 0
AreInOrder texts = IsStrictlySortedBy (slice_cmp nat_cmp) texts

-- the text stands after each text of the list
abbrev pub IsAfter : List ℕ → List (List ℕ) → Type 0
IsAfter text texts = AllByRecursion (λ before. slice_cmp nat_cmp before text ≡ Less) texts

-- whether the text is in the list
abbrev pub has_text : List (List ℕ) → List ℕ → Bool
has_text texts text = list_any (λ one. bytes_eq one text) texts

-- the distinct texts of the list, in byte order
abbrev pub AreSortedOf : List (List ℕ) → List (List ℕ) → Type 0
AreSortedOf texts sorted = AreInOrder sorted × ((text : List ℕ) → Contains sorted text ↔ Contains texts text)

-- the value of a key, where the object has it
abbrev pub member_at : {X : Type 0} → List (List ℕ × X) → List ℕ → Option X
member_at members key = lookup (λ one. bytes_eq one key) members

-- the list with a text put at its place, unless the text is there
abbrev pub with_text : List ℕ → List (List ℕ) → List (List ℕ)
with_text text [] = text ∷ []
with_text text (first ∷ rest) =
    match_ordering (slice_cmp nat_cmp text first) (text ∷ first ∷ rest) (first ∷ rest) (first ∷ with_text text rest)

-- the distinct texts of the list, in byte order
abbrev pub sorted_texts : List (List ℕ) → List (List ℕ)
sorted_texts [] = []
sorted_texts (text ∷ texts) = with_text text (sorted_texts texts)
