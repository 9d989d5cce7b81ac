-- The form of a Name (GraphQL, October 2021, section 2.1.9), over the bytes of a text.
use Rattle.std.specs.Prelude.{ℕ, Bool, false, ◌&&◌, ◌||◌, ◌==◌, nat_le, List, [], ◌∷◌}
use Rattle.std.specs.List.{list_all}

abbrev pub is_within : ℕ → ℕ → ℕ → Bool
is_within low high c = nat_le low c && nat_le c high

-- A to Z, a to z, and `_`
abbrev pub is_name_start : ℕ → Bool
is_name_start c = is_within 65 90 c || is_within 97 122 c || (c == 95)

-- those, and 0 to 9
abbrev pub is_name_byte : ℕ → Bool
is_name_byte c = is_name_start c || is_within 48 57 c

-- a letter or `_`, followed by letters, digits and `_`, all ASCII
abbrev pub is_name : List ℕ → Bool
is_name [] = false
is_name (c ∷ cs) = is_name_start c && list_all is_name_byte cs
