-- Int: an optional `-`, and then `0`, or a digit 1 to 9 with further digits (GraphQL, October 2021, section 2.9.1).
use Rattle.std.specs.Prelude.{ℕ, ◌+◌, ◌^◌, Bool, cond, ◌==◌, nat_le, nat_lt, List, drop, slice_index, ℤ, pos, neg_ℤ}
use Rattle.std.specs.List.{prefix_len}
use Rattle.std.specs.Str.Parse.{digits_value}
use Rattle.gql_lex.specs.Characters.{minus, is_digit}

abbrev pub is_negative : List ℕ → Bool
is_negative bs = slice_index bs 0 == minus

-- how many bytes the sign has
abbrev pub sign_len : List ℕ → ℕ
sign_len bs = cond (is_negative bs) 1 0

-- how many bytes the `0`, or the digit 1 to 9 with further digits, has; 0 where no digit stands
abbrev pub digits_len : List ℕ → ℕ
digits_len bs = cond (slice_index bs 0 == 48) 1 (prefix_len is_digit bs)

-- how many bytes the Int has that these bytes begin with
abbrev pub int_len : List ℕ → ℕ
int_len bs = sign_len bs + digits_len (drop (sign_len bs) bs)

-- the number that the digits of an Int write
abbrev pub magnitude : List ℕ → ℕ
magnitude text = digits_value 10 (drop (sign_len text) text)

-- the value of an Int
abbrev pub int_value : List ℕ → ℤ
int_value text = cond (is_negative text) (neg_ℤ (pos (magnitude text))) (pos (magnitude text))

-- from -2^63 to 2^63 - 1
abbrev pub is_in_i64 : List ℕ → Bool
is_in_i64 text = cond (is_negative text) (nat_le (magnitude text) (2 ^ 63)) (nat_lt (magnitude text) (2 ^ 63))
