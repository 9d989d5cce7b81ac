-- When a count shows that something happened. This project's own.
use Rattle.std.specs.Prelude.{ℕ, ◌≤◌}
use Rattle.gql_plain.specs.Counted.{next_count}

-- a count is greater than before, or stands at the greatest 64-bit number
abbrev pub Rose : ℕ → ℕ → Type 0
Rose before now = next_count before ≤ now
