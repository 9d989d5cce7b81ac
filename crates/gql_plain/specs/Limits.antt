-- The limits that several layers share (this project's own).
use Rattle.std.specs.Prelude.{ℕ, ◌^◌}

-- the most bytes of a script line that are read: 8 MiB
abbrev pub max_line : ℕ
max_line = 2 ^ 23
