-- The bytes of a script.
use Rattle.std.specs.Prelude.{◌≡◌, ℕ, ◌^◌, [], ◌∷◌, ◌==◌, false}
use Rattle.plan_ir.specs.schema_tables.Types.{Text}

-- a script has at most 1 GiB
abbrev pub max_script : ℕ
max_script = 2 ^ 30

-- no byte is LF
abbrev pub HasNoEnd : Text → Type 0
HasNoEnd [] = Unit {0}
HasNoEnd (b ∷ bs) = ((b == 10) ≡ false) × HasNoEnd bs
