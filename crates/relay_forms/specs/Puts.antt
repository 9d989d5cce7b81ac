-- What is put of a text.
use Rattle.std.specs.Prelude.{◌≡◌, ◌⊎◌, ℕ, ◌+◌, ◌≤◌, ◌++◌, length, Option}
use Rattle.plan_ir.specs.schema_tables.Types.{Text}
use Rattle.relay_io.specs.Streams.{append}
use Rattle.relay_forms.specs.Artifacts.{EndsLine}

-- a text of whole lines was put, by at most as many calls as it has bytes
pub record IsPut (text : Text) (held held_now : Option Text) (puts puts_now : ℕ) : Type 0 where
  pub adds : held_now ≡ append held text
  pub calls : puts_now ≤ puts + length text
  pub ends : EndsLine text

-- a part of a text was put, from its beginning on: whole lines, but where the sink failed
pub record IsPutInPart (text : Text) (fails : Type 0) (held held_now : Option Text) (puts puts_now : ℕ) : Type 0 where
  pub part : Text
  pub rest : Text
  pub parts : part ++ rest ≡ text
  pub adds : held_now ≡ append held part
  pub calls : puts_now ≤ puts + length part + 1
  pub ends : fails ⊎ EndsLine part
