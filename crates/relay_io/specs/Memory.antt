-- What contracts see of the objects in memory, and what a call of each answers and leaves. The
-- calls of an object are numbered from 1. This project's own.
use Rattle.std.specs.Prelude.{◌≡◌, ℕ, ◌-◌, ◌==◌, min, Bool, ◌||◌, if◌then◌else◌, nat_eq, nat_lt, List, ◌++◌, length, take, drop, Option, Some, None, Result, Ok, Err, IsOk, Vec}
use Rattle.std.specs.List.{list_any}
use Rattle.gql_plain.specs.Counted.{next_count}
use Rattle.relay_io.specs.Files.{file_of}
use Rattle.relay_io.specs.declared.fault.VaultFault.{VaultFault}
use Rattle.relay_io.specs.declared.fault.VaultFault.TheVariants.{Absent, Failed, TooLong, NoMemory}

-- the number of the next call is among those that fail
abbrev pub next_fails : List ℕ → ℕ → Bool
next_fails failing calls = list_any (λ n. nat_eq n (next_count calls)) failing

pub record VaultState : Type 0 where
  pub files : List (List ℕ × List ℕ)
  pub failing : List ℕ
  pub calls : ℕ
  pub faults : ℕ

abbrev pub vault_fails : VaultState → Bool
vault_fails v = next_fails v.failing v.calls

abbrev pub file_answer : Option (List ℕ) → ℕ → Result (List ℕ) VaultFault
file_answer None limit = Err Absent
file_answer (Some bytes) limit = if nat_lt limit (length bytes) then Err TooLong else Ok bytes

-- what a reading answers where there is memory
abbrev pub vault_answer : VaultState → List ℕ → ℕ → Result (List ℕ) VaultFault
vault_answer v name limit = if vault_fails v then Err Failed else file_answer (file_of name v.files) limit

-- an answer is the wanted one, or the want of memory in place of bytes
abbrev pub IsAnswer : {A : Type 0} → Result (List ℕ) VaultFault → Result (Vec ℕ A) VaultFault → Type 0
IsAnswer wanted (Ok bytes) = wanted ≡ Ok bytes.items
IsAnswer wanted (Err Absent) = wanted ≡ Err Absent
IsAnswer wanted (Err Failed) = wanted ≡ Err Failed
IsAnswer wanted (Err TooLong) = wanted ≡ Err TooLong
IsAnswer wanted (Err NoMemory) = IsOk wanted

abbrev pub vault_after : VaultState → VaultState
vault_after v = record v { calls = next_count v.calls; faults = if vault_fails v then next_count v.faults else v.faults }

pub record SourceState : Type 0 where
  pub left : List ℕ
  pub piece : ℕ
  pub failing : List ℕ
  pub calls : ℕ
  pub faults : ℕ

abbrev pub source_fails : SourceState → Bool
source_fails s = next_fails s.failing s.calls

-- how many bytes a reading into so much room gives
abbrev pub source_gives : SourceState → ℕ → ℕ
source_gives s room = min (min (length s.left) room) s.piece

abbrev pub source_after : SourceState → ℕ → SourceState
source_after s room = record s { left = if source_fails s then s.left else drop (source_gives s room) s.left; calls = next_count s.calls; faults = if source_fails s then next_count s.faults else s.faults }

pub record SinkState : Type 0 where
  pub contents : List ℕ
  pub room : ℕ
  pub piece : ℕ
  pub failing : List ℕ
  pub calls : ℕ
  pub faults : ℕ

-- the next call is among those that fail, or the room is used up
abbrev pub sink_fails : SinkState → Bool
sink_fails s = next_fails s.failing s.calls || (length s.contents == s.room)

-- how many of the bytes a put takes
abbrev pub sink_takes : SinkState → List ℕ → ℕ
sink_takes s bytes = min (min (s.room - length s.contents) (length bytes)) s.piece

abbrev pub sink_after : SinkState → List ℕ → SinkState
sink_after s bytes = record s { contents = if sink_fails s then s.contents else s.contents ++ take (sink_takes s bytes) bytes; calls = next_count s.calls; faults = if sink_fails s then next_count s.faults else s.faults }
