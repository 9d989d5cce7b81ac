-- What a call that answers a script as it comes has read and written.
use Rattle.std.specs.Prelude.{◌≡◌, ◌⊎◌, ◌↔◌, ℕ, ◌+◌, ◌≤◌, [], length, take, Bool, Option, IsTrue, IsFalse}
use Rattle.std.specs.Io.KnownBytes.{IsAtEnd}
use Rattle.plan_ir.specs.schema_tables.Types.{Text}
use Rattle.relay_forms.specs.relay_io.Streams.{prepend}
use Rattle.relay_forms.specs.relay_machine.Machine.{Project}
use Rattle.relay_forms.specs.Progress.{Progress, after, ended, answers_of}
use Rattle.relay_forms.specs.Puts.{IsPutInPart}
use Rattle.relay_forms.specs.Scripts.{max_script}
use Rattle.relay_forms.specs.Statuses.{IsDone}
use Rattle.relay_top.specs.Answers.{IsWhole}
use Rattle.relay_forms.specs.declared.status.Status.{Status}
use Rattle.relay_forms.specs.declared.status.Status.TheVariants.{DoneWithRefusals, ReadFault, WriteFault, NoMemory, ScriptTooLong}

-- a script was answered from where the answering stood, and what the call answers is this status
pub record Streamed (p : Project) (buffer : ℕ) (q : Progress) (status : Status) (left left_now : Option Text) (reads reads_now : ℕ) (held held_now : Option Text) (puts puts_now : ℕ) : Type 0 where
  pub taken : Text
  pub is_ended : Bool
  pub is : left ≡ prepend taken left_now
  pub most : length taken ≤ max_script + 1
  pub end : IsTrue is_ended → IsAtEnd left_now
  pub short : IsTrue is_ended → length taken ≤ max_script
  pub over : length taken ≡ max_script + 1 → (status ≡ ScriptTooLong) ⊎ ((status ≡ WriteFault) ⊎ (status ≡ NoMemory))
  pub too_long : status ≡ ScriptTooLong → (length taken ≡ max_script + 1) × IsFalse is_ended
  pub read_fault : status ≡ ReadFault → IsFalse is_ended
  pub done : IsDone status → IsTrue is_ended
  pub reads_most : reads_now ≤ reads + length taken + 1
  pub put : IsPutInPart (answers_of p buffer q (take max_script taken) is_ended) (status ≡ WriteFault) held held_now puts puts_now
  pub whole : IsWhole status → put.rest ≡ []
  pub refusals : IsDone status → (status ≡ DoneWithRefusals) ↔ IsTrue (ended p buffer (after p buffer q taken)).refused
