-- The statuses of the program, and the exit status of each.
use Rattle.std.specs.Prelude.{ℕ}
use Rattle.relay_forms.specs.declared.status.Status.{Status}
use Rattle.relay_forms.specs.declared.status.Status.TheVariants.{Done, DoneWithRefusals, Usage, ProjectRefused, ReadFault, WriteFault, NoMemory, ScriptTooLong}

abbrev pub exit_of : Status → ℕ
exit_of Done = 0
exit_of DoneWithRefusals = 1
exit_of Usage = 2
exit_of ProjectRefused = 3
exit_of ReadFault = 4
exit_of WriteFault = 5
exit_of NoMemory = 6
exit_of ScriptTooLong = 7

-- the work is done
abbrev pub IsDone : Status → Type 0
IsDone Done = Unit {0}
IsDone DoneWithRefusals = Unit {0}
IsDone Usage = ⊥
IsDone ProjectRefused = ⊥
IsDone ReadFault = ⊥
IsDone WriteFault = ⊥
IsDone NoMemory = ⊥
IsDone ScriptTooLong = ⊥
