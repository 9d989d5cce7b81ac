-- How far the answering of a script has come, byte by byte.
use Rattle.std.specs.Prelude.{ℕ, ◌+◌, List, [], ◌∷◌, ◌++◌, take, Bool, false, ◌||◌, ◌==◌, cond}
use Rattle.plan_ir.specs.gql_plain.Limits.{max_line}
use Rattle.relay_machine.specs.Machine.{Project, State, Step, step}
use Rattle.plan_ir.specs.schema_tables.Types.{Text}

-- the state that the lines so far lead to, the number of the line that comes, as much of that line as is looked at, and whether a line was refused
pub record Progress : Type 0 where
  pub state : State
  pub number : ℕ
  pub part : Text
  pub refused : Bool

-- nothing has come of the line with this number
abbrev pub start : State → (number : ℕ) → Progress
start s n = record { state = s; number = n; part = []; refused = false }

-- the step of the line that has come
abbrev pub step_of : Project → (buffer : ℕ) → Progress → Step
step_of p buffer q = step p buffer q.state q.number q.part

-- behind more bytes of the line: of a longer one as much is kept as shows that it is too long
abbrev pub longer : Progress → Text → Progress
longer q bytes = record { state = q.state; number = q.number; part = take (max_line + 1) (q.part ++ bytes); refused = q.refused }

-- behind the end of the line
abbrev pub ended_line : Project → (buffer : ℕ) → Progress → Progress
ended_line p buffer q = record { state = (step_of p buffer q).state; number = q.number + 1; part = []; refused = q.refused || (step_of p buffer q).refused }

-- behind a byte
abbrev pub behind : Project → (buffer : ℕ) → Progress → ℕ → Progress
behind p buffer q b = cond (b == 10) (ended_line p buffer q) (longer q (b ∷ []))

-- behind some bytes
abbrev pub after : Project → (buffer : ℕ) → Progress → Text → Progress
after p buffer q [] = q
after p buffer q (b ∷ bytes) = after p buffer (behind p buffer q b) bytes

-- what is written for some bytes: the answers of the lines that end in them
abbrev pub told : Project → (buffer : ℕ) → Progress → Text → Text
told p buffer q [] = []
told p buffer q (b ∷ bytes) = cond (b == 10) (step_of p buffer q).text [] ++ told p buffer (behind p buffer q b) bytes

-- ---- the end of the script: a part that no LF ends is a line, where it is not empty

abbrev pub ended_part : Project → (buffer : ℕ) → Progress → (part : Text) → Progress
ended_part p buffer q [] = q
ended_part p buffer q (b ∷ part) = ended_line p buffer q

abbrev pub told_of_part : Project → (buffer : ℕ) → Progress → (part : Text) → Text
told_of_part p buffer q [] = []
told_of_part p buffer q (b ∷ part) = (step_of p buffer q).text

-- behind the end
abbrev pub ended : Project → (buffer : ℕ) → Progress → Progress
ended p buffer q = ended_part p buffer q q.part

-- what is written at the end
abbrev pub told_at_end : Project → (buffer : ℕ) → Progress → Text
told_at_end p buffer q = told_of_part p buffer q q.part

-- what is written for some bytes of a script, which has ended behind them or not
abbrev pub answers_of : Project → (buffer : ℕ) → Progress → Text → (is_ended : Bool) → Text
answers_of p buffer q bytes is_ended = told p buffer q bytes ++ cond is_ended (told_at_end p buffer (after p buffer q bytes)) []
