-- Where a session stands.
use Rattle.std.specs.Prelude.{◌≡◌, ℕ, ◌+◌, ◌≤◌, length}
use Rattle.plan_ir.specs.gql_plain.Limits.{max_line}
use Rattle.relay_engine.specs.Stands.{StandsFor}
use Rattle.relay_forms.specs.relay_machine.Machine.{Project}
use Rattle.relay_forms.specs.Progress.{Progress}
use Rattle.relay_top.specs.declared.session.Session.{Session}

-- a session over this project, which keeps so many released operations, has come so far
pub record IsAt (p : Project) (buffer : ℕ) (s : Session) (q : Progress) : Type 0 where
  pub stands : StandsFor s.engine p q.state
  pub buffer_is : s.engine.buffer ≡ buffer
  pub number : s.n ≡ q.number
  pub part : s.part.items ≡ q.part
  pub refused : s.refused ≡ q.refused
  pub short : length q.part ≤ max_line + 1
