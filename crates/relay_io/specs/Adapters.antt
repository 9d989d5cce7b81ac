-- What contracts see of an adapter beside what its reader or writer tells: it counts. This
-- project's own.
use Rattle.std.specs.Prelude.{ℕ, Bool, if◌then◌else◌, List, Option}
use Rattle.gql_plain.specs.Counted.{next_count}

-- the calls, and those of them that answered an Err
pub record Tally : Type 0 where
  pub calls : ℕ
  pub faults : ℕ

abbrev pub fresh : Tally
fresh = record { calls = 0; faults = 0 }

-- after one more call, which was Ok or not
abbrev pub after_call : Tally → Bool → Tally
after_call t ok = record { calls = next_count t.calls; faults = if ok then t.faults else next_count t.faults }

-- an adapter and the bytes that its reader has left, or its writer holds, where those are known
pub record Adapter : Type 0 where
  pub bytes : Option (List ℕ)
  pub tally : Tally
