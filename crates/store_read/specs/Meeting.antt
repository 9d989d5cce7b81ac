-- What a walk met so far.
use Rattle.std.specs.Prelude.{Bool, ◌||◌, List, ◌++◌, refl}
use Rattle.std.specs.Coded.{Coded, code_by, coded×, coded_bool, coded_list, coded_ℕ}
use Rattle.plan_ir.specs.store_model.Walks.{Trace}
use Rattle.plan_ir.specs.store_record.Keys.{Text}

-- whether something was missing, and the ids stood at
pub record Meeting : Type 0 where
  pub missing : Bool
  pub seen : List Text

abbrev pub coded_meeting : Coded Meeting
coded_meeting = code_by (Bool × List Text) (coded× coded_bool (coded_list (coded_list coded_ℕ))) (λ m. (m.missing, m.seen)) (λ t. record { missing = t.0; seen = t.1 }) (λ _. refl)

-- and then what a trace tells
abbrev pub met_onto : Meeting → Trace → Meeting
met_onto m t = record { missing = m.missing || t.missing; seen = m.seen ++ t.seen }
