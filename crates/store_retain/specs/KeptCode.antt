-- The code of what is retained.
use Rattle.std.specs.Prelude.{ℕ, List, refl}
use Rattle.std.specs.Coded.{Coded, code_by, coded×, coded_list, coded_ℕ}
use Rattle.plan_ir.specs.store_record.Keys.{Text}
use Rattle.store_retain.specs.Kept.{Kept}
use Rattle.store_retain.specs.contracts.held.Held as held
use Rattle.store_retain.specs.declared.held.Held.{Held}

abbrev pub kept_code : Coded Kept
kept_code =
    code_by (ℕ × (List (Text × Held) × List Held)) (coded× coded_ℕ (coded× (coded_list (coded× (coded_list coded_ℕ) held.the_row.coded)) (coded_list held.the_row.coded)))
    (λ k. (k.buffer, (k.live, k.released))) (λ p. record { buffer = p.0; live = p.1.0; released = p.1.1 }) (λ _. refl)
