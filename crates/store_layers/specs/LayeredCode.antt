-- The code of layers.
use Rattle.std.specs.Prelude.{List, refl}
use Rattle.std.specs.Coded.{Coded, code_by, coded×, coded_list, coded_ℕ}
use Rattle.store_update.specs.store_model.Records.{Records}
use Rattle.store_update.specs.store_model.contracts.entry.Entry as entry
use Rattle.store_update.specs.store_source.Records.{coded_records}
use Rattle.store_layers.specs.Layered.{Layered, Layer}

abbrev pub layered_code : Coded Layered
layered_code =
    code_by (Records × List Layer) (coded× coded_records (coded_list (coded× (coded_list coded_ℕ) entry.the_row.coded)))
    (λ s. (s.base, s.live)) (λ p. record { base = p.0; live = p.1 }) (λ _. refl)
