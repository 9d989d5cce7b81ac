-- How a gathering, and what rows hold, is stored, where its parts are.
use Rattle.std.specs.Prelude.{List, Option, refl}
use Rattle.std.specs.Coded.{Coded, code_by, coded×, coded_list, coded_option}
use Rattle.store_model.specs.Says.{Put}
use Rattle.store_model.specs.declared.facts.Fact.{Fact}
use Rattle.store_model.specs.declared.facts.HandleFact.{HandleFact}
use Rattle.store_model.specs.declared.payload_fault.PathStep.{PathStep}
use Rattle.store_model.specs.declared.payload_fault.PayloadFault.{PayloadFault}
use Rattle.store_report.specs.Gathering.{Gathering}
use Rattle.store_report.specs.ObjectRows.{Held}

abbrev pub put_code : Coded Fact → Coded PathStep → Coded Put
put_code fact step = code_by (Fact × List PathStep) (coded× fact (coded_list step)) (λ p. (p.fact, p.path)) (λ t. record { fact = t.0; path = t.1 }) (λ _. refl)

abbrev pub gathering_code : Coded Fact → Coded PathStep → Coded HandleFact → Coded PayloadFault → Coded Gathering
gathering_code fact step page fault =
    code_by (List Put × (List HandleFact × Option PayloadFault)) (coded× (coded_list (put_code fact step)) (coded× (coded_list page) (coded_option fault)))
    (λ g. (g.puts, (g.pages, g.fault))) (λ t. record { puts = t.0; pages = t.1.0; fault = t.1.1 }) (λ _. refl)

abbrev pub held_code : Coded Fact → Coded HandleFact → Coded PayloadFault → Coded Held
held_code fact page fault =
    code_by (List Fact × (List HandleFact × Option PayloadFault)) (coded× (coded_list fact) (coded× (coded_list page) (coded_option fault)))
    (λ s. (s.facts, (s.handles, s.fault))) (λ t. record { facts = t.0; handles = t.1.0; fault = t.1.1 }) (λ _. refl)
