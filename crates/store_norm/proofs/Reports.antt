-- Laws of gathering.
use Rattle.std.proofs.Common.{◌≡◌, List, [], ◌∷◌, Option, Some, None, append-nil, refl}
use Rattle.plan_ir.specs.store_model.Says.{Report, both, no_report, report_pages}
use Rattle.plan_ir.specs.store_model.Verdicts.{fault_cmp}
use Rattle.plan_ir.specs.store_model.declared.facts.HandleFact.{HandleFact}
use Rattle.plan_ir.specs.store_model.declared.payload_fault.PayloadFault.{PayloadFault}
use Rattle.store_report.proofs.Joins.{gathering_right}
use Rattle.store_report.specs.Gathering.{Gathering, gathered_onto, lesser_some}

fault_alone : (f : Option PayloadFault) → lesser_some fault_cmp f None ≡ f
fault_alone None = refl
fault_alone (Some f) = refl

-- nothing said leaves what is gathered
pub gathered_none : (g : Gathering) → gathered_onto g no_report ≡ g
gathered_none g = λ i. record { puts = append-nil g.puts i; pages = append-nil g.pages i; fault = fault_alone g.fault i }

-- one report behind another
pub gathered_both : (g : Gathering) (a b : Report) → gathered_onto (gathered_onto g a) b ≡ gathered_onto g (both a b)
gathered_both g a b = gathering_right.joins g a b

pub gathered_page : (g : Gathering) (page : HandleFact) (pages : List HandleFact)
    → gathered_onto (gathered_onto g (report_pages (page ∷ []))) (report_pages pages) ≡ gathered_onto g (report_pages (page ∷ pages))
gathered_page g page pages = gathering_right.joins g (report_pages (page ∷ [])) (report_pages pages)

pub ruleset gathering = (gathered_none)
