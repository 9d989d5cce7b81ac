-- What several reports say is gathered one after the other as together.
use Rattle.std.proofs.Common.{◌≡◌, List, [], ◌∷◌, ◌++◌, length, Option, Some, None, append_assoc, refl, sym, ap, ◌∙◌}
use Rattle.store_model.specs.store_record.Keys.{Text}
use Rattle.store_model.specs.store_record.declared.field.Field.{Field}
use Rattle.store_model.specs.Says.{Put, Report, both, put_at, Path}
use Rattle.store_model.specs.Verdicts.{fault_cmp, least, unless_fault, verdict}
use Rattle.store_model.specs.declared.payload_fault.PayloadFault.{PayloadFault}
use Rattle.store_report.proofs.Orders.{faults_total, some_assoc, least_append}
use Rattle.store_report.specs.Gathering.{Gathering, nothing, lesser_some, gathered_onto, put_with, puts_with, with_value, verdict_of, GatheringIsRight}

joined : (g : Gathering) (a b : Report) → gathered_onto (gathered_onto g a) b ≡ gathered_onto g (both a b)
joined g a b =
    let faults : lesser_some fault_cmp (lesser_some fault_cmp g.fault (least fault_cmp a.faults)) (least fault_cmp b.faults) ≡ lesser_some fault_cmp g.fault (least fault_cmp (a.faults ++ b.faults))
    = some_assoc fault_cmp faults_total g.fault (least fault_cmp a.faults) (least fault_cmp b.faults)
    ∙ ap (lesser_some fault_cmp g.fault) (sym (least_append fault_cmp faults_total a.faults b.faults)) in
    λ i. record { puts = append_assoc g.puts a.puts b.puts i; pages = append_assoc g.pages a.pages b.pages i; fault = faults i }

put_there : (ps : List Put) (p : Put) (value : Field) (rest : List Put) → puts_with (length ps) value ((ps ++ p ∷ []) ++ rest) ≡ ps ++ put_with value p ∷ rest
put_there [] p value rest = refl
put_there (q ∷ ps) p value rest = ap (λ qs. q ∷ qs) (put_there ps p value rest)

set_there : (g : Gathering) (id key : Text) (old value : Field) (path : Path) (r : Report)
    → with_value (length g.puts) value (gathered_onto (gathered_onto g (put_at id key old path)) r) ≡ gathered_onto g (both (put_at id key value path) r)
set_there g id key old value path r =
    let puts = put_there g.puts (record { fact = record { id = id; key = key; value = old }; path = path }) value r.puts in
    let faults = some_assoc fault_cmp faults_total g.fault None (least fault_cmp r.faults) in
    λ i. record { puts = puts i; pages = append_assoc g.pages [] r.pages i; fault = faults i }

taken_alone : (r : Report) → verdict_of (gathered_onto nothing r) ≡ verdict r
taken_alone r = at (least fault_cmp r.faults)
  where
    at : (f : Option PayloadFault) → unless_fault f (record { puts = r.puts; pages = r.pages; faults = [] }) ≡ unless_fault f r
    at None = refl
    at (Some f) = refl

pub gathering_right : GatheringIsRight
gathering_right = record { joins = joined; set = set_there; verdict = taken_alone }
