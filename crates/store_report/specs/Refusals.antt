-- When a fault is that of a verdict.
use Rattle.std.specs.Prelude.{◌≡◌}
use Rattle.store_model.specs.Verdicts.{Verdict, refusal}
use Rattle.store_report.specs.declared.fault.NormFault.{NormFault}
use Rattle.store_report.specs.declared.fault.NormFault.TheVariants.{Payload, NoMemory}

-- the verdict refuses for it; that memory is lacking says nothing of a verdict
abbrev pub IsRefusedBy : Verdict → NormFault → Type 0
IsRefusedBy v (Payload f) = v ≡ refusal f
IsRefusedBy v NoMemory = Unit {0}
