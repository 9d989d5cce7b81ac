use Rattle.std.proofs.Common.{◌≡◌, Some, map, option_map, ap, ◌∙◌}
use Rattle.store_model.specs.Says.{fault_at}
use Rattle.store_model.specs.Verdicts.{fault_cmp}
use Rattle.store_model.specs.declared.payload_fault.PayloadFault.{PayloadFault}
use Rattle.store_report.proofs.GatherSteps.{with_fault}
use Rattle.store_report.proofs.gathered.Gathered.fault.Goals as goal
use Rattle.store_report.specs.Gathering.{gathered_onto, lesser_some}
use Rattle.store_report.specs.SaidFacts.{put_of, fault_of}

pub returns : goal.returns
returns c =
    let inside = c.self.inside in
    let f : PayloadFault = record { path = c.args.path.now; cause = c.args.cause } in
    let fault : Some (fault_of c.lesser.result) ≡ lesser_some fault_cmp (option_map fault_of inside.fault) (Some f)
    = c.lesser.ensures
    ∙ (λ i. lesser_some fault_cmp (option_map fault_of (c.take-first.ensures.value i)) (Some (record { path = c.in_ok-copy.ensures i; cause = c.args.cause }))) in
    (λ i. record { puts = map put_of inside.facts.items; pages = inside.pages.items; fault = fault i })
    ∙ with_fault (map put_of inside.facts.items) inside.pages.items (option_map fault_of inside.fault) f
    ∙ ap (λ g. gathered_onto g (fault_at c.args.path.now c.args.cause)) c.self.view_is
