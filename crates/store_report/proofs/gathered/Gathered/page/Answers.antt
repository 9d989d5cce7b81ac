use Rattle.std.proofs.Common.{[], ◌∷◌, map, option_map, ap, ◌∙◌}
use Rattle.store_model.specs.Says.{report_pages}
use Rattle.store_report.proofs.GatherSteps.{with_page}
use Rattle.store_report.proofs.gathered.Gathered.page.Goals as goal
use Rattle.store_report.specs.Gathering.{gathered_onto}
use Rattle.store_report.specs.SaidFacts.{put_of, fault_of}

pub returns : goal.returns
returns c =
    let inside = c.self.inside in
    rw c.in_ok-push.ensures.items
    (with_page (map put_of inside.facts.items) inside.pages.items (option_map fault_of inside.fault) c.args.page
    ∙ ap (λ g. gathered_onto g (report_pages (c.args.page ∷ []))) c.self.view_is)
