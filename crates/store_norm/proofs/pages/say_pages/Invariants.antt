-- What was put and what is left are the whole.
use Rattle.std.proofs.Common.{◌≡◌}
use Rattle.plan_ir.specs.store_model.Says.{report_pages}
use Rattle.store_norm.proofs.pages.say_pages.Given as goal
use Rattle.store_report.specs.Gathering.{gathered_onto}

abbrev pub invariant-pages : goal.invariant-pages
invariant-pages l =
    gathered_onto l.gathered (report_pages l.page-iterator.rest.items) ≡ gathered_onto l.initial.gathered (report_pages l.initial.page-iterator.rest.items)
